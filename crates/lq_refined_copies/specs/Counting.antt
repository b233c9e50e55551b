-- How many symbols there are in the scopes of tables, and in completed ones.
use Rattle.std.specs.Prelude.{◌≡◌, ℕ, ◌+◌, ◌-◌, ◌^◌, ◌<◌, ◌≤◌, min, List, [], ◌∷◌, ◌++◌, length, slice_index_or, Option, Some, None, IfSome, if◌then◌else◌}
use Rattle.std.specs.declared.alloc.Global.{Global}
use Rattle.std.specs.declared.vec.Vec.{Vec}
use Rattle.lq_refined_instances.specs.Counting.{symbol_count}
use Rattle.lq_refined_instances.specs.Scopes.{scope_in, symbols_of, without, IsCounted, Scope}
use Rattle.lq_refined_instances.specs.Seen.{hidden_view, visible_view}
use Rattle.lq_refined_instances.specs.declared.scopes.Addition.{Addition}
use Rattle.lq_logic_predicates.specs.declared.symbol.Symbol.TheVariants.{Value, Bound, Position}
use Rattle.lq_text_qualifiers.specs.Sorting.Views.{asked_view}
use Rattle.lq_text_qualifiers.specs.declared.sorting.shape.Shape as held
use Rattle.lq_text_qualifiers.specs.Faults.Shapes.{int, is_same, Shape}

-- the shape of the mark with which a scope begins
abbrev pub mark_of : Scope → Option Shape
mark_of [] = None
mark_of ((Value, s) ∷ Δ) = Some s
mark_of ((Bound x, s) ∷ Δ) = None
mark_of ((Position k, s) ∷ Δ) = None

-- how many symbols of a shape a completed scope has, where so many are outside and so many in the pattern's scope
abbrev pub completed_count : Shape → ℕ → ℕ → Option Shape → ℕ
completed_count s outer inner None = inner
completed_count s outer inner (Some t) = min (outer + (inner - (if is_same s t then 1 else 0))) (2 ^ 64 - 1)

-- what the last symbol of a scope is, and that as many symbols are hidden as it says
pub record IsStep (all : List Scope) (at : ℕ) (a : Addition) : Type 0 where
  pub earlier : a.parent < at
  pub shown : scope_in all at ≡ without (hidden_view a.hidden) (scope_in all a.parent) ++ visible_view a.visible ∷ []
  pub counted : IsCounted (hidden_view a.hidden) (scope_in all a.parent)

-- of some scopes the last symbol is known
abbrev pub AreSteps : List Scope → List (Option Addition) → Type 0
AreSteps all steps = (i : ℕ) → i < length steps → IfSome (slice_index_or steps i None) (IsStep all i)

-- how many symbols of a shape there are in the first scopes of a table
abbrev pub AreCounts : Shape → List Scope → List ℕ → Type 0
AreCounts s all c = (i : ℕ) → i < length c → slice_index_or c i 0 ≡ symbol_count s (scope_in all i)

-- how many there are in each; there are none past the last one
abbrev pub IsColumn : Shape → List Scope → List ℕ → Type 0
IsColumn s all c = (i : ℕ) → slice_index_or c i 0 ≡ symbol_count s (scope_in all i)

pub record AreColumns (ss : List Shape) (all : List Scope) (cs : List (Vec ℕ Global)) : Type 0 where
  pub count : length cs ≡ length ss
  pub each : (k : ℕ) (d : Vec ℕ Global) → k < length cs → IsColumn (slice_index_or ss k int) all (slice_index_or cs k d).items

-- the marks of the first scopes of a table, and of all of them
abbrev pub HaveMarks : List Scope → List (Option held.Shape) → Type 0
HaveMarks all ms = (i : ℕ) → i < length ms → asked_view (slice_index_or ms i None) ≡ mark_of (scope_in all i)

abbrev pub AreMarks : List Scope → List (Option held.Shape) → Type 0
AreMarks all ms = (i : ℕ) → asked_view (slice_index_or ms i None) ≡ mark_of (scope_in all i)

-- a scope has no more symbols than 64 bits count
abbrev pub IsSmall : Scope → Type 0
IsSmall Δ = (s : Shape) → length (symbols_of Δ s) ≤ 2 ^ 64 - 1

abbrev pub AreSmall : List Scope → Type 0
AreSmall all = (i : ℕ) → IsSmall (scope_in all i)
