-- Entries of matrices, in the environment of a constructor's fields.
use Rattle.std.proofs.Common.{◌≡◌, ℕ, zero, suc, Bool, true, false, ◌&&◌, ◌==◌, cond, List, [], ◌∷◌, refl, sym, subst}
use Rattle.std.proofs.lemmas.Bool.{eqb-true}
use Rattle.std.proofs.lemmas.List.Elements.{All-nil, All-append}
use Rattle.lq_refined_instances.specs.Scopes.{Scope}
use Rattle.lq_refined_types.specs.Parts.Part.{Parts}
use Rattle.lq_logic_predicates.specs.declared.symbol.Symbol.{Symbol}
use Rattle.lq_logic_predicates.specs.declared.symbol.Symbol.TheVariants.{Position, Value}
use Rattle.lq_logic_predicates.specs.Sum.{same_symbol}
use Rattle.lq_refined_types.specs.Types.Context.{Context, guard, name}
use Rattle.lq_refined_types.specs.Types.Refined.{Cell, Matrix, Refineds, none, more, data_with, Kind, kind, top, type_at, count, all_erased}
use Rattle.lq_refined_types.specs.Types.Unfolding.{bare, cell, is_again, pushed, unfolded_from}
use Rattle.lq_sound_values.specs.Inclusion.Symbols.{Symbols, with_symbol}
use Rattle.lq_sound_values.specs.Runs.Closed.{names_in}
use Rattle.lq_text_qualifiers.specs.Faults.Shapes.{Shape, int, bool, array, data_of, shape_of}
use Rattle.lq_text_qualifiers.specs.Faults.Shapes as shape
use Rattle.lq_refined_types.specs.Subtyping.Implication.{Implication, Origin, goals}
use Rattle.lq_refined_types.specs.Subtyping.Splitting.{cells}
use Rattle.lq_refined_types.specs.Subtyping.Subtype.{Setting, cell_context, facts, fields_of, with_fields, with_guards}
use Rattle.lq_refined_templates.specs.Templates.Cells.{field_scope}
use Rattle.lq_refined_templates.specs.Templates.Scopes.{Unknown, with_position}
use Rattle.lq_text_tree.specs.MlType as ml
use Rattle.lq_text_tree.specs.MlType.{MlType, MlTypes}
use Rattle.lq_text_tree.specs.Types as types
use Rattle.lq_text_tree.specs.Types.{Signature, count_types, put}
use Rattle.lq_sound_scope.specs.Scopes.Over.{AreWithin, CellsOver, IsWithin, Names, PartsOver, TopOver, TypesOver, cell_names, kind_of, of_any_sort, scope_names, with_sort}
use Rattle.lq_sound_scope.proofs.ScopesLemmas.Assigned.{or_cases}
use Rattle.lq_sound_scope.proofs.ScopesLemmas.Symbols.{IsIn, ScopeIn, in_any, same_is, scope_with, within_sort}
use Rattle.lq_sound_scope.specs.Operations.Laws.{KeepNames}
use Rattle.lq_sound_scope.specs.Splits.Bound.{IsBoundFrom, names_and_value, names_of}
use Rattle.lq_sound_scope.proofs.SplitsLemmas.Forms.{same_kinds}
use Rattle.lq_sound_scope.proofs.SplitsLemmas.Parts as parts
use Rattle.lq_sound_scope.proofs.SplitsLemmas.Parts.{any_within, both_within, goals_bound, guards_extend, guards_facts, name_within, own_name, parts_wide, sort_more, top_wide, with_name}

-- ---- scopes of entries

-- names that have the symbols of a scope have those of its names
added : (T U : Symbols) (x : Symbol) → IsWithin T U → U x ≡ true → IsWithin (with_symbol T x) U
added T U x w h y e = or_cases (T y) (same_symbol x y) (U y ≡ true) e (w y) (λ k. subst (λ (z : Symbol). U z ≡ true) (same_is x y k) h)

one_within : (N M : Names) → AreWithin N M → (s : Shape) (x : Symbol) → IsIn M s x → AreWithin (with_sort N (kind_of s) x) M
one_within N M w int x h = record { terms = added N.terms M.terms x w.terms h; flags = w.flags }
one_within N M w bool x h = record { terms = w.terms; flags = added N.flags M.flags x w.flags h }
one_within N M w array x h = record { terms = added N.terms M.terms x w.terms h; flags = w.flags }
one_within N M w (data_of d) x h = record { terms = added N.terms M.terms x w.terms h; flags = w.flags }
one_within N M w shape.other x h = w

scope_within : (M : Names) (Γ : Scope) → ScopeIn M Γ → AreWithin (scope_names Γ) M
scope_within M [] h = record { terms = λ x e. absurd (no e); flags = λ x e. absurd (no e) }
  where
    no : false ≡ true → ⊥
    no z = cc
scope_within M (e ∷ Γ) h = one_within (scope_names Γ) M (scope_within M Γ h.1) e.1 e.0 h.0

-- the positions of the fields from the j-th on
abbrev PositionsIn : Symbols → ℕ → MlTypes → Type 0
PositionsIn N j ml.no_types = Unit {0}
PositionsIn N j (ml.more_types f fs) = (N (Position (suc j)) ≡ true) × PositionsIn N (suc j) fs

fields_scope : (N : Symbols) (d : ℕ) (us : MlTypes) (j : ℕ) (fs : MlTypes) (Γ : Scope) → PositionsIn N j fs → ScopeIn (of_any_sort N) Γ
    → ScopeIn (of_any_sort N) (field_scope d us j fs Γ)
fields_scope N d us j ml.no_types Γ h w = w
fields_scope N d us j (ml.more_types f fs) Γ h w =
    let s = shape_of (put (types.type_at us) f) in
    fields_scope N d us (suc j) fs (cond (is_again d (count_types us) f) Γ (with_position j s Γ)) h.1 (by (is_again d (count_types us) f))
  where
    by : (b : Bool) → ScopeIn (of_any_sort N) (cond b Γ (with_position j (shape_of (put (types.type_at us) f)) Γ))
    by true = w
    by false =
        let s = shape_of (put (types.type_at us) f) in
        scope_with (of_any_sort N) (Position (suc j)) s Γ w (in_any N s (Position (suc j)) h.0)

-- ---- entries

and_first : (a b : Bool) → (a && b) ≡ true → a ≡ true
and_first true b h = refl
and_first false b h = h

and_second : (a b : Bool) → (a && b) ≡ true → b ≡ true
and_second true b h = h
and_second false b h = cc

-- what an entry at a constructor and a parameter may speak of
abbrev names_at : Signature → ℕ → Refineds → ℕ → ℕ → Names
names_at g d ts c i = with_sort (scope_names (field_scope d (all_erased ts) 0 (fields_of (g c)) [])) (kind (type_at ts i)) Value

cell_over : (g : Signature) (unknowns : ℕ → Unknown) (d : ℕ) (ts : Refineds) (m : Matrix) → CellsOver g unknowns d ts m → (c j i : ℕ)
    → PartsOver unknowns (names_at g d ts c i) (cell m c j i)
cell_over g unknowns d ts [] h c j i = tt
cell_over g unknowns d ts (e ∷ m) h c j i =
    by (e.constructor == c && (e.field == j && e.parameter == i)) refl (cell_over g unknowns d ts m h.1 c j i)
  where
    by : (b : Bool) → (e.constructor == c && (e.field == j && e.parameter == i)) ≡ b → PartsOver unknowns (names_at g d ts c i) (cell m c j i)
        → PartsOver unknowns (names_at g d ts c i) (cond b e.parts (cell m c j i))
    by false f k = k
    by true f k =
        let same_c = eqb-true e.constructor c (and_first (e.constructor == c) (e.field == j && e.parameter == i) f) in
        let both = and_second (e.constructor == c) (e.field == j && e.parameter == i) f in
        let same_i = eqb-true e.parameter i (and_second (e.field == j) (e.parameter == i) both) in
        subst (λ (y : ℕ). PartsOver unknowns (names_at g d ts c y) e.parts) same_i
        (subst (λ (z : ℕ). PartsOver unknowns (names_at g d ts z e.parameter) e.parts) same_c h.0)

-- ---- fields

fields_within : (j : ℕ) (ts : Refineds) (Γ : Context) → IsWithin (names_in Γ) (names_in (with_fields j ts Γ))
fields_within j none Γ y h = h
fields_within j (more t ts) Γ y h =
    fields_within (suc j) ts (name (Position (suc j)) t ∷ Γ) y (name_within Γ (Position (suc j)) t y h)

guards_within : (qs : Parts) (Γ : Context) → IsWithin (names_in Γ) (names_in (with_guards qs Γ))
guards_within [] Γ y h = h
guards_within (q ∷ qs) Γ y h = guards_within qs (guard q ∷ Γ) y h

module _ (P : Setting) (unknowns : ℕ → Unknown) (keep : KeepNames P.constructors unknowns P.scopes) where
  abbrev TopsOver : Names → Refineds → Type 0
  TopsOver N none = Unit {0}
  TopsOver N (more t ts) = TopOver unknowns N t × TopsOver N ts

  tops_wide : (N M : Names) → AreWithin N M → (ts : Refineds) → TopsOver N ts → TopsOver M ts
  tops_wide N M w none h = tt
  tops_wide N M w (more t ts) h = (top_wide P unknowns keep N M w t h.0, tops_wide N M w ts h.1)

  top_there : (N : Names) (ts : Refineds) → TypesOver P.constructors unknowns N ts → (i : ℕ) → TopOver unknowns N (type_at ts i)
  top_there N none h i = tt
  top_there N (more t ts) h zero = h.1
  top_there N (more t ts) h (suc i) = top_there N ts h.2 i

  bare_top : (N : Names) (ts : Refineds) → TypesOver P.constructors unknowns N ts → (f : MlType) → TopOver unknowns N (bare ts f)
  bare_top N ts h ml.int = tt
  bare_top N ts h ml.bool = tt
  bare_top N ts h ml.unit = tt
  bare_top N ts h (ml.var i) = top_there N ts h i
  bare_top N ts h (ml.arrow a b) = tt
  bare_top N ts h (ml.tuple us) = tt
  bare_top N ts h (ml.array a) = tt
  bare_top N ts h (ml.named e us) = tt
  bare_top N ts h (ml.map_of a) = tt

  -- the fields as more names
  module _ (X : Symbols) (start : Context) (positions : (i : ℕ) → X (Position i) ≡ true) where
    with_all : (j : ℕ) (ts : Refineds) (Γ : Context) → parts.IsEnvironment P unknowns keep X start Γ → TopsOver (names_of Γ) ts
        → parts.IsEnvironment P unknowns keep X start (with_fields j ts Γ)
    with_all j none Γ h w = h
    with_all j (more t ts) Γ h w =
        let x = Position (suc j) in
        with_all (suc j) ts (name x t ∷ Γ) (with_name P unknowns keep X start Γ x t h (positions (suc j)) w.0)
        (tops_wide (names_of Γ) (names_of (name x t ∷ Γ)) (any_within (names_in Γ) (names_in (name x t ∷ Γ)) (name_within Γ x t)) ts w.1)

  module _ (d : ℕ) (ts : Refineds) (m : Matrix) (c : ℕ) where
    abbrev fields : ℕ → MlTypes → Refineds
    fields j fs = unfolded_from P.scopes [] d ts m c j fs

    fields_tops : (N : Names) → TypesOver P.constructors unknowns N ts → (j : ℕ) (fs : MlTypes) → TopsOver N (fields j fs)
    fields_tops N h j ml.no_types = tt
    fields_tops N h j (ml.more_types f fs) = (by (is_again d (count ts) f), fields_tops N h (suc j) fs)
      where
        by : (b : Bool) → TopOver unknowns N (cond b (data_with d (pushed P.scopes [] m c j 0 ts) m []) (bare ts f))
        by true = tt
        by false = bare_top N ts h f

    fields_there : (j : ℕ) (fs : MlTypes) (Γ : Context) → PositionsIn (names_in (with_fields j (fields j fs) Γ)) j fs
    fields_there j ml.no_types Γ = tt
    fields_there j (ml.more_types f fs) Γ =
        let x = Position (suc j) in
        let t = cond (is_again d (count ts) f) (data_with d (pushed P.scopes [] m c j 0 ts) m []) (bare ts f) in
        (fields_within (suc j) (fields (suc j) fs) (name x t ∷ Γ) x (own_name Γ x t), fields_there (suc j) fs (name x t ∷ Γ))

  -- ---- implications of entries

  module _ (X : Symbols) (start : Context) (positions : (i : ℕ) → X (Position i) ≡ true) (o : Origin) (Γ : Context)
      (h : parts.IsEnvironment P unknowns keep X start Γ) (d : ℕ) (ts rs : Refineds) (m : Matrix)
      (types_over : TypesOver P.constructors unknowns (names_of Γ) ts) (left : CellsOver P.constructors unknowns d ts m)
      (same : all_erased ts ≡ all_erased rs) where
    abbrev entry_goals : Cell → List Implication
    entry_goals e = goals (facts P (cell_context P Γ d ts m e)) (cell m e.constructor e.field e.parameter) e.parts o

    one_bound : (e : Cell) → PartsOver unknowns (cell_names P.constructors unknowns d rs e) e.parts → parts.AllBound P unknowns keep X start (entry_goals e)
    one_bound e w =
        let fs = fields_of (P.constructors e.constructor) in
        let us = unfolded_from P.scopes [] d ts m e.constructor 0 fs in
        let Λ = with_fields 0 us Γ in
        let N = names_in Λ in
        let guards = top (type_at ts e.parameter) in
        let Δ = with_guards guards Λ in
        let k = kind (type_at ts e.parameter) in
        let V = names_and_value Δ k in
        -- the environment
        let more = any_within N (names_in Δ) (guards_within guards Λ) in
        let fields_over = with_all X start positions 0 us Γ h (fields_tops d ts m e.constructor (names_of Γ) types_over 0 fs) in
        let outer = both_within (names_of Γ) (names_of Λ) (names_of Δ) (any_within (names_in Γ) N (fields_within 0 us Γ)) more in
        let guard_over = parts_wide P unknowns keep (with_sort (names_of Γ) k Value) V (sort_more (names_of Γ) (names_of Δ) outer k Value) guards
        (top_there (names_of Γ) ts types_over e.parameter) in
        let known = guards_facts P unknowns keep V guards Λ
        (parts_wide P unknowns keep (names_of Λ) V (both_within (names_of Λ) (names_of Δ) V more (within_sort (names_of Δ) k Value)) (facts P Λ) fields_over.1)
        guard_over in
        -- the entries
        let own = λ (vs : MlTypes).
        sort_more (scope_names (field_scope d vs 0 fs [])) (names_of Δ)
        (both_within (scope_names (field_scope d vs 0 fs [])) (names_of Λ) (names_of Δ)
        (scope_within (names_of Λ) (field_scope d vs 0 fs []) (fields_scope N d vs 0 fs [] (fields_there d ts m e.constructor 0 fs Γ) tt)) more)
        k Value in
        let left_over = parts_wide P unknowns keep (names_at P.constructors d ts e.constructor e.parameter) V (own (all_erased ts))
        (cell m e.constructor e.field e.parameter) (cell_over P.constructors unknowns d ts m left e.constructor e.field e.parameter) in
        let here : PartsOver unknowns (with_sort (scope_names (field_scope d (all_erased rs) 0 fs [])) k Value) e.parts =
        subst (λ (z : Kind). PartsOver unknowns (with_sort (scope_names (field_scope d (all_erased rs) 0 fs [])) z Value) e.parts)
        (sym (same_kinds ts rs same e.parameter)) w in
        let goal_over = parts_wide P unknowns keep (with_sort (scope_names (field_scope d (all_erased rs) 0 fs [])) k Value) V (own (all_erased rs)) e.parts here in
        goals_bound P unknowns keep X start Δ k o (cell m e.constructor e.field e.parameter) e.parts (guards_extend P unknowns keep X start guards Λ fields_over.0)
        known left_over goal_over

    pub cells_bound : (n : Matrix) → CellsOver P.constructors unknowns d rs n → parts.AllBound P unknowns keep X start (cells P o Γ d ts m n)
    cells_bound [] w = All-nil (IsBoundFrom P unknowns X start)
    cells_bound (e ∷ n) w = All-append (IsBoundFrom P unknowns X start) (entry_goals e) (cells P o Γ d ts m n) (one_bound e w.0) (cells_bound n w.1)
