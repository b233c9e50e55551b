-- Hypotheses of environments, and lists of implications.
use Rattle.std.proofs.Common.{◌≡◌, ℕ, Bool, true, false, ◌||◌, ◌&&◌, cond, List, [], ◌∷◌, refl, subst}
use Rattle.std.specs.List.{All}
use Rattle.std.proofs.lemmas.List.Elements.{All-nil, All-cons}
use Rattle.lq_sound_scope.specs.Splits.Bound.{Extends, one_guard, one_name}
use Rattle.lq_sound_values.specs.Inclusion.Symbols.{Symbols}
use Rattle.lq_refined_types.specs.Parts.Part.{Parts, is_truth, parts_by}
use Rattle.lq_refined_types.specs.Parts.Substitution.{swap}
use Rattle.lq_logic_predicates.specs.Sum.{same_symbol}
use Rattle.lq_logic_predicates.specs.declared.symbol.Symbol.{Symbol}
use Rattle.lq_logic_predicates.specs.declared.symbol.Symbol.TheVariants.{Value}
use Rattle.lq_refined_types.specs.Types.Context.{Context, guard, name}
use Rattle.lq_refined_types.specs.Types.Operations.{atom_of}
use Rattle.lq_refined_types.specs.Types.Refined.{Refined, Kind, number, truth_value, object, other, kind, top}
use Rattle.lq_refined_types.specs.Subtyping.Implication.{Implication, Origin, goals}
use Rattle.lq_refined_types.specs.Subtyping.Splitting.{tops}
use Rattle.lq_refined_types.specs.Subtyping.Subtype.{Setting, facts, with_guards}
use Rattle.lq_refined_templates.specs.Templates.Scopes.{Unknown, symbols_in}
use Rattle.lq_sound_scope.specs.Sorts.Sorts.{IsAtomOf, Sorts, is_one, with_kind}
use Rattle.lq_sound_scope.specs.Sorts.Types.{PartsSorted, TopSorted}
use Rattle.lq_sound_scope.proofs.SortsLemmas.Basics.{one_stands, own_stands, wider_kind, within_kind}
use Rattle.lq_sound_scope.proofs.SortsLemmas.Parts.{parts_joined, parts_put, parts_within}
use Rattle.lq_sound_adequacy.specs.Implications.Sorted.{IsSortedFrom, sorts_and_value, sorts_of}

-- a symbol as what stands for a value of its kind
own_atom : (N : Sorts) (k : Kind) (x : Symbol) → IsAtomOf (with_kind N k x) k (atom_of k x)
own_atom N number x = own_stands N number x
own_atom N truth_value x = own_stands N truth_value x
own_atom N object x = own_stands N object x
own_atom N other x = tt

clash : (a : Bool) → a ≡ true → a ≡ false → ⊥
clash true h w = cc
clash false h w = cc

none_more : (a b c : Bool) → a ≡ false → c ≡ false → (a || (b && c)) ≡ false
none_more false true c e f = f
none_more false false c e f = refl
none_more true b c e f = cc

-- v is none of these
abbrev pub LacksValue : Sorts → Type 0
LacksValue N = (k : Kind) → N k Value ≡ false

pub lacks_more : (N : Sorts) → LacksValue N → (k : Kind) (x : Symbol) → same_symbol x Value ≡ false → LacksValue (with_kind N k x)
lacks_more N l k x e j = none_more (N j Value) (is_one k j) (same_symbol x Value) (l j) e

module _ (P : Setting) (unknowns : ℕ → Unknown) (agree : (u : ℕ) → P.scopes u ≡ symbols_in (unknowns u).0) where
  -- a name for v, in an environment with it
  pub parts_value : (N : Sorts) → LacksValue N → (k : Kind) (x : Symbol) → same_symbol x Value ≡ false → (qs : Parts) → PartsSorted unknowns (with_kind N k Value) qs
      → PartsSorted unknowns (with_kind N k x) (parts_by P.scopes (swap Value (atom_of k x) ∷ []) qs)
  parts_value N l k x e qs h =
      let V = with_kind N k x in
      let a = atom_of k x in
      parts_put unknowns P.scopes agree V (with_kind V k Value) (swap Value a ∷ [])
      (one_stands V k Value a (λ j f. absurd (clash (V j Value) f (lacks_more N l k x e j))) (own_atom N k x)) qs
      (parts_within unknowns (with_kind N k Value) (with_kind V k Value) (wider_kind N V (within_kind N k x) k Value) qs h)

  -- guards, which may speak of more names
  pub guards_facts : (N : Sorts) (qs : Parts) (Γ : Context) → PartsSorted unknowns N (facts P Γ) → PartsSorted unknowns N qs
      → PartsSorted unknowns N (facts P (with_guards qs Γ))
  guards_facts N [] Γ h w = h
  guards_facts N (q ∷ qs) Γ h w = guards_facts N qs (guard q ∷ Γ) (parts_joined unknowns N (facts P Γ) (q ∷ []) h (w.0, tt)) w.1

  -- Environments with more entries than one, for names of these.
  module _ (X : Symbols) (start : Context) where
    -- one whose hypotheses are well sorted over its names
    abbrev pub IsEnvironment : Context → Type 0
    IsEnvironment Γ = Extends X start Γ × PartsSorted unknowns (sorts_of Γ) (facts P Γ) × LacksValue (sorts_of Γ)

    -- one more name
    pub with_name : (Γ : Context) (x : Symbol) (t : Refined) → IsEnvironment Γ → X x ≡ true → same_symbol x Value ≡ false → TopSorted unknowns (sorts_of Γ) t
        → IsEnvironment (name x t ∷ Γ)
    with_name Γ x t h e n w =
        let N = sorts_of Γ in
        let M = with_kind N (kind t) x in (
          one_name e h.0,
          parts_joined unknowns M (facts P Γ) (parts_by P.scopes (swap Value (atom_of (kind t) x) ∷ []) (top t))
              (parts_within unknowns N M (within_kind N (kind t) x) (facts P Γ) h.1) (parts_value N h.2 (kind t) x n (top t) w),
          lacks_more N h.2 (kind t) x n,
        )

    pub guards_extend : (qs : Parts) (Γ : Context) → Extends X start Γ → Extends X start (with_guards qs Γ)
    guards_extend [] Γ h = h
    guards_extend (q ∷ qs) Γ h = guards_extend qs (guard q ∷ Γ) (one_guard h)

    -- ---- lists of implications

    abbrev IsS : Implication → Type 0
    IsS = IsSortedFrom P unknowns X start

    abbrev pub AllSorted : List Implication → Type 0
    AllSorted is = All IsS is

    pub goals_sorted : (Γ : Context) (k : Kind) (o : Origin) (ls qs : Parts) → Extends X start Γ
        → PartsSorted unknowns (sorts_and_value Γ k) (facts P Γ) → PartsSorted unknowns (sorts_and_value Γ k) ls
        → PartsSorted unknowns (sorts_and_value Γ k) qs → AllSorted (goals (facts P Γ) ls qs o)
    goals_sorted Γ k o ls [] e h l g = All-nil IsS
    goals_sorted Γ k o ls (q ∷ qs) e h l g = by (is_truth q) (goals_sorted Γ k o ls qs e h l g.1)
      where
        own : Implication
        own = record { hypotheses = facts P Γ; left = ls; goal = q; origin = o }

        by : (b : Bool) → AllSorted (goals (facts P Γ) ls qs o) → AllSorted (cond b (goals (facts P Γ) ls qs o) (own ∷ goals (facts P Γ) ls qs o))
        by true rest = rest
        by false rest =
            All-cons IsS own (goals (facts P Γ) ls qs o) (Γ, (k, e, record { are = refl; hypotheses = h; left = l; goal = g.0 })) rest

    -- of the tops of two types
    pub tops_sorted : (Γ : Context) (o : Origin) (l r : Refined) → IsEnvironment Γ → TopSorted unknowns (sorts_of Γ) l → TopSorted unknowns (sorts_of Γ) r
        → kind r ≡ kind l → AllSorted (tops P o Γ l r)
    tops_sorted Γ o l r h w v e =
        goals_sorted Γ (kind l) o (top l) (top r) h.0
        (parts_within unknowns (sorts_of Γ) (sorts_and_value Γ (kind l)) (within_kind (sorts_of Γ) (kind l) Value) (facts P Γ) h.1) w
        (subst (λ (k : Kind). PartsSorted unknowns (sorts_and_value Γ k) (top r)) e v)
