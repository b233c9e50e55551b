-- Equations of measures are well sorted.
use Rattle.std.proofs.Common.{◌≡◌, ◌∙◌, ℕ, zero, suc, Bool, true, false, List, [], ◌∷◌, ◌++◌, map, Option, Some, None, slice_get, if◌then◌else◌, refl, sym, ap, subst}
use Rattle.std.specs.Prelude.{◌==◌}
use Rattle.std.specs.List.{flat_map}
use Rattle.std.proofs.lemmas.Bool.{eqb-true}
use Rattle.lq_generate_datatypes.specs.Equations.{place_in}
use Rattle.lq_sound_scope.specs.Scopes.Over.{kind_of}
use Rattle.lq_refined_measures.specs.Equations.Facts.{equation_at, equation_of, field_by, measure_name, measured_by, measures_of, operated, or_zero}
use Rattle.lq_refined_measures.specs.Equations.Facts as facts
use Rattle.lq_base_names.specs.declared.operation.ArithOp.{ArithOp}
use Rattle.lq_base_names.specs.declared.operation.ArithOp.TheVariants as op
use Rattle.lq_refined_types.specs.Parts.Substitution.{of_sum}
use Rattle.lq_logic_predicates.specs.Formula.{Formula}
use Rattle.lq_logic_predicates.specs.Sum.{Sum, var}
use Rattle.lq_logic_predicates.specs.declared.symbol.Symbol.{Symbol}
use Rattle.lq_logic_predicates.specs.declared.symbol.Symbol.TheVariants.{Position, Value}
use Rattle.lq_refined_types.specs.Types.Refined.{Kind, number, truth_value, object, other}
use Rattle.lq_sound_programs.specs.Scenes.Scenes.{equations_at, positions_from}
use Rattle.lq_text_walk.specs.Scoped.Signature.{signature_in}
use Rattle.lq_text_qualifiers.specs.Sorting.Rules.{MeasuresBecome}
use Rattle.lq_text_qualifiers.specs.Sorting.Sorted.{Measure, Variable, value, field_at, placeholder_at, Term, literal, variable, length_of, measured, operation, negative}
use Rattle.lq_text_qualifiers.specs.Faults.Shapes.{shape_of}
use Rattle.lq_text_tree.specs.MlType.{MlTypes, no_types, more_types}
use Rattle.lq_text_tree.specs.Types.{count_types, type_at}
use Rattle.lq_sound_scope.specs.Sorts.Equations.{with_fields}
use Rattle.lq_sound_scope.specs.Sorts.Sorts.{AreWellSorted, IsAtomOf, IsNumber, IsObject, Sorts, no_sorts, with_kind}
use Rattle.lq_sound_scope.proofs.SortsLemmas.Basics.{atom_within, own_stands, within_kind}
use Rattle.lq_sound_texts.specs.Measures.Laws.{TextMeasuresAreSorted}
use Rattle.lq_sound_texts.proofs.MeasuresLemmas.Fitting.{AllSuit, all_suit}
use Rattle.lq_sound_texts.proofs.MeasuresLemmas.Terms.{IsCountedKind, Suits, SuitsVariable}

-- ---- fields at their kinds

own_atom : (N : Sorts) (k : Kind) (x : Symbol) → IsCountedKind k → IsAtomOf (with_kind N k x) k (of_sum (var x))
own_atom N number x c = own_stands N number x
own_atom N truth_value x c = absurd c
own_atom N object x c = own_stands N object x
own_atom N other x c = absurd c

field_sorted : (j : ℕ) (fs : MlTypes) (n : ℕ) (k : Kind) → IsCountedKind k → kind_of (shape_of (type_at fs n)) ≡ k
    → IsAtomOf (with_fields no_sorts j fs) k (of_sum (or_zero (slice_get (positions_from j (count_types fs)) n)))
field_sorted j no_types n k c e = absurd (subst IsCountedKind (sym e) c)
field_sorted j (more_types f fs) zero k c e =
    let M : Sorts = with_fields no_sorts (suc j) fs in
    subst (λ (z : Kind). IsAtomOf (with_kind M z (Position (suc j))) k (of_sum (var (Position (suc j))))) (sym e) (own_atom M k (Position (suc j)) c)
field_sorted j (more_types f fs) (suc n) k c e =
    let M : Sorts = with_fields no_sorts (suc j) fs in
    atom_within M (with_fields no_sorts j (more_types f fs)) (within_kind M (kind_of (shape_of f)) (Position (suc j))) k
    (of_sum (or_zero (slice_get (positions_from (suc j) (count_types fs)) n))) (field_sorted (suc j) fs n k c e)

-- ---- terms

module _ (names : List ℕ) (fs : MlTypes) where
  -- v, and the fields at their kinds
  abbrev pub N : Sorts
  N = with_kind (with_fields no_sorts 0 fs) object Value

  variable_sorted : (k : Kind) (x : Variable) → IsCountedKind k → SuitsVariable fs k x → IsAtomOf N k (of_sum (field_by (positions_from 0 (count_types fs)) x))
  variable_sorted k value c h = absurd h
  variable_sorted k (field_at n) c h =
      atom_within (with_fields no_sorts 0 fs) N (within_kind (with_fields no_sorts 0 fs) object Value) k
      (of_sum (or_zero (slice_get (positions_from 0 (count_types fs)) n))) (field_sorted 0 fs n k c h)
  variable_sorted k (placeholder_at n) c h = absurd h

  measure_sorted : (o : Option ℕ) (a : Sum) → IsObject N a → IsNumber N (measured_by o a)
  measure_sorted None a h = tt
  measure_sorted (Some f) a h = h

  operated_sorted : (o : ArithOp) (a b : Sum) → IsNumber N a → IsNumber N b → IsNumber N (operated o a b)
  operated_sorted op.Add a b h w = (h, w)
  operated_sorted op.Sub a b h w = (h, w)
  operated_sorted op.Mul a b h w = (h, w)
  operated_sorted op.Div a b h w = (h, w)
  operated_sorted op.Mod a b h w = (h, w)

  term_sorted : (t : Term) → Suits fs t → IsNumber N (facts.with_fields names (positions_from 0 (count_types fs)) t)
  term_sorted (literal n) h = tt
  term_sorted (variable x) h = variable_sorted number x tt h
  term_sorted (length_of x) h = variable_sorted object x tt h
  term_sorted (measured n x) h = measure_sorted (slice_get names n) (field_by (positions_from 0 (count_types fs)) x) (variable_sorted object x tt h)
  term_sorted (operation o a b) h =
      let xs = positions_from 0 (count_types fs) in
      operated_sorted o (facts.with_fields names xs a) (facts.with_fields names xs b) (term_sorted a h.0) (term_sorted b h.1)
  term_sorted (negative a) h = term_sorted a h

  -- ---- equations

  both_sorted : (ps qs : List Formula) → AreWellSorted N ps → AreWellSorted N qs → AreWellSorted N (ps ++ qs)
  both_sorted [] qs h w = w
  both_sorted (p ∷ ps) qs h w = (h.0, both_sorted ps qs h.1 w)

  one_sorted : (f : ℕ) (o : Option Term) → ((t : Term) → o ≡ Some t → Suits fs t)
      → AreWellSorted N (equation_of names (positions_from 0 (count_types fs)) (var Value) f o)
  one_sorted f None h = tt
  one_sorted f (Some t) h = ((own_stands (with_fields no_sorts 0 fs) object Value, term_sorted t (h t refl)), tt)

  measures_sorted : (d place : ℕ) (ks : List Measure)
      → ((i : ℕ) (m : Measure) (t : Term) → slice_get ks i ≡ Some m → m.datatype ≡ d → slice_get m.terms place ≡ Some t → Suits fs t)
      → AreWellSorted N (flat_map (equation_at names (positions_from 0 (count_types fs)) (var Value) place) (measures_of ks d))
  measures_sorted d place [] h = tt
  measures_sorted d place (m ∷ ks) h = by (m.datatype == d) refl (measures_sorted d place ks (λ i k t e. h (suc i) k t e))
    where
      by : (b : Bool) → (m.datatype == d) ≡ b
          → AreWellSorted N (flat_map (equation_at names (positions_from 0 (count_types fs)) (var Value) place) (measures_of ks d))
          → AreWellSorted N (flat_map (equation_at names (positions_from 0 (count_types fs)) (var Value) place) (if b then m ∷ measures_of ks d else measures_of ks d))
      by true e rest =
          both_sorted (equation_at names (positions_from 0 (count_types fs)) (var Value) place m)
          (flat_map (equation_at names (positions_from 0 (count_types fs)) (var Value) place) (measures_of ks d))
          (one_sorted m.name (slice_get m.terms place) (λ t g. h 0 m t refl (eqb-true m.datatype d e) g)) rest
      by false e rest = rest

pub measures_are_sorted : MeasuresBecome → TextMeasuresAreSorted
measures_are_sorted become P ds ms is of c k e =
    subst (AreWellSorted (N (map measure_name ms) k.fields)) (sym (is.equations c ∙ ap (equations_at ms (place_in ds) c) there))
    (measures_sorted (map measure_name ms) k.fields k.datatype (place_in ds c) ms suits)
  where
    there : signature_in ds c ≡ Some k
    there = sym (is.constructors c) ∙ e

    suits : AllSuit ds ms c k
    suits = subst (λ ks. AllSuit ds ks c k) (sym of.made) (all_suit become ds of.trees of.names of.none c k there)
