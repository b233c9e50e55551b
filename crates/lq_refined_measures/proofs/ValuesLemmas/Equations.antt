-- Each equation is true of the value.
use Rattle.std.proofs.Common.{◌≡◌, ◌∙◌, ℕ, suc, Bool, true, false, cond, ◌==◌, List, [], ◌∷◌, ◌++◌, map, Option, Some, None, slice_get, length, refl, sym, ap}
use Rattle.std.specs.List.{flat_map}
use Rattle.std.proofs.lemmas.Bool.{eqb-true}
use Rattle.std.proofs.lemmas.Bool.Decides.{Decides-int_eq}
use Rattle.lq_refined_measures.specs.Equations.Facts.{equation_at, equation_of, measure_name, measures_of, with_fields}
use Rattle.lq_meaning_steps.specs.Model.Core.{Value, v_build, Values}
use Rattle.lq_logic_predicates.specs.ClosedImplication.{EachTrueIn}
use Rattle.lq_logic_predicates.specs.Formula.{Formula}
use Rattle.lq_logic_predicates.specs.Sum.{Sum}
use Rattle.lq_logic_predicates.specs.Truth.{Meaning, object_of, term_value}
use Rattle.lq_text_qualifiers.specs.Sorting.Sorted.{Measure, Term}
use Rattle.lq_refined_measures.specs.Values.Values.{all_seen, made_by, number_by, number_of_term}
use Rattle.lq_refined_measures.specs.Values.Reading.{AskBelow, AsksBelow, FieldsStand, ReadsMeasures}
use Rattle.lq_refined_measures.specs.Values.Laws.{EquationsHold}
use Rattle.lq_refined_measures.proofs.ValuesLemmas.Terms.{term_is}

each_append : (m : Meaning) (ps qs : List Formula) → EachTrueIn m ps → EachTrueIn m qs → EachTrueIn m (ps ++ qs)
each_append m [] qs h k = k
each_append m (p ∷ ps) qs h k = (h.0, each_append m ps qs h.1 k)

-- a measure of the list, whose term for the constructor at this place asks of fields below this one
record IsGood (ms : List Measure) (c k : ℕ) (m : Measure) : Type 0 where
  at : ℕ
  here : slice_get ms at ≡ Some m
  below : (t : Term) → slice_get m.terms c ≡ Some t → AsksBelow k t

record IsListed (ms : List Measure) (m : Measure) : Type 0 where
  at : ℕ
  here : slice_get ms at ≡ Some m

abbrev Each : (Measure → Type 0) → List Measure → Type 0
Each P [] = Unit {0}
Each P (m ∷ ms) = P m × Each P ms

all_good : (ms : List Measure) (d c n : ℕ) → AskBelow ms d c n → (ks : List Measure) → Each (IsListed ms) ks → Each (IsGood ms c n) (measures_of ks d)
all_good ms d c n s [] h = tt
all_good ms d c n s (k ∷ ks) h = by (k.datatype == d) refl (all_good ms d c n s ks h.1)
  where
    by : (b : Bool) → k.datatype == d ≡ b → Each (IsGood ms c n) (measures_of ks d) → Each (IsGood ms c n) (cond b (k ∷ measures_of ks d) (measures_of ks d))
    by true e rest = (record { at = h.0.at; here = h.0.here; below = λ t is. s h.0.at k t h.0.here (eqb-true k.datatype d e) is }, rest)
    by false e rest = rest

all_listed : (ms : List Measure) (ks : List Measure) → ((n : ℕ) (m : Measure) → slice_get ks n ≡ Some m → IsListed ms m) → Each (IsListed ms) ks
all_listed ms [] h = tt
all_listed ms (k ∷ ks) h = (h 0 k refl, all_listed ms ks (λ n m e. h (suc n) m e))

module _ (ms : List Measure) (place : ℕ → ℕ) (number_of : Value → ℕ) (M : Meaning) (reads : ReadsMeasures ms place number_of M) where
  module _ (c : ℕ) (vs : Values) (xs : List Sum) (x : Sum) (all : FieldsStand number_of M xs vs) (stands : object_of M x ≡ number_of (v_build c vs)) where
    one_holds : (m : Measure) (g : IsGood ms (place c) (length xs) m) (o : Option Term) → slice_get m.terms (place c) ≡ o
        → EachTrueIn M (equation_of (map measure_name ms) xs x m.name o)
    one_holds m g None e = tt
    one_holds m g (Some t) e =
        let left : M.measured (record { 0 = m.name }) (object_of M x) ≡ made_by ms place c (all_seen ms place vs) (slice_get ms g.at) =
        ap (M.measured (record { 0 = m.name })) stands ∙ reads.measures g.at m (v_build c vs) g.here in
        let made : made_by ms place c (all_seen ms place vs) (slice_get ms g.at) ≡ number_of_term (all_seen ms place vs) t =
        ap (made_by ms place c (all_seen ms place vs)) g.here ∙ ap (number_by (all_seen ms place vs)) e in
        let right : term_value M (with_fields (map measure_name ms) xs t) ≡ number_of_term (all_seen ms place vs) t =
        term_is ms place number_of M reads vs xs all t (g.below t e) in
        ((Decides-int_eq (M.measured (record { 0 = m.name }) (object_of M x)) (term_value M (with_fields (map measure_name ms) xs t))).1 (left ∙ made ∙ sym right), tt)

    each_holds : (ks : List Measure) → Each (IsGood ms (place c) (length xs)) ks → EachTrueIn M (flat_map (equation_at (map measure_name ms) xs x (place c)) ks)
    each_holds [] h = tt
    each_holds (k ∷ ks) h =
        each_append M (equation_at (map measure_name ms) xs x (place c) k) (flat_map (equation_at (map measure_name ms) xs x (place c)) ks)
        (one_holds k h.0 (slice_get k.terms (place c)) refl) (each_holds ks h.1)

pub equations_hold : EquationsHold
equations_hold ms place number_of M reads d c vs xs x below all stands =
    each_holds ms place number_of M reads c vs xs x all stands (measures_of ms d)
    (all_good ms d (place c) (length xs) below ms (all_listed ms ms (λ n m e. record { at = n; here = e })))
