-- Measures of which nothing is complained have different names.
use Rattle.std.proofs.Common.{ltb-false, ◌≡◌, ◌∙◌, ℕ, zero, suc, ◌+◌, ◌≤◌, Bool, true, false, List, [], ◌∷◌, ◌++◌, length, Option, Some, None, slice_get, if◌then◌else◌, refl, sym, ap, subst, arith}
use Rattle.std.specs.Prelude.{◌==◌, nat_lt}
use Rattle.std.proofs.lemmas.Bool.{eq-eqb}
use Rattle.lq_refined_measures.specs.Values.Reading.{NamesDiffer}
use Rattle.lq_base_names.specs.declared.place.Place.{Place}
use Rattle.lq_text_walk.specs.Scoped.Signature.{DataTree}
use Rattle.lq_text_qualifiers.specs.Sorting.Making.{measure_made, measures_made}
use Rattle.lq_text_qualifiers.specs.Sorting.Sorted.{Measure}
use Rattle.lq_text_qualifiers.specs.Faults.Complaints.{at, twice}
use Rattle.lq_text_qualifiers.specs.Faults.Datatypes.{shape_named, size}
use Rattle.lq_text_qualifiers.specs.Faults.Equations.{counted, measured, measures_in, numbered, of_datatype, of_definition, of_equations, of_measure, of_measures, of_measures_from}
use Rattle.lq_text_qualifiers.specs.Faults.Lookups.{Lookup, first_in, no_names, or_else}
use Rattle.lq_text_qualifiers.specs.Faults.Predicates.{Measured}
use Rattle.lq_text_qualifiers.proofs.SortingLemmas.Clean.{both_none}
use Rattle.lq_text_tree.specs.MeasureTrees.{MeasureTree}
use Rattle.lq_sound_texts.proofs.MeasuresLemmas.Lists.{got_map, same_some}

-- a measure's name stands for one that is defined no later
abbrev StandsBy : Lookup Measured → ℕ → ℕ → Type 0
StandsBy known x n = (r : Measured) × (known x ≡ Some r) × (r.number ≤ n)

own_number : (n : ℕ) (ts : List MeasureTree) (i : ℕ) (t : MeasureTree) → slice_get ts i ≡ Some t → StandsBy (first_in (numbered n ts)) t.name (n + i)
own_number n [] i t e = absurd (let w = e in cc)
own_number n (m ∷ ts) zero t e =
    let same : m ≡ t = same_some m t e in
    let own = eq-eqb m.name t.name (ap (λ (k : MeasureTree). k.name) same) in
    let r = (measured n m).1 in
    (r, ap (λ (b : Bool). or_else (if b then Some r else None) (first_in (numbered (suc n) ts) t.name)) own, omega arith)
own_number n (m ∷ ts) (suc i) t e = by (m.name == t.name) refl (own_number (suc n) ts i t e)
  where
    r : Measured
    r = record { number = n; datatype = m.datatype }

    rest : Option Measured
    rest = first_in (numbered (suc n) ts) t.name

    by : (b : Bool) → (m.name == t.name) ≡ b → (s : Measured) × (rest ≡ Some s) × (s.number ≤ suc n + i)
        → (s : Measured) × (or_else (if b then Some r else None) rest ≡ Some s) × (s.number ≤ n + suc i)
    by true h k = (r, refl, omega arith)
    by false h (s, g, l) = (s, g, omega (arith, l))

no_earlier : (p : Place) (x n : ℕ) (r : Measured) → of_definition p x n (Some r) ≡ [] → n ≤ r.number
no_earlier p x n r none = by (nat_lt r.number n) refl none
  where
    by : (b : Bool) → nat_lt r.number n ≡ b → (if b then at p (twice x) ∷ [] else []) ≡ [] → n ≤ r.number
    by true h none = absurd (let w = none in cc)
    by false h none = ltb-false r.number n h

module _ (texts : List (List ℕ)) (ds : List DataTree) (known : Lookup Measured) where
  one_defined : (n : ℕ) (t : MeasureTree) → of_measure texts ds known n t ≡ [] → of_definition t.place t.name n (known t.name) ≡ []
  one_defined n t none =
      (both_none (of_definition t.place t.name n (known t.name))
      (counted t.place (size ds t.datatype) (length t.equations)
      ++ (of_datatype t.datatype_place t.datatype (shape_named ds t.datatype) ++ of_equations texts ds known n t.datatype no_names t.equations)) none).0

  all_defined : (n : ℕ) (ts : List MeasureTree) → of_measures_from texts ds known n ts ≡ [] → (i : ℕ) (t : MeasureTree) → slice_get ts i ≡ Some t
      → of_definition t.place t.name (n + i) (known t.name) ≡ []
  all_defined n [] none i t e = absurd (let w = e in cc)
  all_defined n (m ∷ ts) none zero t e =
      let same : m ≡ t = same_some m t e in
      let first = both_none (of_measure texts ds known n m) (of_measures_from texts ds known (suc n) ts) none in
      let there : n ≡ n + 0 = omega arith in
      subst (λ (k : ℕ). of_definition t.place t.name k (known t.name) ≡ []) there
      (subst (λ (k : MeasureTree). of_definition k.place k.name n (known k.name) ≡ []) same (one_defined n m first.0))
  all_defined n (m ∷ ts) none (suc i) t e =
      let rest = both_none (of_measure texts ds known n m) (of_measures_from texts ds known (suc n) ts) none in
      let there : suc n + i ≡ n + suc i = omega arith in
      subst (λ (k : ℕ). of_definition t.place t.name k (known t.name) ≡ []) there (all_defined (suc n) ts rest.1 i t e)

-- each measure is the one that its name stands for
number_is : (texts : List (List ℕ)) (ds : List DataTree) (ts : List MeasureTree) → of_measures texts ds ts ≡ [] → (i : ℕ) (t : MeasureTree)
    → slice_get ts i ≡ Some t → (r : Measured) × (measures_in ts t.name ≡ Some r) × (r.number ≡ i)
number_is texts ds ts none i t e = at_own (own_number 0 ts i t e)
  where
    at_own : StandsBy (measures_in ts) t.name (0 + i) → (r : Measured) × (measures_in ts t.name ≡ Some r) × (r.number ≡ i)
    at_own (r, g, l) =
        let there = all_defined texts ds (measures_in ts) 0 ts none i t e in
        let least = no_earlier t.place t.name (0 + i) r (ap (of_definition t.place t.name (0 + i)) (sym g) ∙ there) in (r, g, omega (arith, l, least))

pub names_differ : (texts : List (List ℕ)) (ds : List DataTree) (ts : List MeasureTree) → of_measures texts ds ts ≡ [] → NamesDiffer (measures_made ds ts)
names_differ texts ds ts none i j m k e f same = both (got_map (measure_made ds (measures_in ts)) ts i m e) (got_map (measure_made ds (measures_in ts)) ts j k f)
  where
    both : (t : MeasureTree) × (slice_get ts i ≡ Some t) × (m ≡ measure_made ds (measures_in ts) t)
        → (t : MeasureTree) × (slice_get ts j ≡ Some t) × (k ≡ measure_made ds (measures_in ts) t) → i ≡ j
    both (t, a, b) (u, c, d) =
        numbers t u (sym (ap (λ (x : Measure). x.name) b) ∙ same ∙ ap (λ (x : Measure). x.name) d) (number_is texts ds ts none i t a)
        (number_is texts ds ts none j u c)
      where
        numbers : (t u : MeasureTree) → t.name ≡ u.name → (r : Measured) × (measures_in ts t.name ≡ Some r) × (r.number ≡ i)
            → (r : Measured) × (measures_in ts u.name ≡ Some r) × (r.number ≡ j) → i ≡ j
        numbers t u n (r, g, l) (s, h, q) =
            sym l ∙ ap (λ (x : Measured). x.number) (same_some r s (sym g ∙ ap (measures_in ts) n ∙ h)) ∙ q
