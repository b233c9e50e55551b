-- Qualifiers of which there is nothing to say become what is written.
use Rattle.std.proofs.Common.{◌≡◌, ℕ, suc, ◌+◌, Bool, true, false, ◌||◌, List, [], ◌∷◌, Option, Some, None, slice_get, refl, sym, ap, ◌∙◌, arith, if◌then◌else◌, subst}
use Rattle.std.specs.Prelude.{◌==◌}
use Rattle.std.specs.Option.{is_some}
use Rattle.std.proofs.lemmas.Bool.Decides.{Decides-eqb}
use Rattle.lq_base_names.specs.declared.place.Place.{Place}
use Rattle.lq_text_walk.specs.Scoped.Signature.{DataTree}
use Rattle.lq_text_tree.specs.Qualifiers.{QualifierTree}
use Rattle.lq_text_qualifiers.specs.Faults.Datatypes.{shape_named, size}
use Rattle.lq_text_qualifiers.specs.Faults.Equations.{measures_in}
use Rattle.lq_text_qualifiers.specs.Faults.Lookups.{Lookup, Names, first_in, no_names, one, or_else, with_name}
use Rattle.lq_text_qualifiers.specs.Faults.Predicates.{Measured, of_predicate, spots, uses}
use Rattle.lq_text_qualifiers.specs.Faults.Qualifiers as qualifiers
use Rattle.lq_text_qualifiers.specs.Faults.Qualifiers.{of_all, of_qualifier, of_shape}
use Rattle.lq_text_qualifiers.specs.Faults.Shapes.{Shape, int, bool, array, data_of, other}
use Rattle.lq_text_qualifiers.specs.Sorting.Making.{asking, qualifier_setting, shape_called}
use Rattle.lq_text_qualifiers.specs.Sorting.Placeholders.{firsts, numbered}
use Rattle.lq_text_qualifiers.specs.Sorting.Rules.{QualifierIs, QualifiersAre, QualifiersBecome}
use Rattle.lq_text_qualifiers.specs.Sorting.Sorted.{Variable, value}
use Rattle.lq_text_qualifiers.proofs.SortingLemmas.Becoming.{Fit, predicate_is}
use Rattle.lq_text_qualifiers.proofs.SortingLemmas.Clean.{both_none, covers_itself}

not_both : (t : Bool) → t ≡ true → t ≡ false → ⊥
not_both t holds fails = let wrong : true ≡ false = sym holds ∙ fails in let e = wrong in absurd (cc)

-- the placeholder has a number from k on, and stands there with its shape
abbrev Found : ℕ → ℕ → Shape → List (ℕ × Shape) → Type 0
Found k x g us = (n : ℕ) × (first_in (numbered k us) x ≡ Some (k + n)) × (slice_get us n ≡ Some (x, g))

-- the first use, and those behind it
number_by : (before : Names) (k : ℕ) (w : ℕ × Shape) (ws : List (ℕ × Shape)) (x : ℕ) (g : Shape) → before x ≡ false
    → or_else (if w.0 == x then Some w.1 else None) (first_in ws x) ≡ Some g
    → (first_in ws x ≡ Some g → Found k x g (firsts before ws))
    → (with_name w.0 before x ≡ false → first_in ws x ≡ Some g → Found (suc k) x g (firsts (with_name w.0 before) ws))
    → (t u : Bool) → before w.0 ≡ t → w.0 == x ≡ u → Found k x g (if t then firsts before ws else w ∷ firsts (with_name w.0 before) ws)
number_by before k w ws x g new is again behind true true old same =
    absurd (not_both (before x) (ap before (sym ((Decides-eqb w.0 x).0 same)) ∙ old) new)
number_by before k w ws x g new is again behind true false old differs =
    again (sym (ap (λ (t : Bool). or_else (if t then Some w.1 else None) (first_in ws x)) differs) ∙ is)
number_by before k w ws x g new is again behind false true old same =
    let here : w.0 ≡ x = (Decides-eqb w.0 x).0 same in
    let shape : Some w.1 ≡ Some g = sym (ap (λ (t : Bool). or_else (if t then Some w.1 else None) (first_in ws x)) same) ∙ is in
    let equal : w.1 ≡ g = cc in
    let zero_more : k ≡ k + 0 = omega arith in (
      0,
      ap (λ (t : Bool). or_else (if t then Some k else None) (first_in (numbered (suc k) (firsts (with_name w.0 before) ws)) x)) same ∙ ap (λ (n : ℕ). Some n) zero_more,
      ap (λ (y : ℕ). Some (y, w.1)) here ∙ ap (λ (h : Shape). Some (x, h)) equal,
    )
number_by before k w ws x g new is again behind false false old differs =
    let later = sym (ap (λ (t : Bool). or_else (if t then Some w.1 else None) (first_in ws x)) differs) ∙ is in
    let more = behind (ap (λ (t : Bool). t || before x) differs ∙ new) later in
    let next : suc k + more.0 ≡ k + suc more.0 = omega arith in (
      suc more.0,
      ap (λ (t : Bool). or_else (if t then Some k else None) (first_in (numbered (suc k) (firsts (with_name w.0 before) ws)) x)) differs ∙ more.1 ∙ ap (λ (n : ℕ). Some n) next,
      more.2,
    )

-- a placeholder that isn't among those before has the number of its first use
number_found : (before : Names) (k : ℕ) (ws : List (ℕ × Shape)) (x : ℕ) (g : Shape) → before x ≡ false → first_in ws x ≡ Some g → Found k x g (firsts before ws)
number_found before k [] x g new is = absurd (let e = is in cc)
number_found before k (w ∷ ws) x g new is =
    number_by before k w ws x g new is (λ more. number_found before k ws x g new more)
    (λ fresh more. number_found (with_name w.0 before) (suc k) ws x g fresh more) (before w.0) (w.0 == x) refl refl

value_known : (v x : ℕ) (a g : Shape) → one v a x ≡ Some g → (w : Variable) × (one v value x ≡ Some w)
value_known v x a g is = by_test (v == x) refl
  where
    by_test : (t : Bool) → v == x ≡ t → (w : Variable) × ((if t then Some value else None) ≡ Some w)
    by_test true same = (value, refl)
    by_test false differs = absurd (let e : None ≡ Some g = sym (ap (λ (t : Bool). if t then Some a else None) differs) ∙ is in cc)

fits : (texts : List (List ℕ)) (known : Lookup Measured) (v : ℕ) (a : Shape) (ws : List (ℕ × Shape))
    → Fit (asking texts known v a) (qualifier_setting known v (firsts no_names ws)) (first_in ws) (firsts no_names ws)
fits texts known v a ws = record {
  variables = λ x g is. value_known v x a g is;
  placeholders = λ own x g is. let found = number_found no_names 0 ws x g refl is in
      let same : 0 + found.0 ≡ found.0 = omega arith in (found.0, found.1 ∙ ap (λ (n : ℕ). Some n) same, found.2);
  measures = refl;
}

-- the shape that a name stands for, by which name it is
abbrev shape_by : ℕ → Bool → Bool → Bool → Bool → Bool → Bool → Option Shape
shape_by x a b c d e f =
    if a then Some int else if b then Some bool else if c then Some other else if d then Some array else if e then Some other else if f then Some (data_of x) else None

shape_told : (p : Place) (x : ℕ) (a b c d e f : Bool) → of_shape p x (shape_by x a b c d e f) ≡ []
    → shape_by x a b c d e f ≡ Some (if a then int else if b then bool else if d then array else data_of x)
shape_told p x true b c d e f none = refl
shape_told p x false true c d e f none = refl
shape_told p x false false true d e f none = absurd (let w = none in cc)
shape_told p x false false false true e f none = refl
shape_told p x false false false false true f none = absurd (let w = none in cc)
shape_told p x false false false false false true none = refl
shape_told p x false false false false false false none = absurd (let w = none in cc)

-- a name for which there is a shape stands for this one
shape_is : (p : Place) (ds : List DataTree) (x : ℕ) → of_shape p x (shape_named ds x) ≡ [] → shape_named ds x ≡ Some (shape_called x)
shape_is p ds x none = shape_told p x (x == 0) (x == 1) (x == 2) (x == 3) (x == 6) (is_some (size ds x)) none

qualifier_is : (texts : List (List ℕ)) (ds : List DataTree) (known : Lookup Measured) (q : QualifierTree) → of_qualifier texts ds known q ≡ [] → QualifierIs texts ds known q
qualifier_is texts ds known q none =
    let o = shape_named ds q.shape in
    let parts = both_none (of_shape q.shape_place q.shape o) (of_predicate (qualifiers.qualifier_setting texts ds known q.value o) (Some bool) q.predicate) none in
    let named = shape_is q.shape_place ds q.shape parts.0 in
    let a = asking texts known q.value (shape_called q.shape) in
    let ws = uses (spots a (Some bool) q.predicate) in
    let nothing : of_predicate a (Some bool) q.predicate ≡ [] =
    subst (λ (s : Option Shape). of_predicate (qualifiers.qualifier_setting texts ds known q.value s) (Some bool) q.predicate ≡ []) named parts.1
    in (
      named,
      refl,
      predicate_is a (qualifier_setting known q.value (firsts no_names ws)) (first_in ws) (firsts no_names ws) (fits texts known q.value (shape_called q.shape) ws) q.predicate
          (record { none = nothing; covered = covers_itself ws }),
    )

all_are : (texts : List (List ℕ)) (ds : List DataTree) (known : Lookup Measured) (qs : List QualifierTree) → of_all texts ds known qs ≡ [] → QualifiersAre texts ds known qs
all_are texts ds known [] none = tt
all_are texts ds known (q ∷ qs) none =
    let parts = both_none (of_qualifier texts ds known q) (of_all texts ds known qs) none in (qualifier_is texts ds known q parts.0, all_are texts ds known qs parts.1)

pub qualifiers_become : QualifiersBecome
qualifiers_become texts ds ms qs none = all_are texts ds (measures_in ms) qs none
