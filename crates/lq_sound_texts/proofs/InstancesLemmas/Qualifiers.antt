-- Qualifiers that are what is written are sorted.
use Rattle.std.proofs.Common.{◌≡◌, ℕ, zero, suc, ◌==◌, Bool, true, false, if◌then◌else◌, List, [], ◌∷◌, map, Some, None, slice_get, unwrap_or, sym, ap, subst}
use Rattle.lq_text_walk.specs.Scoped.Signature.{DataTree}
use Rattle.lq_text_qualifiers.specs.Sorting.Making.{asking, qualifier_made, qualifier_setting}
use Rattle.lq_text_qualifiers.specs.Sorting.Placeholders.{placeholders_in, shapes_of}
use Rattle.lq_text_qualifiers.specs.Sorting.Rules.{NameIs, TermIs, PredicateIs, QualifierIs, QualifiersAre, QualifiersBecome}
use Rattle.lq_text_qualifiers.specs.Sorting.Sorted as sorted
use Rattle.lq_text_qualifiers.specs.Sorting.Sorted.{Predicate, Term, Variable, value}
use Rattle.lq_text_qualifiers.specs.Faults.Equations.{measures_in}
use Rattle.lq_text_qualifiers.specs.Faults.Lookups.{Lookup}
use Rattle.lq_text_qualifiers.specs.Faults.Predicates.{Measured, form_of}
use Rattle.lq_text_qualifiers.specs.Faults.Shapes.{Shape, int, bool, array, data_of}
use Rattle.lq_text_tree.specs.PredTree.{PredTree, PredForm, flag, whole, use_of, placeholder, applied, qualified, arithmetic, negated, compare, not_of, and_of, or_of, iff}
use Rattle.lq_text_tree.specs.Qualifiers.{QualifierTree}
use Rattle.lq_sound_texts.specs.Instances.Laws.{QualifiersAreSorted}
use Rattle.lq_sound_texts.specs.Instances.Sorts.{AreSortedQualifiers, HasShape, IsSortedPredicate, IsSortedQualifier, IsSortedTerm}

-- what is found at the one name is the one thing
found : {X : Type 0} (b : Bool) (x y : X) → (if b then Some x else None) ≡ Some y → x ≡ y
found true x y h = ap (λ o. unwrap_or o x) h
found false x y h = cc

-- the shapes of placeholders by their numbers
shape_there : (us : List (ℕ × Shape)) (n x : ℕ) (g : Shape) → slice_get us n ≡ Some (x, g) → slice_get (shapes_of us) n ≡ Some g
shape_there [] n x g h = cc
shape_there (u ∷ us) zero x g h = ap (λ o. Some (unwrap_or o u).1) h
shape_there (u ∷ us) (suc n) x g h = shape_there us n x g h

module _ (texts : List (List ℕ)) (known : Lookup Measured) (v : ℕ) (own : Shape) (us : List (ℕ × Shape)) where
  abbrev Name : Shape → PredForm → Variable → Type 0
  Name = NameIs (asking texts known v own) (qualifier_setting known v us) us

  name_sorted : (g : Shape) (f : PredForm) (y : Variable) → Name g f y → HasShape own (shapes_of us) g y
  name_sorted g (use_of x) y h =
      subst (λ z. HasShape own (shapes_of us) g z) (found (v == x) value y h.0) (sym (found (v == x) own g h.1))
  name_sorted g (placeholder x) y h = subst (λ z. HasShape own (shapes_of us) g z) (sym h.1) (shape_there us h.0 x g h.2)
  name_sorted g (flag b) y h = absurd h
  name_sorted g (whole n) y h = absurd h
  name_sorted g (applied m e) y h = absurd h
  name_sorted g (qualified m x e) y h = absurd h
  name_sorted g (arithmetic o b c) y h = absurd h
  name_sorted g (negated e) y h = absurd h
  name_sorted g (compare o b c) y h = absurd h
  name_sorted g (not_of e) y h = absurd h
  name_sorted g (and_of b c) y h = absurd h
  name_sorted g (or_of b c) y h = absurd h
  name_sorted g (iff b c) y h = absurd h

  term_sorted : (t : PredTree) (a : Term) → TermIs (asking texts known v own) (qualifier_setting known v us) us t a
      → IsSortedTerm own (shapes_of us) a
  term_sorted t (sorted.literal n) h = tt
  term_sorted t (sorted.variable y) h = name_sorted int (form_of t) y h
  term_sorted t (sorted.length_of y) (m, x, e, _, _, is) = name_sorted array (form_of e) y is
  term_sorted t (sorted.measured n y) (m, d, e, _, _, is) = (d, name_sorted (data_of d) (form_of e) y is)
  term_sorted t (sorted.operation o a b) (d, e, _, h, k) = (term_sorted d a h, term_sorted e b k)
  term_sorted t (sorted.negative a) (d, _, h) = term_sorted d a h

  predicate_sorted : (t : PredTree) (p : Predicate) → PredicateIs (asking texts known v own) (qualifier_setting known v us) us t p
      → IsSortedPredicate own (shapes_of us) p
  predicate_sorted t (sorted.constant b) h = tt
  predicate_sorted t (sorted.holds y) h = name_sorted bool (form_of t) y h
  predicate_sorted t (sorted.comparison o a b) (d, e, _, h, k) = (term_sorted d a h, term_sorted e b k)
  predicate_sorted t (sorted.negation p) (d, _, h) = predicate_sorted d p h
  predicate_sorted t (sorted.conjunction p q) (d, e, _, h, k) = (predicate_sorted d p h, predicate_sorted e q k)
  predicate_sorted t (sorted.disjunction p q) (d, e, _, h, k) = (predicate_sorted d p h, predicate_sorted e q k)
  predicate_sorted t (sorted.equivalence p q) (d, e, _, h, k) = (predicate_sorted d p h, predicate_sorted e q k)

module _ (texts : List (List ℕ)) (ds : List DataTree) (known : Lookup Measured) where
  qualifier_sorted : (q : QualifierTree) → QualifierIs texts ds known q → IsSortedQualifier (qualifier_made texts known q)
  qualifier_sorted q h =
      let made = qualifier_made texts known q in
      let us = placeholders_in (asking texts known q.value made.shape) q.predicate in
      predicate_sorted texts known q.value made.shape us q.predicate made.predicate h.2

  all_sorted : (qs : List QualifierTree) → QualifiersAre texts ds known qs → AreSortedQualifiers (map (qualifier_made texts known) qs)
  all_sorted [] h = tt
  all_sorted (q ∷ qs) h = (qualifier_sorted q h.0, all_sorted qs h.1)

pub qualifiers_sorted : QualifiersBecome → QualifiersAreSorted
qualifiers_sorted become texts ds ms qs none = all_sorted texts ds (measures_in ms) qs (become texts ds ms qs none)
