-- A term or a predicate of which there is nothing to say becomes what is written.
use Rattle.std.proofs.Common.{◌≡◌, ℕ, Bool, true, false, List, [], Option, Some, None, slice_get, unwrap_or, refl, sym, ap, ◌∙◌, subst}
use Rattle.lq_base_names.specs.declared.place.Place.{Place}
use Rattle.lq_text_tree.specs.PredTree.{PredTree, pred_tree, PredForm, flag, whole, use_of, placeholder, applied, qualified, arithmetic, negated, compare, not_of, and_of, or_of, iff}
use Rattle.lq_text_qualifiers.specs.Faults.Lookups.{Lookup}
use Rattle.lq_text_qualifiers.specs.Faults.Predicates as sorts
use Rattle.lq_text_qualifiers.specs.Faults.Predicates.{Measured, Spot, form_of, is_length, length_takes, mismatch, of_form, of_measure, of_placeholder, of_qualified, of_variable, place_of, spot, spots, spots_in, taken, used_in}
use Rattle.lq_text_qualifiers.specs.Faults.Shapes.{Shape, int, bool, array, data_of, is_same}
use Rattle.lq_text_qualifiers.specs.Sorting.Making.{Setting, number_of, predicate_form, predicate_of, term_form, term_of, variable_form, variable_of}
use Rattle.lq_text_qualifiers.specs.Sorting.Rules.{NameIs, VariableIs, TermIs, PredicateIs}
use Rattle.lq_text_qualifiers.specs.Sorting.Sorted.{Variable, value, placeholder_at}
use Rattle.lq_text_qualifiers.proofs.SortingLemmas.Clean.{Clean, Covers, both_none, clean_both, clean_first, no_mismatch}

-- names that have a shape have a meaning
pub record Fit (a : sorts.Setting) (s : Setting) (shapes : Lookup Shape) (us : List (ℕ × Shape)) : Type 0 where
  pub variables : (x : ℕ) (g : Shape) → a.variables x ≡ Some g → (v : Variable) × (s.variables x ≡ Some v)
  -- in an equation there are no placeholders
  pub placeholders : a.own ≡ None → (x : ℕ) (g : Shape) → shapes x ≡ Some g → (n : ℕ) × (s.placeholders x ≡ Some n) × (slice_get us n ≡ Some (x, g))
  pub measures : s.measures ≡ a.measures

never_bool : (p : Place) (g : Shape) → is_same g bool ≡ false → mismatch p (Some g) bool ≡ [] → ⊥
never_bool p g other none = let wrong : true ≡ false = ap (λ (h : Shape). is_same h bool) (sym (no_mismatch p g bool none)) ∙ other in let e = wrong in absurd (cc)

never_int : (p : Place) (g : Shape) → is_same g int ≡ false → mismatch p (Some g) int ≡ [] → ⊥
never_int p g other none = let wrong : true ≡ false = ap (λ (h : Shape). is_same h int) (sym (no_mismatch p g int none)) ∙ other in let e = wrong in absurd (cc)

module _ (a : sorts.Setting) (s : Setting) (shapes : Lookup Shape) (us : List (ℕ × Shape)) (fit : Fit a s shapes us) where
  use_is : (g : Shape) (p : Place) (x : ℕ) → of_variable p (Some g) x (a.variables x) ≡ [] → NameIs a s us g (use_of x) (variable_form s (use_of x))
  use_is g p x none = by_given (a.variables x) refl none
    where
      by_given : (o : Option Shape) → a.variables x ≡ o → of_variable p (Some g) x o ≡ [] → NameIs a s us g (use_of x) (variable_form s (use_of x))
      by_given None is wrong = absurd (let e = wrong in cc)
      by_given (Some h) is nothing =
          let shape : a.variables x ≡ Some g = is ∙ ap (λ (k : Shape). Some k) (sym (no_mismatch p g h nothing)) in
          let v = fit.variables x g shape in
          (v.1 ∙ ap (λ (o : Option Variable). Some (unwrap_or o value)) (sym v.1), shape)

  placeholder_is : (g : Shape) (p : Place) (x : ℕ) → of_placeholder a.own p (Some g) x (shapes x) ≡ [] → (h : Shape) × (shapes x ≡ Some h)
      → NameIs a s us g (placeholder x) (variable_form s (placeholder x))
  placeholder_is g p x none found = by_own a.own refl none
    where
      by_own : (o : Option ℕ) → a.own ≡ o → of_placeholder o p (Some g) x (shapes x) ≡ [] → NameIs a s us g (placeholder x) (variable_form s (placeholder x))
      by_own (Some i) is wrong = absurd (let e = wrong in cc)
      by_own None is nothing =
          let same : g ≡ found.0 = no_mismatch p g found.0 (ap (of_placeholder None p (Some g) x) (sym found.1) ∙ nothing) in
          let n = fit.placeholders is x g (found.1 ∙ ap (λ (k : Shape). Some k) (sym same)) in
          (n.0, ap (λ (o : Option ℕ). placeholder_at (unwrap_or o 0)) n.1, n.2)

  -- what has another shape than int and bool is a name
  object_form_is : (g : Shape) (p : Place) (f : PredForm) → is_same g int ≡ false → is_same g bool ≡ false → of_form a shapes p (Some g) f ≡ []
      → Covers shapes (used_in (Some g) f) → NameIs a s us g f (variable_form s f)
  object_form_is g p (use_of x) i b none covered = use_is g p x none
  object_form_is g p (placeholder x) i b none covered = placeholder_is g p x none covered.0
  object_form_is g p (flag c) i b none covered = absurd (never_bool p g b none)
  object_form_is g p (whole n) i b none covered = absurd (never_int p g i none)
  object_form_is g p (applied m e) i b none covered = absurd (never_int p g i (both_none (of_measure a p m e (a.measures m)) (mismatch p (Some g) int) none).1)
  object_form_is g p (qualified m x e) i b none covered = absurd (by_name (is_length a.texts m x) none)
    where
      by_name : (t : Bool) → of_qualified p (Some g) m x t ≡ [] → ⊥
      by_name true nothing = never_int p g i nothing
      by_name false wrong = let e = wrong in absurd (cc)
  object_form_is g p (arithmetic o c d) i b none covered = absurd (never_int p g i none)
  object_form_is g p (negated e) i b none covered = absurd (never_int p g i none)
  object_form_is g p (compare o c d) i b none covered = absurd (never_bool p g b none)
  object_form_is g p (not_of e) i b none covered = absurd (never_bool p g b none)
  object_form_is g p (and_of c d) i b none covered = absurd (never_bool p g b none)
  object_form_is g p (or_of c d) i b none covered = absurd (never_bool p g b none)
  object_form_is g p (iff c d) i b none covered = absurd (never_bool p g b none)

  object_is : (g : Shape) (t : PredTree) → is_same g int ≡ false → is_same g bool ≡ false → Clean a shapes (spots a (Some g) t) → VariableIs a s us g t (variable_of s t)
  object_is g (pred_tree p f) i b clean =
      let first = clean_first a shapes (spot (Some g) (pred_tree p f)) (spots_in a f) clean in object_form_is g p f i b first.0 first.1

  applied_is : (p : Place) (m : ℕ) (e : PredTree) → of_measure a p m e (a.measures m) ≡ [] → Clean a shapes (spots a (taken (a.measures m)) e)
      → TermIs a s us (pred_tree p (applied m e)) (term_form s (applied m e))
  applied_is p m e none clean = by_measure (a.measures m) refl none
    where
      by_measure : (o : Option Measured) → a.measures m ≡ o → of_measure a p m e o ≡ [] → TermIs a s us (pred_tree p (applied m e)) (term_form s (applied m e))
      by_measure None is wrong = absurd (let e = wrong in cc)
      by_measure (Some k) is nothing =
          let number : number_of (s.measures m) ≡ k.number = ap (λ (l : Lookup Measured). number_of (l m)) fit.measures ∙ ap number_of is in
          let known : a.measures m ≡ Some (record { number = number_of (s.measures m); datatype = k.datatype }) =
          is ∙ ap (λ (n : ℕ). Some (record { number = n; datatype = k.datatype })) (sym number)
          in
          let part : Clean a shapes (spots a (Some (data_of k.datatype)) e) = subst (λ (o : Option Measured). Clean a shapes (spots a (taken o) e)) is clean in
          (m, k.datatype, e, refl, known, object_is (data_of k.datatype) e refl refl part)

  length_is : (p : Place) (m x : ℕ) (e : PredTree) → of_qualified p (Some int) m x (is_length a.texts m x) ≡ []
      → Clean a shapes (spots a (length_takes (is_length a.texts m x)) e) → TermIs a s us (pred_tree p (qualified m x e)) (term_form s (qualified m x e))
  length_is p m x e none clean = by_name (is_length a.texts m x) refl none
    where
      by_name : (t : Bool) → is_length a.texts m x ≡ t → of_qualified p (Some int) m x t ≡ [] → TermIs a s us (pred_tree p (qualified m x e)) (term_form s (qualified m x e))
      by_name false is wrong = absurd (let e = wrong in cc)
      by_name true is nothing =
          let part : Clean a shapes (spots a (Some array) e) = subst (λ (t : Bool). Clean a shapes (spots a (length_takes t) e)) is clean in
          (m, x, e, refl, is, object_is array e refl refl part)

  mutual
    pub term_is : (t : PredTree) → Clean a shapes (spots a (Some int) t) → TermIs a s us t (term_of s t)
    term_is (pred_tree p f) clean =
        let first = clean_first a shapes (spot (Some int) (pred_tree p f)) (spots_in a f) clean in term_form_is p f first.0 first.1 first.2

    term_form_is : (p : Place) (f : PredForm) → of_form a shapes p (Some int) f ≡ [] → Covers shapes (used_in (Some int) f) → Clean a shapes (spots_in a f)
        → TermIs a s us (pred_tree p f) (term_form s f)
    term_form_is p (whole n) none covered clean = refl
    term_form_is p (use_of x) none covered clean = use_is int p x none
    term_form_is p (placeholder x) none covered clean = placeholder_is int p x none covered.0
    term_form_is p (applied m e) none covered clean = applied_is p m e (both_none (of_measure a p m e (a.measures m)) (mismatch p (Some int) int) none).0 clean
    term_form_is p (qualified m x e) none covered clean = length_is p m x e none clean
    term_form_is p (arithmetic o b c) none covered clean =
        let both = clean_both a shapes (spots a (Some int) b) (spots a (Some int) c) clean in (b, c, refl, term_is b both.0, term_is c both.1)
    term_form_is p (negated e) none covered clean = (e, refl, term_is e clean)
    term_form_is p (flag b) none covered clean = absurd (let e = none in cc)
    term_form_is p (compare o b c) none covered clean = absurd (let e = none in cc)
    term_form_is p (not_of b) none covered clean = absurd (let e = none in cc)
    term_form_is p (and_of b c) none covered clean = absurd (let e = none in cc)
    term_form_is p (or_of b c) none covered clean = absurd (let e = none in cc)
    term_form_is p (iff b c) none covered clean = absurd (let e = none in cc)

  mutual
    pub predicate_is : (t : PredTree) → Clean a shapes (spots a (Some bool) t) → PredicateIs a s us t (predicate_of s t)
    predicate_is (pred_tree p f) clean =
        let first = clean_first a shapes (spot (Some bool) (pred_tree p f)) (spots_in a f) clean in predicate_form_is p f first.0 first.1 first.2

    predicate_form_is : (p : Place) (f : PredForm) → of_form a shapes p (Some bool) f ≡ [] → Covers shapes (used_in (Some bool) f) → Clean a shapes (spots_in a f)
        → PredicateIs a s us (pred_tree p f) (predicate_form s f)
    predicate_form_is p (flag b) none covered clean = refl
    predicate_form_is p (use_of x) none covered clean = use_is bool p x none
    predicate_form_is p (placeholder x) none covered clean = placeholder_is bool p x none covered.0
    predicate_form_is p (compare o b c) none covered clean =
        let both = clean_both a shapes (spots a (Some int) b) (spots a (Some int) c) clean in (b, c, refl, term_is b both.0, term_is c both.1)
    predicate_form_is p (not_of e) none covered clean = (e, refl, predicate_is e clean)
    predicate_form_is p (and_of b c) none covered clean =
        let both = clean_both a shapes (spots a (Some bool) b) (spots a (Some bool) c) clean in (b, c, refl, predicate_is b both.0, predicate_is c both.1)
    predicate_form_is p (or_of b c) none covered clean =
        let both = clean_both a shapes (spots a (Some bool) b) (spots a (Some bool) c) clean in (b, c, refl, predicate_is b both.0, predicate_is c both.1)
    predicate_form_is p (iff b c) none covered clean =
        let both = clean_both a shapes (spots a (Some bool) b) (spots a (Some bool) c) clean in (b, c, refl, predicate_is b both.0, predicate_is c both.1)
    predicate_form_is p (whole n) none covered clean = absurd (let e = none in cc)
    predicate_form_is p (applied m e) none covered clean =
        absurd (let e = (both_none (of_measure a p m e (a.measures m)) (mismatch p (Some bool) int) none).1 in cc)
    predicate_form_is p (qualified m x e) none covered clean = absurd (by_name (is_length a.texts m x) none)
      where
        by_name : (t : Bool) → of_qualified p (Some bool) m x t ≡ [] → ⊥
        by_name true wrong = let e = wrong in absurd (cc)
        by_name false wrong = let e = wrong in absurd (cc)
    predicate_form_is p (arithmetic o b c) none covered clean = absurd (let e = none in cc)
    predicate_form_is p (negated b) none covered clean = absurd (let e = none in cc)
