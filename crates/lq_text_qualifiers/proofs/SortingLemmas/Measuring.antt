-- Measures of which there is nothing to say become what is written.
use Rattle.std.proofs.Common.{ltb-false, ◌≡◌, ℕ, suc, ◌≤◌, Bool, true, false, List, [], ◌∷◌, ◌++◌, length, Option, Some, None, refl, sym, ap, ◌∙◌, if◌then◌else◌, subst}
use Rattle.std.specs.Prelude.{◌==◌, nat_lt}
use Rattle.lq_base_names.specs.declared.place.Place.{Place}
use Rattle.lq_text_walk.specs.Scoped.Signature.{DataTree}
use Rattle.lq_text_tree.specs.MeasureTrees.{EquationTree, MeasureTree}
use Rattle.lq_text_tree.specs.MlType.{MlTypes}
use Rattle.lq_text_tree.specs.Types.{type_at}
use Rattle.lq_text_tree.specs.Pattern.{Pattern, pattern, any, bind, nothing, tuple_of, build_of, Patterns, no_patterns, more_patterns}
use Rattle.lq_text_tree.specs.PredTree.{PredTree, pred_tree, PredForm, flag, whole, use_of, placeholder, applied, qualified, arithmetic, negated, compare, not_of, and_of, or_of, iff}
use Rattle.lq_text_qualifiers.specs.Faults.Complaints.{at, not_structural}
use Rattle.lq_text_qualifiers.specs.Faults.Datatypes.{Made, constructor, shape_named, size}
use Rattle.lq_text_qualifiers.specs.Faults.Equations as equations
use Rattle.lq_text_qualifiers.specs.Faults.Equations.{behind, counted, fields_made, fields_of, measures_in, of_datatype, of_definition, of_equations, of_measure, of_measures_from, of_pattern}
use Rattle.lq_text_qualifiers.specs.Faults.Lookups.{Lookup, Names, first_in, no_names, or_else}
use Rattle.lq_text_qualifiers.specs.Faults.Predicates as sorts
use Rattle.lq_text_qualifiers.specs.Faults.Predicates.{Measured, mismatch, of_applied, of_argument, of_form, of_later, of_predicate, spot, spots, spots_in, taken, uses, used_in}
use Rattle.lq_text_qualifiers.specs.Faults.Shapes.{Shape, int, shape_of}
use Rattle.lq_text_qualifiers.specs.Sorting.Making.{Setting, equation_setting, fields_from, fields_in, number_of, term_form, term_of}
use Rattle.lq_text_qualifiers.specs.Sorting.Rules.{AreAtMost, EquationIs, EquationsAre, MeasuresAre, MeasuresBecome}
use Rattle.lq_text_qualifiers.specs.Sorting.Sorted.{Variable, field_at}
use Rattle.lq_text_qualifiers.proofs.SortingLemmas.Becoming.{Fit, term_is}
use Rattle.lq_text_qualifiers.proofs.SortingLemmas.Clean.{Clean, both_none, clean_both, clean_first, covers_itself}

-- a field, or one of those behind it
field_by : (n : ℕ) (ts : MlTypes) (ps : Patterns) (x : ℕ) (g : Shape)
    → (first_in (equations.fields_in (suc n) ts ps) x ≡ Some g → (v : Variable) × (first_in (fields_from (suc n) ps) x ≡ Some v)) → (t : Bool)
    → or_else (if t then Some (shape_of (type_at ts n)) else None) (first_in (equations.fields_in (suc n) ts ps) x) ≡ Some g
    → (v : Variable) × (or_else (if t then Some (field_at n) else None) (first_in (fields_from (suc n) ps) x) ≡ Some v)
field_by n ts ps x g behind true is = (field_at n, refl)
field_by n ts ps x g behind false is = behind is

-- a variable of a pattern has a shape only where it is a field's
field_known : (n : ℕ) (ts : MlTypes) (ps : Patterns) (x : ℕ) (g : Shape) → first_in (equations.fields_in n ts ps) x ≡ Some g → (v : Variable) × (first_in (fields_from n ps) x ≡ Some v)
field_known n ts no_patterns x g is = absurd (let e = is in cc)
field_known n ts (more_patterns (pattern p any) ps) x g is = field_known (suc n) ts ps x g is
field_known n ts (more_patterns (pattern p nothing) ps) x g is = field_known (suc n) ts ps x g is
field_known n ts (more_patterns (pattern p (tuple_of qs)) ps) x g is = field_known (suc n) ts ps x g is
field_known n ts (more_patterns (pattern p (build_of c q qs)) ps) x g is = field_known (suc n) ts ps x g is
field_known n ts (more_patterns (pattern p (bind y)) ps) x g is = field_by n ts ps x g (λ more. field_known (suc n) ts ps x g more) (y == x) is

variable_known : (ds : List DataTree) (q : Pattern) (x : ℕ) (g : Shape) → first_in (fields_of ds q) x ≡ Some g → (v : Variable) × (first_in (fields_in q) x ≡ Some v)
variable_known ds (pattern p any) x g is = absurd (let e = is in cc)
variable_known ds (pattern p (bind y)) x g is = absurd (let e = is in cc)
variable_known ds (pattern p nothing) x g is = absurd (let e = is in cc)
variable_known ds (pattern p (tuple_of qs)) x g is = absurd (let e = is in cc)
variable_known ds (pattern p (build_of c q qs)) x g is = by_made (constructor ds c) is
  where
    by_made : (o : Option Made) → first_in (fields_made o qs) x ≡ Some g → (v : Variable) × (first_in (fields_from 0 qs) x ≡ Some v)
    by_made None is = absurd (let e = is in cc)
    by_made (Some k) is = field_known 0 k.fields qs x g is

fits : (texts : List (List ℕ)) (ds : List DataTree) (known : Lookup Measured) (n : ℕ) (q : Pattern) (shapes : Lookup Shape)
    → Fit (equations.equation_setting texts ds known n q) (equation_setting known q) shapes []
fits texts ds known n q shapes = record {
  variables = λ x g is. variable_known ds q x g is;
  placeholders = λ own x g is. absurd (let e = own in cc);
  measures = refl;
}

not_later : (p : Place) (own n : ℕ) → of_later p own n ≡ [] → n ≤ own
not_later p own n none = by_test (nat_lt own n) refl none
  where
    by_test : (t : Bool) → nat_lt own n ≡ t → (if t then at p not_structural ∷ [] else []) ≡ [] → n ≤ own
    by_test true is none = absurd (let e = none in cc)
    by_test false is none = ltb-false own n is

module _ (a : sorts.Setting) (s : Setting) (shapes : Lookup Shape) (own : ℕ) (here : a.own ≡ Some own) (same : s.measures ≡ a.measures) where
  applied_most : (p : Place) (m : ℕ) (e : PredTree) → sorts.of_measure a p m e (a.measures m) ≡ [] → number_of (s.measures m) ≤ own
  applied_most p m e none = by_measure (a.measures m) refl none
    where
      by_own : (o : Option ℕ) (k : Measured) → o ≡ Some own → of_applied o a.variables p e k ≡ [] → k.number ≤ own
      by_own None k is none = absurd (let w = is in cc)
      by_own (Some i) k is none =
          let equal : i ≡ own = cc in subst (λ (j : ℕ). k.number ≤ j) equal (not_later p i k.number (both_none (of_later p i k.number) (of_argument a.variables e) none).0)

      by_measure : (o : Option Measured) → a.measures m ≡ o → sorts.of_measure a p m e o ≡ [] → number_of (s.measures m) ≤ own
      by_measure None is wrong = absurd (let w = wrong in cc)
      by_measure (Some k) is none =
          subst (λ (j : ℕ). j ≤ own) (sym (ap (λ (l : Lookup Measured). number_of (l m)) same ∙ ap number_of is)) (by_own a.own k here none)

  mutual
    pub at_most : (t : PredTree) → Clean a shapes (spots a (Some int) t) → AreAtMost own (term_of s t)
    at_most (pred_tree p f) clean = let first = clean_first a shapes (spot (Some int) (pred_tree p f)) (spots_in a f) clean in form_at_most p f first.0 first.2

    form_at_most : (p : Place) (f : PredForm) → of_form a shapes p (Some int) f ≡ [] → Clean a shapes (spots_in a f) → AreAtMost own (term_form s f)
    form_at_most p (whole n) none clean = tt
    form_at_most p (use_of x) none clean = tt
    form_at_most p (placeholder x) none clean = tt
    form_at_most p (applied m e) none clean = applied_most p m e (both_none (sorts.of_measure a p m e (a.measures m)) (mismatch p (Some int) int) none).0
    form_at_most p (qualified m x e) none clean = tt
    form_at_most p (arithmetic o b c) none clean =
        let both = clean_both a shapes (spots a (Some int) b) (spots a (Some int) c) clean in (at_most b both.0, at_most c both.1)
    form_at_most p (negated e) none clean = at_most e clean
    form_at_most p (flag b) none clean = tt
    form_at_most p (compare o b c) none clean = tt
    form_at_most p (not_of b) none clean = tt
    form_at_most p (and_of b c) none clean = tt
    form_at_most p (or_of b c) none clean = tt
    form_at_most p (iff b c) none clean = tt

module _ (texts : List (List ℕ)) (ds : List DataTree) (known : Lookup Measured) where
  equation_is : (n : ℕ) (e : EquationTree) → of_predicate (equations.equation_setting texts ds known n e.pattern) (Some int) e.term ≡ [] → EquationIs texts ds known n e
  equation_is n e none =
      let a = equations.equation_setting texts ds known n e.pattern in
      let s = equation_setting known e.pattern in
      let ws = uses (spots a (Some int) e.term) in
      let clean : Clean a (first_in ws) (spots a (Some int) e.term) = record { none = none; covered = covers_itself ws } in
      (term_is a s (first_in ws) [] (fits texts ds known n e.pattern (first_in ws)) e.term clean, at_most a s (first_in ws) n refl refl e.term clean)

  equations_are : (n d : ℕ) (before : Names) (es : List EquationTree) → of_equations texts ds known n d before es ≡ [] → EquationsAre texts ds known n es
  equations_are n d before [] none = tt
  equations_are n d before (e ∷ es) none =
      let term = of_predicate (equations.equation_setting texts ds known n e.pattern) (Some int) e.term in
      let rest = of_equations texts ds known n d (behind before e.pattern) es in
      let parts = both_none (of_pattern ds d before e.pattern) (term ++ rest) none in
      let more = both_none term rest parts.1 in
      (equation_is n e more.0, equations_are n d (behind before e.pattern) es more.1)

  measures_are : (n : ℕ) (ms : List MeasureTree) → of_measures_from texts ds known n ms ≡ [] → MeasuresAre texts ds known n ms
  measures_are n [] none = tt
  measures_are n (m ∷ ms) none =
      let parts = both_none (of_measure texts ds known n m) (of_measures_from texts ds known (suc n) ms) none in
      let es = of_equations texts ds known n m.datatype no_names m.equations in
      let datatype = of_datatype m.datatype_place m.datatype (shape_named ds m.datatype) in
      let count = counted m.place (size ds m.datatype) (length m.equations) in
      let behind_name = both_none (of_definition m.place m.name n (known m.name)) (count ++ (datatype ++ es)) parts.0 in
      let behind_count = both_none count (datatype ++ es) behind_name.1 in
      (equations_are n m.datatype no_names m.equations (both_none datatype es behind_count.1).1, measures_are (suc n) ms parts.1)

pub measures_become : MeasuresBecome
measures_become texts ds ms none = measures_are texts ds (measures_in ms) 0 ms none
