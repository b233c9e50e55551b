-- The measures of a text fit the constructors of its program.
use Rattle.std.proofs.Common.{◌≡◌, ◌∙◌, ℕ, zero, suc, ◌+◌, Bool, true, false, List, [], ◌∷◌, ◌++◌, map, Option, Some, None, slice_get, if◌then◌else◌, refl, sym, ap, subst, arith}
use Rattle.std.specs.Prelude.{◌==◌}
use Rattle.std.specs.List.{flat_map}
use Rattle.std.proofs.lemmas.Bool.{eqb-true}
use Rattle.lq_generate_datatypes.specs.Equations.{place_in}
use Rattle.lq_refined_measures.specs.Equations.Facts.{equation_at, equation_of, measure_name, measures_of}
use Rattle.lq_refined_measures.specs.Values.Reading.{NamesDiffer}
use Rattle.lq_base_names.specs.declared.place.Place.{Place}
use Rattle.lq_logic_predicates.specs.Formula.{Formula}
use Rattle.lq_logic_predicates.specs.Sum.{var}
use Rattle.lq_logic_predicates.specs.declared.symbol.Symbol.TheVariants.{Value}
use Rattle.lq_sound_scope.proofs.ScopesLemmas.Symbols.{own_one}
use Rattle.lq_sound_values.specs.Runs.Closed.{EachSorted, with_value}
use Rattle.lq_sound_programs.specs.Safety.Scoped.{IsIn}
use Rattle.lq_sound_scope.specs.Scalars.Data.{measured_from}
use Rattle.lq_sound_programs.specs.Scenes.Scenes.{equations_at, positions_from}
use Rattle.lq_text_walk.specs.Scoped.Signature.{DataTree, signature_in}
use Rattle.lq_text_qualifiers.specs.Sorting.Making.{constructors_named, equation_setting, fields_from, filed, filed_by, filed_form, measure_made, measures_made, term_at, term_by, term_of}
use Rattle.lq_text_qualifiers.specs.Sorting.Rules.{EquationIs, EquationsAre, MeasuresAre, MeasuresBecome}
use Rattle.lq_text_qualifiers.specs.Sorting.Sorted.{Measure, Term}
use Rattle.lq_text_qualifiers.specs.Faults.Datatypes.{Made, constructor}
use Rattle.lq_text_qualifiers.specs.Faults.Equations as equations
use Rattle.lq_text_qualifiers.specs.Faults.Equations.{fields_made, measures_in}
use Rattle.lq_text_qualifiers.specs.Faults.Lookups.{Lookup, first_in, or_else}
use Rattle.lq_text_qualifiers.specs.Faults.Predicates.{Measured}
use Rattle.lq_text_tree.specs.MeasureTrees.{EquationTree, MeasureTree}
use Rattle.lq_text_tree.specs.MlType.{MlTypes}
use Rattle.lq_text_tree.specs.Pattern.{Pattern, pattern, PatternForm, any, bind, nothing, tuple_of, build_of, Patterns}
use Rattle.lq_text_tree.specs.Types.{Constructor, count_types}
use Rattle.lq_sound_texts.specs.Measures.Laws.{TextMeasuresFit}
use Rattle.lq_sound_texts.proofs.MeasuresLemmas.Lists.{got_map, same_some}
use Rattle.lq_sound_texts.proofs.MeasuresLemmas.Names.{names_differ}
use Rattle.lq_sound_texts.proofs.MeasuresLemmas.Places.{listed, made_there, named_there}
use Rattle.lq_sound_texts.proofs.MeasuresLemmas.Terms.{Suits, term_below, term_on, term_suits}

-- ---- equations

module _ (texts : List (List ℕ)) (ds : List DataTree) (known : Lookup Measured) (n : ℕ) where
  -- an equation of the constructor
  abbrev IsFound : ℕ → EquationTree → Type 0
  IsFound c e = (qs : Patterns) × ((x : ℕ) → first_in (equations.fields_of ds e.pattern) x ≡ first_in (fields_made (constructor ds c) qs) x)
      × ((x : ℕ) → (equation_setting known e.pattern).variables x ≡ first_in (fields_from 0 qs) x) × EquationIs texts ds known n e

  found : (es : List EquationTree) → EquationsAre texts ds known n es → (c : ℕ) (e : EquationTree) → first_in (filed es) c ≡ Some e → IsFound c e
  found [] h c e g = absurd (let w = g in cc)
  found (z ∷ es) h c e g = by_pattern z.pattern refl g (λ k. found es h.1 c e k)
    where
      Later : Type 0
      Later = first_in (filed es) c ≡ Some e → IsFound c e

      by_name : (p : Place) (b : ℕ) (q : Place) (qs : Patterns) → z.pattern ≡ pattern p (build_of b q qs) → (t : Bool) → (b == c) ≡ t
          → or_else (if t then Some z else None) (first_in (filed es) c) ≡ Some e → Later → IsFound c e
      by_name p b q qs is true t k later =
          let same : b ≡ c = eqb-true b c t in
          subst (IsFound c) (same_some z e k) (
            qs,
            (λ x. ap (λ (r : Pattern). first_in (equations.fields_of ds r) x) is ∙ ap (λ (y : ℕ). first_in (fields_made (constructor ds y) qs) x) same),
            (λ x. ap (λ (r : Pattern). (equation_setting known r).variables x) is),
            h.0,
          )
      by_name p b q qs is false t k later = later k

      by_form : (p : Place) (f : PatternForm) → z.pattern ≡ pattern p f → first_in (filed_form f z ++ filed es) c ≡ Some e → Later → IsFound c e
      by_form p any is k later = later k
      by_form p (bind x) is k later = later k
      by_form p nothing is k later = later k
      by_form p (tuple_of qs) is k later = later k
      by_form p (build_of b q qs) is k later = by_name p b q qs is (b == c) refl k later

      by_pattern : (r : Pattern) → z.pattern ≡ r → first_in (filed_by r z ++ filed es) c ≡ Some e → Later → IsFound c e
      by_pattern (pattern p f) is k later = by_form p f is k later

  found_suits : (c : ℕ) (k : Constructor) → signature_in ds c ≡ Some k → (e : EquationTree) → IsFound c e
      → Suits k.fields (term_of (equation_setting known e.pattern) e.term)
  found_suits c k there e (qs, a, b, is) =
      term_suits k.fields qs (equations.equation_setting texts ds known n e.pattern) (equation_setting known e.pattern)
      (λ x. a x ∙ ap (λ (o : Option Made). first_in (fields_made o qs) x) (made_there ds c k there)) b e.term
      (term_of (equation_setting known e.pattern) e.term) is.0

  at_suits : (es : List EquationTree) → EquationsAre texts ds known n es → (c : ℕ) (k : Constructor) → signature_in ds c ≡ Some k
      → Suits k.fields (term_at known (first_in (filed es)) c)
  at_suits es h c k there = by (first_in (filed es) c) refl
    where
      by : (o : Option EquationTree) → first_in (filed es) c ≡ o → Suits k.fields (term_by known o)
      by None g = tt
      by (Some e) g = found_suits c k there e (found es h c e g)

-- the equations of each measure
equations_of : (texts : List (List ℕ)) (ds : List DataTree) (known : Lookup Measured) (n : ℕ) (ts : List MeasureTree) → MeasuresAre texts ds known n ts
    → (i : ℕ) (t : MeasureTree) → slice_get ts i ≡ Some t → EquationsAre texts ds known (n + i) t.equations
equations_of texts ds known n [] h i t e = absurd (let w = e in cc)
equations_of texts ds known n (m ∷ ts) h zero t e =
    let there : n ≡ n + 0 = omega arith in
    subst (λ (k : ℕ). EquationsAre texts ds known k t.equations) there
    (subst (λ (u : MeasureTree). EquationsAre texts ds known n u.equations) (same_some m t e) h.0)
equations_of texts ds known n (m ∷ ts) h (suc i) t e =
    let there : suc n + i ≡ n + suc i = omega arith in
    subst (λ (k : ℕ). EquationsAre texts ds known k t.equations) there (equations_of texts ds known (suc n) ts h.1 i t e)

-- ---- measures at constructors

-- each term that a measure has for the constructor suits it
abbrev pub AllSuit : List DataTree → List Measure → ℕ → Constructor → Type 0
AllSuit ds ms c k =
    (i : ℕ) (m : Measure) (t : Term) → slice_get ms i ≡ Some m → m.datatype ≡ k.datatype → slice_get m.terms (place_in ds c) ≡ Some t → Suits k.fields t

pub all_suit : MeasuresBecome → (ds : List DataTree) (ts : List MeasureTree) (texts : List (List ℕ)) → equations.of_measures texts ds ts ≡ [] → (c : ℕ)
    (k : Constructor) → signature_in ds c ≡ Some k → AllSuit ds (measures_made ds ts) c k
all_suit become ds ts texts none c k there i m t e d f = one (got_map (measure_made ds (measures_in ts)) ts i m e)
  where
    known : Lookup Measured
    known = measures_in ts

    term_there : (u : MeasureTree) → slice_get ts i ≡ Some u
        → (x : ℕ) × (slice_get (constructors_named ds k.datatype) (place_in ds c) ≡ Some x) × (t ≡ term_at known (first_in (filed u.equations)) x)
        → Suits k.fields t
    term_there u a (x, g, h) =
        let same : x ≡ c = named_there ds c k there x g in
        let at = at_suits texts ds known (0 + i) u.equations (equations_of texts ds known 0 ts (become texts ds ts none) i u a) c k there in
        subst (Suits k.fields) (sym (h ∙ ap (term_at known (first_in (filed u.equations))) same)) at

    one : (u : MeasureTree) × (slice_get ts i ≡ Some u) × (m ≡ measure_made ds known u) → Suits k.fields t
    one (u, a, b) =
        let own : u.datatype ≡ k.datatype = sym (ap (λ (z : Measure). z.datatype) b) ∙ d in
        let terms : slice_get (map (term_at known (first_in (filed u.equations))) (constructors_named ds k.datatype)) (place_in ds c) ≡ Some t =
        ap (λ (y : ℕ). slice_get (map (term_at known (first_in (filed u.equations))) (constructors_named ds y)) (place_in ds c)) (sym own)
        ∙ ap (λ (z : Measure). slice_get z.terms (place_in ds c)) (sym b) ∙ f in
        term_there u a (got_map (term_at known (first_in (filed u.equations))) (constructors_named ds k.datatype) (place_in ds c) t terms)

-- ---- equations at their sorts

module _ (names : List ℕ) (fs : MlTypes) where
  abbrev At : List Formula → Type 0
  At ps = EachSorted (with_value (measured_from 0 fs)) (λ y. false) ps

  both_sorted : (ps qs : List Formula) → At ps → At qs → At (ps ++ qs)
  both_sorted [] qs h k = k
  both_sorted (p ∷ ps) qs h k = (h.0, both_sorted ps qs h.1 k)

  one_sorted : (f : ℕ) (o : Option Term) → ((t : Term) → o ≡ Some t → Suits fs t) → At (equation_of names (positions_from 0 (count_types fs)) (var Value) f o)
  one_sorted f None h = tt
  one_sorted f (Some t) h = ((own_one (measured_from 0 fs) Value, term_on names fs t (h t refl)), tt)

  measures_sorted : (d place : ℕ) (ks : List Measure)
      → ((i : ℕ) (m : Measure) (t : Term) → slice_get ks i ≡ Some m → m.datatype ≡ d → slice_get m.terms place ≡ Some t → Suits fs t)
      → At (flat_map (equation_at names (positions_from 0 (count_types fs)) (var Value) place) (measures_of ks d))
  measures_sorted d place [] h = tt
  measures_sorted d place (m ∷ ks) h = by (m.datatype == d) refl (measures_sorted d place ks (λ i k t e. h (suc i) k t e))
    where
      by : (b : Bool) → (m.datatype == d) ≡ b → At (flat_map (equation_at names (positions_from 0 (count_types fs)) (var Value) place) (measures_of ks d))
          → At (flat_map (equation_at names (positions_from 0 (count_types fs)) (var Value) place) (if b then m ∷ measures_of ks d else measures_of ks d))
      by true e rest =
          both_sorted (equation_at names (positions_from 0 (count_types fs)) (var Value) place m)
          (flat_map (equation_at names (positions_from 0 (count_types fs)) (var Value) place) (measures_of ks d))
          (one_sorted m.name (slice_get m.terms place) (λ t g. h 0 m t refl (eqb-true m.datatype d e) g)) rest
      by false e rest = rest

pub measures_fit : MeasuresBecome → TextMeasuresFit
measures_fit become P ds ms is of = (
  record {
    equations_are = λ c. is.equations c ∙ ap (equations_at ms (place_in ds) c) (sym (is.constructors c));
    names = subst NamesDiffer (sym of.made) (names_differ of.names ds of.trees of.none);
    below = λ c k e i m t g d f. term_below k.fields t (suits c k (sym (is.constructors c) ∙ e) i m t g d f);
  },
  (λ c k e.
      subst (EachSorted (with_value (measured_from 0 k.fields)) (λ y. false))
      (sym (is.equations c ∙ ap (equations_at ms (place_in ds) c) (sym (is.constructors c) ∙ e)))
      (measures_sorted (map measure_name ms) k.fields k.datatype (place_in ds c) ms (suits c k (sym (is.constructors c) ∙ e)))),
  (λ c k e. subst (λ xs. IsIn xs c) (sym (is.ordered k.datatype)) (listed ds c k (sym (is.constructors c) ∙ e))),
)
  where
    suits : (c : ℕ) (k : Constructor) → signature_in ds c ≡ Some k → AllSuit ds ms c k
    suits c k e = subst (λ ks. AllSuit ds ks c k) (sym of.made) (all_suit become ds of.trees of.names of.none c k e)
