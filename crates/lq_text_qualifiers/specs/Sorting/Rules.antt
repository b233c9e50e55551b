-- What measures and qualifiers become, by rules: what is made says what was written, each name stands for what it names, and each
-- variable has the shape that its place asks for.
use Rattle.std.specs.Prelude.{◌≡◌, ◌≤◌, ℕ, suc, true, List, [], ◌∷◌, Some, slice_get}
use Rattle.lq_text_walk.specs.Scoped.Signature.{DataTree}
use Rattle.lq_text_tree.specs.MeasureTrees.{EquationTree, MeasureTree}
use Rattle.lq_text_tree.specs.PredTree.{PredTree, PredForm, flag, whole, use_of, placeholder, applied, qualified, arithmetic, negated, compare, not_of, and_of, or_of, iff}
use Rattle.lq_text_tree.specs.Qualifiers.{QualifierTree}
use Rattle.lq_text_qualifiers.specs.Faults.Datatypes.{shape_named}
use Rattle.lq_text_qualifiers.specs.Faults.Equations as equations
use Rattle.lq_text_qualifiers.specs.Faults.Equations.{measures_in, of_measures}
use Rattle.lq_text_qualifiers.specs.Faults.Lookups.{Lookup}
use Rattle.lq_text_qualifiers.specs.Faults.Predicates as sorts
use Rattle.lq_text_qualifiers.specs.Faults.Predicates.{Measured, form_of, is_length}
use Rattle.lq_text_qualifiers.specs.Faults.Qualifiers.{of_qualifiers}
use Rattle.lq_text_qualifiers.specs.Faults.Shapes.{Shape, int, bool, array, data_of}
use Rattle.lq_text_qualifiers.specs.Sorting.Making.{Setting, asking, equation_setting, qualifier_made, qualifier_setting, term_of}
use Rattle.lq_text_qualifiers.specs.Sorting.Placeholders.{placeholders_in, shapes_of}
use Rattle.lq_text_qualifiers.specs.Sorting.Sorted.{Variable, placeholder_at, Term, literal, variable, length_of, measured, operation, negative, Predicate, constant, holds, comparison, negation, conjunction, disjunction, equivalence}

-- the shapes and the meanings of names, and the placeholders with their shapes
module _ (a : sorts.Setting) (s : Setting) (us : List (ℕ × Shape)) where
  -- A name of this shape is this variable.
  abbrev pub NameIs : Shape → PredForm → Variable → Type 0
  NameIs g (use_of x) v = (s.variables x ≡ Some v) × (a.variables x ≡ Some g)
  NameIs g (placeholder x) v = (n : ℕ) × (v ≡ placeholder_at n) × (slice_get us n ≡ Some (x, g))
  NameIs g (flag b) v = ⊥
  NameIs g (whole n) v = ⊥
  NameIs g (applied m e) v = ⊥
  NameIs g (qualified m x e) v = ⊥
  NameIs g (arithmetic o b c) v = ⊥
  NameIs g (negated e) v = ⊥
  NameIs g (compare o b c) v = ⊥
  NameIs g (not_of e) v = ⊥
  NameIs g (and_of b c) v = ⊥
  NameIs g (or_of b c) v = ⊥
  NameIs g (iff b c) v = ⊥

  abbrev pub VariableIs : Shape → PredTree → Variable → Type 0
  VariableIs g t v = NameIs g (form_of t) v

  -- what is written is this term
  abbrev pub TermIs : PredTree → Term → Type 0
  TermIs t (literal n) = form_of t ≡ whole n
  TermIs t (variable v) = VariableIs int t v
  TermIs t (length_of v) = (m x : ℕ) × (e : PredTree) × (form_of t ≡ qualified m x e) × (is_length a.texts m x ≡ true) × VariableIs array e v
  TermIs t (measured n v) =
      (m d : ℕ) × (e : PredTree) × (form_of t ≡ applied m e) × (a.measures m ≡ Some (record { number = n; datatype = d })) × VariableIs (data_of d) e v
  TermIs t (operation o b c) = (d e : PredTree) × (form_of t ≡ arithmetic o d e) × TermIs d b × TermIs e c
  TermIs t (negative b) = (d : PredTree) × (form_of t ≡ negated d) × TermIs d b

  -- what is written is this predicate
  abbrev pub PredicateIs : PredTree → Predicate → Type 0
  PredicateIs t (constant b) = form_of t ≡ flag b
  PredicateIs t (holds v) = VariableIs bool t v
  PredicateIs t (comparison o b c) = (d e : PredTree) × (form_of t ≡ compare o d e) × TermIs d b × TermIs e c
  PredicateIs t (negation b) = (d : PredTree) × (form_of t ≡ not_of d) × PredicateIs d b
  PredicateIs t (conjunction b c) = (d e : PredTree) × (form_of t ≡ and_of d e) × PredicateIs d b × PredicateIs e c
  PredicateIs t (disjunction b c) = (d e : PredTree) × (form_of t ≡ or_of d e) × PredicateIs d b × PredicateIs e c
  PredicateIs t (equivalence b c) = (d e : PredTree) × (form_of t ≡ iff d e) × PredicateIs d b × PredicateIs e c

-- A qualifier: the name after the colon stands for its shape, and its predicate is what is written.
abbrev pub QualifierIs : List (List ℕ) → List DataTree → Lookup Measured → QualifierTree → Type 0
QualifierIs texts ds known q =
    let made = qualifier_made texts known q in let a = asking texts known q.value made.shape in let us = placeholders_in a q.predicate in
    (shape_named ds q.shape ≡ Some made.shape) × (made.placeholders ≡ shapes_of us) × PredicateIs a (qualifier_setting known q.value us) us q.predicate made.predicate

abbrev pub QualifiersAre : List (List ℕ) → List DataTree → Lookup Measured → List QualifierTree → Type 0
QualifiersAre texts ds known [] = Unit {0}
QualifiersAre texts ds known (q ∷ qs) = QualifierIs texts ds known q × QualifiersAre texts ds known qs

-- qualifiers without complaints become what is written
abbrev pub QualifiersBecome : Type 0
QualifiersBecome =
    (texts : List (List ℕ)) (ds : List DataTree) (ms : List MeasureTree) (qs : List QualifierTree) → of_qualifiers texts ds ms qs ≡ []
    → QualifiersAre texts ds (measures_in ms) qs

-- the measures of a term are at most this one
abbrev pub AreAtMost : ℕ → Term → Type 0
AreAtMost own (literal n) = Unit {0}
AreAtMost own (variable v) = Unit {0}
AreAtMost own (length_of v) = Unit {0}
AreAtMost own (measured n v) = n ≤ own
AreAtMost own (operation o b c) = AreAtMost own b × AreAtMost own c
AreAtMost own (negative b) = AreAtMost own b

-- An equation of the measure with this number: its term is what is written, of no measure that is defined later.
abbrev pub EquationIs : List (List ℕ) → List DataTree → Lookup Measured → ℕ → EquationTree → Type 0
EquationIs texts ds known n e =
    let s = equation_setting known e.pattern in
    TermIs (equations.equation_setting texts ds known n e.pattern) s [] e.term (term_of s e.term) × AreAtMost n (term_of s e.term)

abbrev pub EquationsAre : List (List ℕ) → List DataTree → Lookup Measured → ℕ → List EquationTree → Type 0
EquationsAre texts ds known n [] = Unit {0}
EquationsAre texts ds known n (e ∷ es) = EquationIs texts ds known n e × EquationsAre texts ds known n es

abbrev pub MeasuresAre : List (List ℕ) → List DataTree → Lookup Measured → ℕ → List MeasureTree → Type 0
MeasuresAre texts ds known n [] = Unit {0}
MeasuresAre texts ds known n (m ∷ ms) = EquationsAre texts ds known n m.equations × MeasuresAre texts ds known (suc n) ms

-- measures without complaints become what is written
abbrev pub MeasuresBecome : Type 0
MeasuresBecome =
    (texts : List (List ℕ)) (ds : List DataTree) (ms : List MeasureTree) → of_measures texts ds ms ≡ [] → MeasuresAre texts ds (measures_in ms) 0 ms
