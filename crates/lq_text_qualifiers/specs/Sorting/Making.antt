-- What measures and qualifiers become once their names are bound. They have a meaning where nothing is wrong with them; elsewhere what
-- doesn't fit becomes 0, false or the value.
use Rattle.std.specs.Prelude.{ℕ, suc, ◌==◌, pos, false, List, [], ◌∷◌, ◌++◌, map, Option, Some, None, unwrap_or, if◌then◌else◌}
use Rattle.lq_text_walk.specs.Scoped.Signature.{ConstructorTree, DataTree}
use Rattle.lq_text_tree.specs.MeasureTrees.{EquationTree, MeasureTree}
use Rattle.lq_text_tree.specs.Pattern.{Pattern, pattern, PatternForm, any, bind, nothing, tuple_of, build_of, Patterns, no_patterns, more_patterns}
use Rattle.lq_text_tree.specs.PredTree.{PredTree, pred_tree, PredForm, flag, whole, use_of, placeholder, applied, qualified, arithmetic, negated, compare, not_of, and_of, or_of, iff}
use Rattle.lq_text_tree.specs.Qualifiers.{QualifierTree}
use Rattle.lq_text_qualifiers.specs.Faults.Datatypes.{predeclared}
use Rattle.lq_text_qualifiers.specs.Faults.Equations.{measures_in}
use Rattle.lq_text_qualifiers.specs.Faults.Lookups.{Lookup, first_in, one}
use Rattle.lq_text_qualifiers.specs.Faults.Predicates as sorts
use Rattle.lq_text_qualifiers.specs.Faults.Predicates.{Measured}
use Rattle.lq_text_qualifiers.specs.Faults.Shapes.{Shape, int, bool, array, data_of}
use Rattle.lq_text_qualifiers.specs.Sorting.Placeholders.{numbered, placeholders_in, shapes_of}
use Rattle.lq_text_qualifiers.specs.Sorting.Sorted.{Variable, value, field_at, placeholder_at, Term, literal, variable, length_of, measured, operation, negative, Predicate, constant, holds, comparison, negation, conjunction, disjunction, equivalence, Qualifier, Measure}

-- what names stand for in a predicate or a term
pub record Setting : Type 0 where
  pub variables : Lookup Variable
  -- placeholders have numbers
  pub placeholders : Lookup ℕ
  pub measures : Lookup Measured

-- the number of a measure
abbrev pub number_of : Option Measured → ℕ
number_of None = 0
number_of (Some m) = m.number

module _ (s : Setting) where
  -- a variable or a placeholder
  abbrev pub variable_form : PredForm → Variable
  variable_form (use_of x) = unwrap_or (s.variables x) value
  variable_form (placeholder x) = placeholder_at (unwrap_or (s.placeholders x) 0)
  variable_form (flag b) = value
  variable_form (whole n) = value
  variable_form (applied m e) = value
  variable_form (qualified m x e) = value
  variable_form (arithmetic o a b) = value
  variable_form (negated e) = value
  variable_form (compare o a b) = value
  variable_form (not_of e) = value
  variable_form (and_of a b) = value
  variable_form (or_of a b) = value
  variable_form (iff a b) = value

  abbrev pub variable_of : PredTree → Variable
  variable_of (pred_tree p f) = variable_form f

  -- what stands where a whole number is asked for; the one name with a dot is `Array.length`
  abbrev mutual
    pub term_of : PredTree → Term
    term_of (pred_tree p f) = term_form f

    pub term_form : PredForm → Term
    term_form (whole n) = literal n
    term_form (use_of x) = variable (variable_form (use_of x))
    term_form (placeholder x) = variable (variable_form (placeholder x))
    term_form (applied m e) = measured (number_of (s.measures m)) (variable_of e)
    term_form (qualified m x e) = length_of (variable_of e)
    term_form (arithmetic o a b) = operation o (term_of a) (term_of b)
    term_form (negated e) = negative (term_of e)
    term_form (flag b) = literal (pos 0)
    term_form (compare o a b) = literal (pos 0)
    term_form (not_of e) = literal (pos 0)
    term_form (and_of a b) = literal (pos 0)
    term_form (or_of a b) = literal (pos 0)
    term_form (iff a b) = literal (pos 0)

  -- what stands where a truth value is asked for: the sides of a comparison are whole numbers, of an equivalence truth values
  abbrev mutual
    pub predicate_of : PredTree → Predicate
    predicate_of (pred_tree p f) = predicate_form f

    pub predicate_form : PredForm → Predicate
    predicate_form (flag b) = constant b
    predicate_form (use_of x) = holds (variable_form (use_of x))
    predicate_form (placeholder x) = holds (variable_form (placeholder x))
    predicate_form (compare o a b) = comparison o (term_of a) (term_of b)
    predicate_form (not_of e) = negation (predicate_of e)
    predicate_form (and_of a b) = conjunction (predicate_of a) (predicate_of b)
    predicate_form (or_of a b) = disjunction (predicate_of a) (predicate_of b)
    predicate_form (iff a b) = equivalence (predicate_of a) (predicate_of b)
    predicate_form (whole n) = constant false
    predicate_form (applied m e) = constant false
    predicate_form (qualified m x e) = constant false
    predicate_form (arithmetic o a b) = constant false
    predicate_form (negated e) = constant false

-- the shape that a name after a colon stands for
abbrev pub shape_called : ℕ → Shape
shape_called x = if x == 0 then int else if x == 1 then bool else if x == 3 then array else data_of x

-- what is known in a qualifier whose value has this name and shape, for the shapes of its subtrees
abbrev pub asking : List (List ℕ) → Lookup Measured → ℕ → Shape → sorts.Setting
asking texts known v a = record { texts = texts; variables = one v a; measures = known; own = None }

abbrev pub qualifier_setting : Lookup Measured → ℕ → List (ℕ × Shape) → Setting
qualifier_setting known v us = record { variables = one v value; placeholders = first_in (numbered 0 us); measures = known }

-- a qualifier with its names bound, where the placeholders of its predicate are these
abbrev pub qualifier_with : Lookup Measured → QualifierTree → List (ℕ × Shape) → Qualifier
qualifier_with known q us =
    record { name = q.name; place = q.place; shape = shape_called q.shape; placeholders = shapes_of us; predicate = predicate_of (qualifier_setting known q.value us) q.predicate }

module _ (texts : List (List ℕ)) (known : Lookup Measured) where
  abbrev pub qualifier_made : QualifierTree → Qualifier
  qualifier_made q = qualifier_with known q (placeholders_in (asking texts known q.value (shape_called q.shape)) q.predicate)

-- the variable of a field's pattern, where the field has this number
abbrev pub bound_form : PatternForm → ℕ → List (ℕ × Variable)
bound_form (bind x) n = (x, field_at n) ∷ []
bound_form any n = []
bound_form nothing n = []
bound_form (tuple_of ps) n = []
bound_form (build_of c q ps) n = []

abbrev pub bound_at : Pattern → ℕ → List (ℕ × Variable)
bound_at (pattern p f) n = bound_form f n

-- the variables of the patterns of fields, from this field on
abbrev pub fields_from : ℕ → Patterns → List (ℕ × Variable)
fields_from n no_patterns = []
fields_from n (more_patterns p ps) = bound_at p n ++ fields_from (suc n) ps

abbrev pub fields_form : PatternForm → List (ℕ × Variable)
fields_form (build_of c q ps) = fields_from 0 ps
fields_form any = []
fields_form (bind x) = []
fields_form nothing = []
fields_form (tuple_of ps) = []

abbrev pub fields_in : Pattern → List (ℕ × Variable)
fields_in (pattern p f) = fields_form f

abbrev pub equation_setting : Lookup Measured → Pattern → Setting
equation_setting known p = record { variables = first_in (fields_in p); placeholders = λ x. None; measures = known }

-- an equation by the constructor of its pattern
abbrev pub filed_form : PatternForm → EquationTree → List (ℕ × EquationTree)
filed_form (build_of c q ps) e = (c, e) ∷ []
filed_form any e = []
filed_form (bind x) e = []
filed_form nothing e = []
filed_form (tuple_of ps) e = []

abbrev pub filed_by : Pattern → EquationTree → List (ℕ × EquationTree)
filed_by (pattern p f) e = filed_form f e

abbrev pub filed : List EquationTree → List (ℕ × EquationTree)
filed [] = []
filed (e ∷ es) = filed_by e.pattern e ++ filed es

abbrev pub term_by : Lookup Measured → Option EquationTree → Term
term_by known None = literal (pos 0)
term_by known (Some e) = term_of (equation_setting known e.pattern) e.term

-- what a measure with these equations is of a value of a constructor
abbrev pub term_at : Lookup Measured → Lookup EquationTree → ℕ → Term
term_at known es c = term_by known (es c)

abbrev pub constructor_name : ConstructorTree → ℕ
constructor_name c = c.name

-- the constructors of a datatype, by its name
abbrev pub constructors_of : DataTree → ℕ × List ℕ
constructors_of d = (d.name, map constructor_name d.constructors)

-- the names of the constructors of the datatype of this name, in the order of its definition
abbrev pub constructors_named : List DataTree → ℕ → List ℕ
constructors_named ds d = unwrap_or (first_in (map constructors_of (predeclared ++ ds)) d) []

module _ (ds : List DataTree) (known : Lookup Measured) where
  abbrev pub measure_made : MeasureTree → Measure
  measure_made m =
      record { name = m.name; datatype = m.datatype; terms = map (term_at known (first_in (filed m.equations))) (constructors_named ds m.datatype) }

-- the measures of a text with their names bound, where these datatypes are defined
abbrev pub measures_made : List DataTree → List MeasureTree → List Measure
measures_made ds ms = map (measure_made ds (measures_in ms)) ms

-- the qualifiers of a text with their names bound, where these measures are defined
abbrev pub qualifiers_made : List (List ℕ) → List MeasureTree → List QualifierTree → List Qualifier
qualifiers_made texts ms qs = map (qualifier_made texts (measures_in ms)) qs
