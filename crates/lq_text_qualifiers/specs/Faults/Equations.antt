-- What is wrong with measures.
use Rattle.std.specs.Prelude.{ℕ, suc, ◌==◌, nat_lt, List, [], ◌∷◌, ◌++◌, length, Option, Some, None, if◌then◌else◌}
use Rattle.lq_base_names.specs.declared.place.Place.{Place}
use Rattle.lq_text_scope.specs.Patterns.{binders_in, count_of}
use Rattle.lq_text_walk.specs.Scoped.Signature.{DataTree}
use Rattle.lq_text_tree.specs.Items.{Named}
use Rattle.lq_text_tree.specs.MeasureTrees.{EquationTree, MeasureTree}
use Rattle.lq_text_tree.specs.MlType.{MlTypes}
use Rattle.lq_text_tree.specs.Pattern.{Pattern, pattern, PatternForm, any, bind, nothing, tuple_of, build_of, Patterns, no_patterns, more_patterns}
use Rattle.lq_text_tree.specs.Types.{type_at, count_types}
use Rattle.lq_text_qualifiers.specs.Faults.Complaints.{Complaint, at, unknown, twice, arity, bad_sort}
use Rattle.lq_text_qualifiers.specs.Faults.Datatypes.{Made, constructor, shape_named, size}
use Rattle.lq_text_qualifiers.specs.Faults.Lookups.{Lookup, Names, first_in, no_names, with_name}
use Rattle.lq_text_qualifiers.specs.Faults.Predicates.{Measured, Setting, of_predicate}
use Rattle.lq_text_qualifiers.specs.Faults.Shapes.{Shape, int, bool, array, data_of, other, shape_of}

abbrev pub measured : ℕ → MeasureTree → ℕ × Measured
measured n m = (m.name, record { number = n; datatype = m.datatype })

-- measures by their names, numbered from here on
abbrev pub numbered : ℕ → List MeasureTree → List (ℕ × Measured)
numbered n [] = []
numbered n (m ∷ ms) = measured n m ∷ numbered (suc n) ms

abbrev pub measures_in : List MeasureTree → Lookup Measured
measures_in ms = first_in (numbered 0 ms)

-- a name that is among those before it
abbrev pub again : Names → Place → ℕ → List Complaint
again before p x = if before x then at p (twice x) ∷ [] else []

abbrev pub repeated : Names → List Named → List Complaint
repeated before [] = []
repeated before (n ∷ ns) = again before n.place n.name ++ repeated (with_name n.name before) ns

-- so many are wanted, if it is known how many, and so many found
abbrev pub counted : Place → Option ℕ → ℕ → List Complaint
counted p None found = []
counted p (Some wanted) found = if wanted == found then [] else at p (arity wanted found) ∷ []

-- a constructor of a pattern at q that begins at p, where constructors of a datatype are wanted
abbrev pub of_constructor : ℕ → Place → Place → ℕ → ℕ → Option Made → List Complaint
of_constructor d p q c found None = at q (unknown c) ∷ []
of_constructor d p q c found (Some k) =
    counted q (Some (count_types k.fields)) found ++ (if k.datatype == d then [] else at p bad_sort ∷ [])

abbrev pub of_form : List DataTree → ℕ → Names → Place → PatternForm → List Complaint
of_form ds d before p (build_of c q ps) = of_constructor d p q c (count_of ps) (constructor ds c) ++ again before q c
of_form ds d before p any = at p bad_sort ∷ []
of_form ds d before p (bind x) = at p bad_sort ∷ []
of_form ds d before p nothing = at p bad_sort ∷ []
of_form ds d before p (tuple_of ps) = at p bad_sort ∷ []

-- the pattern of an equation of a measure on this datatype, behind those of these constructors
abbrev pub of_pattern : List DataTree → ℕ → Names → Pattern → List Complaint
of_pattern ds d before (pattern p f) = of_form ds d before p f ++ repeated no_names (binders_in (pattern p f))

-- the constructors of the equations behind one with this pattern
abbrev pub behind_form : Names → PatternForm → Names
behind_form before (build_of c q ps) = with_name c before
behind_form before any = before
behind_form before (bind x) = before
behind_form before nothing = before
behind_form before (tuple_of ps) = before

abbrev pub behind : Names → Pattern → Names
behind before (pattern p f) = behind_form before f

-- a variable of a pattern at a field of this type
abbrev pub bound_form : PatternForm → Shape → List (ℕ × Shape)
bound_form (bind x) a = (x, a) ∷ []
bound_form any a = []
bound_form nothing a = []
bound_form (tuple_of ps) a = []
bound_form (build_of c q ps) a = []

abbrev pub bound_at : Pattern → Shape → List (ℕ × Shape)
bound_at (pattern p f) a = bound_form f a

-- the variables of the patterns of fields, from this field on
abbrev pub fields_in : ℕ → MlTypes → Patterns → List (ℕ × Shape)
fields_in n ts no_patterns = []
fields_in n ts (more_patterns p ps) = bound_at p (shape_of (type_at ts n)) ++ fields_in (suc n) ts ps

abbrev pub fields_made : Option Made → Patterns → List (ℕ × Shape)
fields_made None ps = []
fields_made (Some k) ps = fields_in 0 k.fields ps

abbrev pub fields_form : List DataTree → PatternForm → List (ℕ × Shape)
fields_form ds (build_of c q ps) = fields_made (constructor ds c) ps
fields_form ds any = []
fields_form ds (bind x) = []
fields_form ds nothing = []
fields_form ds (tuple_of ps) = []

-- the field variables of an equation's pattern with their shapes
abbrev pub fields_of : List DataTree → Pattern → List (ℕ × Shape)
fields_of ds (pattern p f) = fields_form ds f

-- what is known in the term of an equation of the measure with this number
abbrev pub equation_setting : List (List ℕ) → List DataTree → Lookup Measured → ℕ → Pattern → Setting
equation_setting texts ds known n p = record { texts = texts; variables = first_in (fields_of ds p); measures = known; own = Some n }

module _ (texts : List (List ℕ)) (ds : List DataTree) (known : Lookup Measured) where
  -- the equations of the measure with this number on this datatype, behind those of these constructors
  abbrev pub of_equations : ℕ → ℕ → Names → List EquationTree → List Complaint
  of_equations n d before [] = []
  of_equations n d before (e ∷ es) =
      of_pattern ds d before e.pattern
      ++ (of_predicate (equation_setting texts ds known n e.pattern) (Some int) e.term ++ of_equations n d (behind before e.pattern) es)

-- a measure whose name has an earlier definition
abbrev pub of_definition : Place → ℕ → ℕ → Option Measured → List Complaint
of_definition p x n None = []
of_definition p x n (Some m) = if nat_lt m.number n then at p (twice x) ∷ [] else []

-- the name of the datatype that a measure takes
abbrev pub of_datatype : Place → ℕ → Option Shape → List Complaint
of_datatype p x None = at p (unknown x) ∷ []
of_datatype p x (Some (data_of d)) = []
of_datatype p x (Some int) = at p bad_sort ∷ []
of_datatype p x (Some bool) = at p bad_sort ∷ []
of_datatype p x (Some array) = at p bad_sort ∷ []
of_datatype p x (Some other) = at p bad_sort ∷ []

module _ (texts : List (List ℕ)) (ds : List DataTree) (known : Lookup Measured) where
  -- the measure with this number
  abbrev pub of_measure : ℕ → MeasureTree → List Complaint
  of_measure n m =
      of_definition m.place m.name n (known m.name)
      ++ (counted m.place (size ds m.datatype) (length m.equations)
      ++ (of_datatype m.datatype_place m.datatype (shape_named ds m.datatype) ++ of_equations texts ds known n m.datatype no_names m.equations))

  abbrev pub of_measures_from : ℕ → List MeasureTree → List Complaint
  of_measures_from n [] = []
  of_measures_from n (m ∷ ms) = of_measure n m ++ of_measures_from (suc n) ms

-- all that is wrong with a text of measures, where these datatypes are defined
abbrev pub of_measures : List (List ℕ) → List DataTree → List MeasureTree → List Complaint
of_measures texts ds ms = of_measures_from texts ds (measures_in ms) 0 ms
