-- What stands in memory.
use Rattle.std.specs.Prelude.{List, map, reverse, Option}
use Rattle.std.specs.BTreeMap.{get}
use Rattle.std.specs.Option.{is_some, option_map}
use Rattle.std.specs.Ordering.{nat_cmp}
use Rattle.lq_text_tree.specs.PredView.{pred_view}
use Rattle.lq_text_qualifiers.specs.Faults.Lookups.{Lookup, Names}
use Rattle.lq_text_qualifiers.specs.Faults.Predicates as predicates
use Rattle.lq_text_qualifiers.specs.Faults.Shapes as shapes
use Rattle.lq_text_qualifiers.specs.Sorting.Making as making
use Rattle.lq_text_qualifiers.specs.Sorting.Sorted as plain
use Rattle.lq_text_qualifiers.specs.Sorting.Tasks as tasks
use Rattle.lq_text_qualifiers.specs.declared.sorting.setting.Measured.{Measured}
use Rattle.lq_text_qualifiers.specs.declared.sorting.setting.Setting.{Setting}
use Rattle.lq_text_qualifiers.specs.declared.sorting.shape.Shape.{Shape}
use Rattle.lq_text_qualifiers.specs.declared.sorting.shape.Shape.TheVariants as shape
use Rattle.lq_text_qualifiers.specs.declared.sorting.sorted.ScopedMeasure.{ScopedMeasure}
use Rattle.lq_text_qualifiers.specs.declared.sorting.sorted.ScopedPred.{ScopedPred, Flag, Holds, Compare, Not', And', Or', Iff'}
use Rattle.lq_text_qualifiers.specs.declared.sorting.sorted.ScopedQualifier.{ScopedQualifier}
use Rattle.lq_text_qualifiers.specs.declared.sorting.sorted.ScopedTerm.{ScopedTerm, Whole, Var, Length, Measure, Arith', Neg'}
use Rattle.lq_text_qualifiers.specs.declared.sorting.sorted.Variable.{Variable}
use Rattle.lq_text_qualifiers.specs.declared.sorting.sorted.Variable.TheVariants as variable
use Rattle.lq_text_qualifiers.specs.declared.sorting.table.Table.{Table}
use Rattle.lq_text_qualifiers.specs.declared.sorting.terms.Task.{Task}
use Rattle.lq_text_qualifiers.specs.declared.sorting.terms.Task.TheVariants as task

abbrev pub shape_view : Shape → shapes.Shape
shape_view shape.Int = shapes.int
shape_view shape.Bool = shapes.bool
shape_view shape.Array = shapes.array
shape_view (shape.Data d) = shapes.data_of d.0

abbrev pub asked_view : Option Shape → Option shapes.Shape
asked_view = option_map shape_view

abbrev pub variable_view : Variable → plain.Variable
variable_view variable.Value = plain.value
variable_view (variable.Field n) = plain.field_at n
variable_view (variable.Placeholder n) = plain.placeholder_at n

abbrev pub term_view : ScopedTerm → plain.Term
term_view (Whole n) = plain.literal n
term_view (Var x) = plain.variable (variable_view x)
term_view (Length x) = plain.length_of (variable_view x)
term_view (Measure n x) = plain.measured n (variable_view x)
term_view (Arith' o p a q b) = plain.operation o (term_view a) (term_view b)
term_view (Neg' p a) = plain.negative (term_view a)

abbrev pub predicate_view : ScopedPred → plain.Predicate
predicate_view (Flag b) = plain.constant b
predicate_view (Holds x) = plain.holds (variable_view x)
predicate_view (Compare o a b) = plain.comparison o (term_view a) (term_view b)
predicate_view (Not' p a) = plain.negation (predicate_view a)
predicate_view (And' p a q b) = plain.conjunction (predicate_view a) (predicate_view b)
predicate_view (Or' p a q b) = plain.disjunction (predicate_view a) (predicate_view b)
predicate_view (Iff' p a q b) = plain.equivalence (predicate_view a) (predicate_view b)

abbrev pub qualifier_view : ScopedQualifier → plain.Qualifier
qualifier_view q =
    record { name = q.name.0; place = q.place; shape = shape_view q.shape; placeholders = map shape_view q.placeholders.items; predicate = predicate_view q.predicate }

abbrev pub measure_view : ScopedMeasure → plain.Measure
measure_view m = record { name = m.name.0; datatype = m.datatype.0; terms = map term_view m.terms.items }

-- what a table has for a name
abbrev pub held : {T : Type 0} → Table T → Lookup T
held t x = get nat_cmp t.items x

-- the same, seen
abbrev pub seen : {T X : Type 0} → (T → X) → Table T → Lookup X
seen view t x = option_map view (held t x)

-- the names in a table
abbrev pub names_in : {T : Type 0} → Table T → Names
names_in t x = is_some (held t x)

abbrev pub measured_view : Measured → predicates.Measured
measured_view m = record { number = m.number; datatype = m.datatype.0 }

abbrev pub setting_view : Setting → making.Setting
setting_view s = record { variables = seen variable_view s.variables; placeholders = held s.placeholders; measures = seen measured_view s.measures.now }

abbrev pub task_view : Task → tasks.Task
task_view (task.Enter t) = tasks.enter (pred_view t.now)
task_view (task.Make t) = tasks.make (pred_view t.now)

-- tasks and what is made, the last first
abbrev pub tasks_view : List Task → List tasks.Task
tasks_view ts = map task_view (reverse ts)

abbrev pub terms_view : List ScopedTerm → List plain.Term
terms_view ts = map term_view (reverse ts)

abbrev pub predicates_view : List ScopedPred → List plain.Predicate
predicates_view ps = map predicate_view (reverse ps)
