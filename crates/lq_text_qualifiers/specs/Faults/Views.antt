-- What stands in memory.
use Rattle.std.specs.Prelude.{Option}
use Rattle.std.specs.BTreeMap.{get}
use Rattle.std.specs.Option.{is_some, option_map}
use Rattle.std.specs.Ordering.{nat_cmp}
use Rattle.lq_text_tree.specs.MlType.{MlTypes, no_types, more_types, var}
use Rattle.lq_text_tree.specs.SimpleTypeView.{simple_types_view}
use Rattle.lq_text_tree.specs.Types.{list_type}
use Rattle.lq_text_qualifiers.specs.Faults.Complaints as plain
use Rattle.lq_text_qualifiers.specs.Faults.Datatypes as datatypes
use Rattle.lq_text_qualifiers.specs.Faults.Lookups.{Lookup, Names}
use Rattle.lq_text_qualifiers.specs.Faults.Predicates as predicates
use Rattle.lq_text_qualifiers.specs.Faults.Shapes as shapes
use Rattle.lq_text_qualifiers.specs.declared.faults.complaint.Cause.{Cause}
use Rattle.lq_text_qualifiers.specs.declared.faults.complaint.Cause.TheVariants as cause
use Rattle.lq_text_qualifiers.specs.declared.faults.complaint.SortComplaint.{SortComplaint}
use Rattle.lq_text_qualifiers.specs.declared.faults.datatypes.Fields.{Fields}
use Rattle.lq_text_qualifiers.specs.declared.faults.datatypes.Fields.TheVariants as fields
use Rattle.lq_text_qualifiers.specs.declared.faults.datatypes.Made.{Made}
use Rattle.lq_text_qualifiers.specs.declared.faults.predicate.Measured.{Measured}
use Rattle.lq_text_qualifiers.specs.declared.faults.predicate.Setting.{Setting}
use Rattle.lq_text_qualifiers.specs.declared.faults.shape.Shape.{Shape}
use Rattle.lq_text_qualifiers.specs.declared.faults.shape.Shape.TheVariants as shape
use Rattle.lq_text_qualifiers.specs.declared.faults.table.Table.{Table}

abbrev pub shape_view : Shape → shapes.Shape
shape_view shape.Int = shapes.int
shape_view shape.Bool = shapes.bool
shape_view shape.Array = shapes.array
shape_view (shape.Data d) = shapes.data_of d.0
shape_view shape.Other = shapes.other

abbrev pub asked_view : Option Shape → Option shapes.Shape
asked_view = option_map shape_view

abbrev pub cause_view : Cause → plain.Cause
cause_view (cause.Unknown x) = plain.unknown x.0
cause_view (cause.UnknownIn m x) = plain.unknown_in m.0 x.0
cause_view (cause.Twice x) = plain.twice x.0
cause_view (cause.Arity wanted found) = plain.arity wanted found
cause_view cause.NotStructural = plain.not_structural
cause_view cause.BadSort = plain.bad_sort

abbrev pub complaint_view : SortComplaint → plain.Complaint
complaint_view c = record { place = c.place; cause = cause_view c.cause }

abbrev pub found_view : Option SortComplaint → Option plain.Complaint
found_view = option_map complaint_view

-- what a table has for a name
abbrev pub held : {T : Type 0} → Table T → Lookup T
held t x = get nat_cmp t.items x

-- the same, seen
abbrev pub seen : {T X : Type 0} → (T → X) → Table T → Lookup X
seen view t x = option_map view (held t x)

-- the names in a table
abbrev pub names_in : {T : Type 0} → Table T → Names
names_in t x = is_some (held t x)

-- the types of fields
abbrev pub fields_view : Fields → MlTypes
fields_view (fields.Written ts) = simple_types_view ts.now
fields_view fields.Nothing = no_types
fields_view fields.Item = more_types (var 0) no_types
fields_view fields.ItemAndList = more_types (var 0) (more_types (list_type (var 0)) no_types)

abbrev pub made_view : Made → datatypes.Made
made_view m = datatypes.makes m.datatype.0 (fields_view m.fields)

abbrev pub measured_view : Measured → predicates.Measured
measured_view m = record { number = m.number; datatype = m.datatype.0 }

abbrev pub setting_view : Setting → predicates.Setting
setting_view s =
    record { texts = s.names.now; variables = seen shape_view s.variables; measures = seen measured_view s.measures.now; own = s.own }
