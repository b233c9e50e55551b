-- What one level of a refined type stands for, where the types inside are those of a list.
use Rattle.std.specs.Prelude.{ℕ, List, [], ◌∷◌, map, slice_index_or, Option, Some, None}
use Rattle.lq_base_names.specs.declared.name.Binder.{Binder}
use Rattle.lq_refined_types.specs.Parts.Part.{Parts}
use Rattle.lq_refined_types.specs.Types.Refined as refined
use Rattle.lq_refined_types.specs.Types.Refined.{Refined, int_with, bool_with, unit_type, function, tuple_of, array_with, data_with, map_with, type_variable, Refineds, none, more, number, truth_value, object, other}
use Rattle.lq_refined_substitution.specs.Substitution.Views.{parts_view}
use Rattle.lq_refined_subtyping.specs.declared.table.forms.Cell.{Cell}
use Rattle.lq_refined_subtyping.specs.declared.table.forms.Matrix.{Matrix}
use Rattle.lq_refined_subtyping.specs.declared.table.forms.Form.{Form}
use Rattle.lq_refined_subtyping.specs.declared.table.forms.Form.TheVariants as form
use Rattle.lq_refined_subtyping.specs.declared.table.forms.Kind.{Kind}
use Rattle.lq_refined_subtyping.specs.declared.table.forms.Kind.TheVariants as kind
use Rattle.lq_refined_subtyping.specs.declared.table.forms.RefinedNode.{RefinedNode}

-- the type at a number; unit behind the end
abbrev pub at : List Refined → ℕ → Refined
at all i = slice_index_or all i unit_type

abbrev pub row_of : List Refined → Refineds
row_of [] = none
row_of (t ∷ ts) = more t (row_of ts)

-- the types at these numbers
abbrev pub each : List Refined → List ℕ → Refineds
each all is = row_of (map (at all) is)

abbrev pub binder_view : Option Binder → Option ℕ
binder_view None = None
binder_view (Some x) = Some x.0

abbrev pub cell_view : Cell → refined.Cell
cell_view c = record { constructor = c.constructor.0; field = c.field; parameter = c.parameter; parts = parts_view c.parts }

abbrev pub matrix_view : Matrix → refined.Matrix
matrix_view m = map cell_view m.items.items

-- the type of this form with these parts at its top
abbrev pub form_type : List Refined → Form → Parts → Refined
form_type all form.Int p = int_with p
form_type all form.Bool p = bool_with p
form_type all form.Unit p = unit_type
form_type all (form.Function x a b) p = function (binder_view x) (at all a) (at all b)
form_type all (form.Tuple ts) p = tuple_of (each all ts.items)
form_type all (form.Array e) p = array_with (at all e) p
form_type all (form.Data d ts m) p = data_with d.0 (each all ts.items) (matrix_view m) p
form_type all (form.Map e) p = map_with (at all e) p
form_type all (form.Variable i) p = type_variable i

abbrev pub node_type : List Refined → RefinedNode → Refined
node_type all n = form_type all n.form (parts_view n.top)

-- the numbers of the types inside
abbrev pub form_rows : Form → List ℕ
form_rows form.Int = []
form_rows form.Bool = []
form_rows form.Unit = []
form_rows (form.Function x a b) = a ∷ b ∷ []
form_rows (form.Tuple ts) = ts.items
form_rows (form.Array e) = e ∷ []
form_rows (form.Data d ts m) = ts.items
form_rows (form.Map e) = e ∷ []
form_rows (form.Variable i) = []

abbrev pub kind_view : Kind → refined.Kind
kind_view kind.Number = number
kind_view kind.TruthValue = truth_value
kind_view kind.Object = object
kind_view kind.Other = other
