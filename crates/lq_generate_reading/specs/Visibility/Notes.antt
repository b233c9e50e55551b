-- What is known of a normal program, as it stands in memory.
use Rattle.std.specs.Prelude.{◌≡◌, ℕ, ◌+◌, ◌-◌, ◌<◌, ◌≤◌, List, [], ◌∷◌, All, length, take, drop, slice_get, Option, Some, None}
use Rattle.std.specs.Option.{option_map}
use Rattle.lq_base_names.specs.declared.name.Name.{Name}
use Rattle.lq_refined_templates.specs.Points.Annotation.{Annotation}
use Rattle.lq_text_qualifiers.specs.Sorting.Views.{shape_view}
use Rattle.lq_text_qualifiers.specs.declared.sorting.shape.Shape.{Shape}
use Rattle.lq_text_qualifiers.specs.Faults.Shapes as shapes
use Rattle.lq_text_tree.specs.MlType as ml
use Rattle.lq_text_tree.specs.MlType.{MlType, MlTypes}
use Rattle.lq_types_table.specs.Heads.{each}
use Rattle.lq_types_table.specs.Nodes.{at}
use Rattle.lq_types_table.specs.Whole.{types_of}
use Rattle.lq_generate_reading.specs.declared.visibility.notes.Notes.{Notes}

-- the types of the table
abbrev pub types_in : Notes → List MlType
types_in m = types_of m.types.now

-- the type of a number, or unit where there is none
abbrev pub type_if : List MlType → Option ℕ → MlType
type_if all None = ml.unit
type_if all (Some t) = at all t

abbrev pub text_if : Option (Option Name) → Option ℕ
text_if None = None
text_if (Some s) = option_map (λ t. t.0) s

-- the part of a row between two places, where both are there
abbrev pub between : List ℕ → Option ℕ → Option ℕ → List ℕ
between rows None b = []
between rows (Some a) None = []
between rows (Some a) (Some b) = take (b - a) (drop a rows)

-- the numbers of the types for the type variables of a node
abbrev pub part_of : Notes → ℕ → List ℕ
part_of m i = between m.rows.now (slice_get m.starts.now i) (slice_get m.starts.now (i + 1))

-- types, where there are any
abbrev pub types_if_any : List MlType → List ℕ → Option MlTypes
types_if_any all [] = None
types_if_any all (t ∷ ts) = Some (each (at all) (t ∷ ts))

abbrev pub annotation_view : Notes → Annotation
annotation_view m = record {
  types = λ i. type_if (types_in m) (slice_get m.nodes.now i);
  names = λ x. type_if (types_in m) (slice_get m.binders.now x);
  arguments = λ i. types_if_any (types_in m) (part_of m i);
  text = λ x. text_if (slice_get m.texts.now x);
  value = m.value.0;
}

-- the numbers are those of types of the table, and `unit` is that of the type unit
pub record IsRight (m : Notes) : Type 0 where
  pub unit : at (types_in m) m.unit ≡ ml.unit
  pub unit_there : m.unit < length (types_in m)
  pub nodes : All (λ t. t < length (types_in m)) m.nodes.now
  pub binders : All (λ t. t < length (types_in m)) m.binders.now
  pub rows : All (λ t. t < length (types_in m)) m.rows.now
  pub starts : All (λ s. s ≤ length m.rows.now) m.starts.now

-- a shape of which predicates speak, or the other one
abbrev pub shape_if : Option Shape → shapes.Shape
shape_if None = shapes.other
shape_if (Some s) = shape_view s
