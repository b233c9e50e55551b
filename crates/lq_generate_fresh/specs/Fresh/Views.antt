-- What stands in memory.
use Rattle.std.specs.Prelude.{◌≡◌, ℕ, ◌++◌, List, [], map, slice_index_or, Option, Some, None}
use Rattle.lq_refined_instances.specs.Scopes as instances
use Rattle.lq_refined_instances.specs.Scopes.{scope_in}
use Rattle.lq_refined_types.specs.Types.Refined.{Refined}
use Rattle.lq_refined_subtyping.specs.Table.Whole.{types_of, Grows}
use Rattle.lq_refined_types.specs.Parts.Part.{Scopes}
use Rattle.lq_text_qualifiers.specs.Sorting.Views.{shape_view}
use Rattle.lq_text_qualifiers.specs.declared.sorting.shape.Shape.{Shape}
use Rattle.lq_refined_copies.specs.Views as shared
use Rattle.lq_text_qualifiers.specs.Faults.Shapes as shapes
use Rattle.lq_refined_templates.specs.Templates.Scopes.{Unknown}
use Rattle.lq_text_tree.specs.Types.{Signature}
use Rattle.lq_generate_fresh.specs.Fresh.Fields as fields
use Rattle.lq_generate_fresh.specs.Fresh.Fields.{AreConstructors}
use Rattle.lq_generate_fresh.specs.declared.fresh.fields.Constructor.{Constructor}
use Rattle.lq_generate_fresh.specs.declared.fresh.fields.Datatypes.{Datatypes}
use Rattle.lq_generate_fresh.specs.declared.fresh.fields.Field.{Field}
use Rattle.lq_generate_fresh.specs.declared.fresh.fields.Field.TheVariants as field
use Rattle.lq_generate_fresh.specs.declared.fresh.templates.Templates.{Templates}

-- a shape of which predicates speak, or the other one
abbrev pub shape_if : Option Shape → shapes.Shape
shape_if None = shapes.other
shape_if (Some s) = shape_view s

abbrev pub field_view : Field → fields.Field
field_view (field.Again n) = fields.again n
field_view (field.Shaped s) = fields.shaped (shape_if s)
field_view (field.Parameter i) = fields.parameter i

abbrev pub constructor_view : Constructor → ℕ × List fields.Field
constructor_view k = (k.name.0, map field_view k.fields.items)

-- the constructors of a datatype; of one that isn't there none
abbrev pub constructors_of : Datatypes → ℕ → List (ℕ × List fields.Field)
constructors_of D d = slice_index_or (map (λ row. map constructor_view row.items) D.rows.items) d []

-- ---- templates

abbrev pub scopes_of : Templates → List instances.Scope
scopes_of t = shared.table_of t.unknowns

abbrev pub scope_at : Templates → ℕ → instances.Scope
scope_at t i = scope_in (scopes_of t) i

-- the unknowns, by their numbers
abbrev pub unknowns_of : Templates → List Unknown
unknowns_of t = shared.shared_view t.unknowns

-- lists of unknowns, of which some of the unknowns are copies
abbrev pub patterns_of : Templates → List (List Unknown)
patterns_of t = shared.patterns_of t.unknowns

abbrev pub all_types : Scopes → Templates → List Refined
all_types scopes t = types_of scopes t.types

pub record Longer {A : Type 0} (old new : List A) : Type 0 where
  pub added : List A
  pub is : new ≡ old ++ added

-- the types, scopes, patterns and unknowns stay, and there are more of them, these unknowns among them
pub record IsMade (old new : Templates) (us : List Unknown) : Type 0 where
  pub types : Grows old.types new.types
  pub scopes : Longer (scopes_of old) (scopes_of new)
  pub patterns : Longer (patterns_of old) (patterns_of new)
  pub unknowns : unknowns_of new ≡ unknowns_of old ++ us

-- the same of types, scopes and patterns alone
pub record IsGrown (old new : Templates) : Type 0 where
  pub types : Grows old.types new.types
  pub scopes : Longer (scopes_of old) (scopes_of new)
  pub patterns : Longer (patterns_of old) (patterns_of new)

-- the datatypes are those of what constructors stand for, and of the constructors of each datatype in their order
abbrev pub Describes : Datatypes → Signature → (ℕ → List ℕ) → Type 0
Describes D g ordered = (d : ℕ) → AreConstructors g d (ordered d) (constructors_of D d)
