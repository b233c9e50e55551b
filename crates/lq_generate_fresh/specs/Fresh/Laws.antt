-- What is known of fields is enough for matrices, and the constructors of a program differ.
use Rattle.std.specs.Prelude.{◌≡◌, ℕ, List, []}
use Rattle.lq_text_datatypes.specs.Datatypes.{datatypes_in}
use Rattle.lq_text_scope.specs.Uses.{of_program}
use Rattle.lq_refined_templates.specs.Templates.Cells.{constructor_cells}
use Rattle.lq_text_tree.specs.Items.{ItemTree}
use Rattle.lq_text_tree.specs.MlType.{MlTypes}
use Rattle.lq_text_tree.specs.Types.{Signature}
use Rattle.lq_generate_fresh.specs.Fresh.Defined.{ConstructorsDiffer}
use Rattle.lq_generate_fresh.specs.Fresh.Fields.{cells_of_constructors, shapes_of}
use Rattle.lq_generate_fresh.specs.Fresh.Views.{constructors_of, Describes}
use Rattle.lq_generate_fresh.specs.declared.fresh.fields.Datatypes.{Datatypes}

-- the cells by the shapes of arguments and fields are those of a template
abbrev pub CellsAreOfShapes : Type 0
CellsAreOfShapes =
    (D : Datatypes) (g : Signature) (ordered : ℕ → List ℕ) (n d : ℕ) (us : MlTypes) → Describes D g ordered
    → cells_of_constructors n d (shapes_of us) (constructors_of D d) ≡ constructor_cells g n d us (ordered d)

-- a program with whose names nothing is wrong has no two constructors of one name
abbrev pub NamedConstructorsDiffer : Type 0
NamedConstructorsDiffer = (names : List (List ℕ)) (is : List ItemTree) → of_program names is ≡ [] → ConstructorsDiffer (datatypes_in is)
