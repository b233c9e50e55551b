-- What holds of the datatypes of a program with whose names nothing is wrong.
use Rattle.std.specs.Prelude.{◌≡◌, ℕ, List, []}
use Rattle.lq_text_datatypes.specs.Datatypes.{datatypes_in}
use Rattle.lq_sound_values.specs.Inhabitants.Datatypes.{AreCovariant}
use Rattle.lq_text_scope.specs.Uses.{of_program}
use Rattle.lq_text_walk.specs.Scoped.Signature.{signature_in}
use Rattle.lq_text_tree.specs.Items.{ItemTree}

abbrev pub NamedProgramsAreCovariant : Type 0
NamedProgramsAreCovariant = (names : List (List ℕ)) (is : List ItemTree) → of_program names is ≡ [] → AreCovariant (signature_in (datatypes_in is))
