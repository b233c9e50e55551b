-- The normal form of a program, by naming and then flattening, is that of one pass over its expressions.
use Rattle.std.specs.Prelude.{◌≡◌, ℕ, List}
use Rattle.lq_text_tree.specs.Items.{ItemTree}
use Rattle.lq_meaning_normal_form.specs.Outcomes.Flattening.{normal_of}
use Rattle.lq_meaning_normal_form.specs.Types.Programs.{normal_items}

abbrev pub ProgramsAreOnePass : Type 0
ProgramsAreOnePass = (k : ℕ) (is : List ItemTree) → normal_of k is ≡ normal_items k is
