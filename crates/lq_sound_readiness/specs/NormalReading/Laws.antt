-- Normal forms can be read as programs of the typing rules.
use Rattle.std.specs.Prelude.{ℕ, List}
use Rattle.lq_text_tree.specs.Items.{ItemTree}
use Rattle.lq_meaning_normal_form.specs.Types.Programs.{normal_items}
use Rattle.lq_sound_readiness.specs.Reading.Normal.{AreNormal}
use Rattle.lq_sound_readiness.specs.NormalReading.Suits.{ItemsSuit}

abbrev pub NormalFormsCanBeRead : Type 0
NormalFormsCanBeRead = (k : ℕ) (is : List ItemTree) → ItemsSuit is → AreNormal (normal_items k is)
