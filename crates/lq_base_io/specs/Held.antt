-- The bytes that a table of files holds under a name.
use Rattle.std.specs.Prelude.{ℕ, String}
use Rattle.std.specs.Global.{Vec}
use Rattle.std.specs.declared.alloc.Global.{Global}
use Rattle.std.specs.Option.{option_map}
use Rattle.std.specs.BTreeMap.{BTreeMap, get_by_text}
use Rattle.lq_base_io.specs.Folder.{Files}

abbrev pub held_in : BTreeMap (String Global) (Vec ℕ) → Files
held_in files name = option_map (λ v. v.items) (get_by_text files name)
