use Rattle.std.proofs.Common.{◌≡◌, map, take}
use Rattle.lq_text_tree.specs.Items.{parameter_view}
use Rattle.lq_text_walk.specs.Scoped.Views.{name_number}
use Rattle.lq_text_datatypes.specs.Datatypes.{parameter_name}
use Rattle.lq_text_datatypes.proofs.datatypes.names_of.Given as goal

abbrev pub invariant-loop-parameter : goal.invariant-loop-parameter
invariant-loop-parameter l = map name_number l.names.items ≡ map parameter_name (map parameter_view (take l.parameter-index l.parameters))
