use Rattle.std.proofs.Common.{◌≡◌, map, take}
use Rattle.lq_text_tree.specs.Items.{constructor_view, parameter_view}
use Rattle.lq_text_datatypes.specs.Datatypes.{constructor_type_view, constructor_with}
use Rattle.lq_text_datatypes.proofs.datatypes.constructors_of.Given as goal

abbrev pub invariant-loop-constructor : goal.invariant-loop-constructor
invariant-loop-constructor l =
    map constructor_type_view l.types.items ≡ map (constructor_with (map parameter_view l.parameters)) (map constructor_view (take l.constructor-index l.constructors))
