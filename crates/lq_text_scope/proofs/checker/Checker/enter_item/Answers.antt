use Rattle.std.proofs.Common.{map, length, refl, ap}
use Rattle.lq_text_scope.specs.Datatypes.{name_of}
use Rattle.lq_text_scope.proofs.Defining.{defined_item}
use Rattle.lq_text_scope.proofs.checker.Checker.enter_item.Goals as goal

pub returns-in_ok-note_datatype-in-Type : goal.returns-in_ok-note_datatype-in-Type
returns-in_ok-note_datatype-in-Type c =
    defined_item c.args.self.now _ c.in-Type.definition c.args.item.now.node c.in-Type.is refl refl c.in_ok-note_datatype-in-Type.ensures.constructors c.in_ok-note_datatype-in-Type.ensures.types
    (ap length c.clear.ensures.items) (c.in_ok-note_datatype-in-Type.ensures.found (map name_of c.args.self.now.variables)) c.in_ok-note_datatype-in-Type.ensures.parameters
