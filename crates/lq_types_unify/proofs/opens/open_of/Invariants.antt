use Rattle.std.proofs.Common.{take}
use Rattle.lq_types_unify.specs.Nodes.{form_at}
use Rattle.lq_types_unify.specs.Opens.{AreOpenOf}
use Rattle.lq_types_unify.proofs.opens.open_of.Given as goal

abbrev pub invariant-loop-class : goal.invariant-loop-class
invariant-loop-class l = AreOpenOf (form_at l.arena) l.shapes (take l.class-index l.classes) l.all.items
