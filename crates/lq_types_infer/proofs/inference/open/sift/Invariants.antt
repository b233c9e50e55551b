use Rattle.std.proofs.Common.{take}
use Rattle.lq_types_unify.specs.Knowing.{Knows}
use Rattle.lq_types_infer.specs.Inference.Opening.{IsSifted}
use Rattle.lq_types_infer.proofs.inference.open.sift.Given as goal

abbrev pub invariant-loop-at : goal.invariant-loop-at
invariant-loop-at l = record {
  knows : Knows l.system.arena l.system.equations.items l.solver;
  sifted : IsSifted l.nodes l.system l.plain l.before (take l.at-index l.places) l.kept.items l.asked.items;
}
