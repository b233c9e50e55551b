use Rattle.std.proofs.Common.{[]}
use Rattle.lq_refined_instances.specs.Shaped.{AreListed}
use Rattle.lq_refined_instances.proofs.symbols.no_symbols.Given as goal

abbrev pub invariant-loop-shape : goal.invariant-loop-shape
invariant-loop-shape l = AreListed [] l.lists.items
