use Rattle.std.proofs.Common.{◌≡◌, ◌++◌, map, take}
use Rattle.lq_refined_copies.specs.Flattening.{numbered}
use Rattle.lq_refined_copies.proofs.flattening.add_numbered.Given as goal

abbrev pub invariant-loop-unknown : goal.invariant-loop-unknown
invariant-loop-unknown l = l.unknowns.items ≡ l.fn.unknowns.items ++ map (numbered l.numbers) (take l.unknown-index l.pattern)
