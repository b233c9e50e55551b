use Rattle.std.proofs.Common.{◌≡◌, ◌++◌, map, take}
use Rattle.lq_refined_instances.specs.Replacing.{longer}
use Rattle.lq_refined_instances.proofs.replacing.push_longer.Given as goal

abbrev pub invariant-loop-symbol : goal.invariant-loop-symbol
invariant-loop-symbol l = map (λ v. v.items) l.row.items ≡ map (λ v. v.items) l.initial.row.items ++ longer (take l.symbol-index l.symbols) l.list
