use Rattle.std.proofs.Common.{◌≡◌, map, take}
use Rattle.lq_refined_instances.specs.Replacing.{each_longer}
use Rattle.lq_refined_instances.proofs.replacing.each_longer.Given as goal

abbrev pub invariant-loop-list : goal.invariant-loop-list
invariant-loop-list l = map (λ v. v.items) l.row.items ≡ each_longer l.symbols (map (λ v. v.items) (take l.list-index l.lists))
