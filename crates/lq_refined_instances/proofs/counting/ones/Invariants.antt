use Rattle.std.proofs.Common.{◌≡◌, [], ◌∷◌, map, take}
use Rattle.lq_refined_instances.specs.Scopes.{grown}
use Rattle.lq_refined_instances.specs.Seen.{added_view}
use Rattle.lq_refined_instances.proofs.counting.ones.Given as goal

abbrev pub invariant-loop-addition : goal.invariant-loop-addition
invariant-loop-addition l = l.counts.items ≡ map (λ _. 1) (grown ([] ∷ []) (map added_view (take l._addition-index l.scopes.additions.items)))
