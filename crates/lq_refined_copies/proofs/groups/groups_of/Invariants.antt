use Rattle.std.proofs.Common.{◌≡◌, ◌++◌, List, map, take}
use Rattle.lq_refined_instances.specs.Scopes.{Scope}
use Rattle.lq_refined_instances.specs.Views.{unknown_view}
use Rattle.lq_refined_copies.specs.Groups.{group_view, groups_view}
use Rattle.lq_refined_copies.proofs.groups.groups_of.Given as goal

abbrev pub invariant-loop-unknown : goal.invariant-loop-unknown
invariant-loop-unknown l = (Γs : List Scope) → groups_view Γs l.groups.items ++ group_view Γs l.last ≡ map (unknown_view Γs) (take l.unknown-index l.unknowns)
