use Rattle.std.proofs.Common.{◌≡◌, ◌+◌, ◌-◌, ◌^◌, ◌++◌, length, map, min, take}
use Rattle.lq_refined_types.specs.Subtyping.Implication.{goals}
use Rattle.lq_refined_substitution.specs.Substitution.Views.{part_view, parts_view}
use Rattle.lq_refined_substitution.specs.Implications.Growing.{Continues}
use Rattle.lq_refined_substitution.specs.Implications.Views.{count_of, environment_at, environment_lists, implications_of, origin_view}
use Rattle.lq_refined_substitution.proofs.implications.list.Implications.imply.Given as goal

abbrev pub invariant-loop-goal : goal.invariant-loop-goal
invariant-loop-goal l =
    let made = goals (environment_at l.initial.self l.env) (parts_view l.left) (map part_view (take l.goal-index l.right)) (origin_view l.origin.0 l.origin.1) in
    record {
      added : implications_of l.self ≡ take 262144 (implications_of l.initial.self ++ made);
      counted : count_of l.self ≡ min (count_of l.initial.self + length made) (2 ^ 64 - 1);
      continues : Continues l.initial.self l.self;
      environments : environment_lists l.self ≡ environment_lists l.initial.self;
    }
