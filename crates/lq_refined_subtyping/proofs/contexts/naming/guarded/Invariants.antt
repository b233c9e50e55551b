use Rattle.std.proofs.Common.{◌≡◌, ◌<◌, ◌++◌, length, map, take}
use Rattle.lq_refined_substitution.specs.Implications.Views.{count_of, environment_at, environment_lists, implications_of}
use Rattle.lq_refined_substitution.specs.Substitution.Views.{part_view}
use Rattle.lq_refined_subtyping.specs.Contexts.Growing.{HasMore}
use Rattle.lq_refined_subtyping.proofs.contexts.naming.guarded.Given as goal

abbrev pub invariant-loop-part : goal.invariant-loop-part
invariant-loop-part l = record {
  facts : environment_at l.list l.at ≡ environment_at l.initial.list l.env ++ map part_view (take l.part-index l.parts);
  there : l.at < length (environment_lists l.list);
  environments : HasMore (environment_lists l.initial.list) (environment_lists l.list);
  implications : implications_of l.list ≡ implications_of l.initial.list;
  count : count_of l.list ≡ count_of l.initial.list;
}
