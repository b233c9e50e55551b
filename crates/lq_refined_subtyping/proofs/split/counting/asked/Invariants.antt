use Rattle.std.proofs.Common.{◌≡◌, ◌≤◌, map, take}
use Rattle.lq_refined_substitution.specs.Substitution.Views.{part_view}
use Rattle.lq_refined_subtyping.specs.Split.Counting.{asked}
use Rattle.lq_refined_subtyping.proofs.split.counting.asked.Given as goal

abbrev pub invariant-loop-part : goal.invariant-loop-part
invariant-loop-part l = record {
  few : l.count ≤ l.part-index;
  count : l.count ≡ asked (map part_view (take l.part-index l.parts));
}
