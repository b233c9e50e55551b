use Rattle.std.proofs.Common.{◌≡◌, drop}
use Rattle.lq_refined_rules.specs.Checks.Tree.{has_default}
use Rattle.lq_refined_templates.specs.Programs.BlockView.{arms_view}
use Rattle.lq_generate_implications.proofs.walk.choosing.has_default.Given as goal

abbrev pub invariant-loop-at : goal.invariant-loop-at
invariant-loop-at l = has_default (arms_view l.arms) ≡ has_default (arms_view (drop l.at l.arms))
