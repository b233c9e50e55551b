use Rattle.std.proofs.Common.{◌≡◌, take}
use Rattle.std.specs.Prelude.{count_by}
use Rattle.lq_refined_substitution.specs.Implications.Views.{implications_of}
use Rattle.lq_top_answers.specs.Failure.Heads.{is_alike}
use Rattle.lq_top_answers.proofs.failure.counting.count.Given as goal

abbrev pub invariant-loop-before : goal.invariant-loop-before
invariant-loop-before l = l.number ≡ count_by (is_alike l.demands) (take l.before (implications_of l.implications))
