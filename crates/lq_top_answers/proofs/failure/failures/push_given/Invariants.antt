use Rattle.std.proofs.Common.{◌≡◌, ◌++◌, map, take}
use Rattle.lq_logic_predicates.specs.PredView.{formula_of}
use Rattle.lq_logic_text.specs.Views.{calling_view}
use Rattle.lq_top_answers.specs.Failure.Failures.{given_lines}
use Rattle.lq_top_answers.proofs.failure.failures.push_given.Given as goal

abbrev pub invariant-loop-pred : goal.invariant-loop-pred
invariant-loop-pred l = l.line.items ≡ l.initial.line.items ++ given_lines (calling_view l.calling) (map formula_of (take l.pred-index l.hypotheses))
