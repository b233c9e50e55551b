use Rattle.std.proofs.Common.{Bool, not, sym, ap, ◌∙◌}
use Rattle.lq_top_answers.specs.Failure.Heads.{is_alike}
use Rattle.lq_top_answers.proofs.FailureLemmas.Demands.{same_goal}
use Rattle.lq_top_answers.proofs.failure.counting.is_counted.Goals as goal

pub returns-then-demands : goal.returns-then-demands
returns-then-demands c = λ i here.
    c.is_known-known.ensures ∙ same_goal c.args.implications.now c.args.at c.in-Some.implication.now i (sym c.in-Some.ensures) here ∙ ap (λ (b : Bool). is_alike b i) (sym c.if-demands.true)

pub returns-else-demands : goal.returns-else-demands
returns-else-demands c = λ i here.
    ap not (c.is_known-known.ensures ∙ same_goal c.args.implications.now c.args.at c.in-Some.implication.now i (sym c.in-Some.ensures) here) ∙ ap (λ (b : Bool). is_alike b i) (sym c.if-demands.false)
