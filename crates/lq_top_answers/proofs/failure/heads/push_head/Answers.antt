use Rattle.std.proofs.Common.{◌≡◌, ℕ, List, ◌++◌, OnOk, sym, subst}
use Rattle.lq_top_answers.proofs.FailureLemmas.Demands.{line_is}
use Rattle.lq_top_answers.proofs.failure.heads.push_head.Goals as goal

pub returns : goal.returns
returns c =
    subst (λ (l : List ℕ). OnOk c.push_origin.result (c.push_origin.new.line.items ≡ c.args.line.now.items ++ l))
    (line_is c.args.implications.now c.args.at c.in-Some.implication.now c.is_known-demand.result c.count-number.result (sym c.in-Some.ensures) c.is_known-demand.ensures c.count-number.ensures)
    c.push_origin.ensures
