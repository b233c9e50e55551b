use Rattle.std.proofs.Common.{[], ◌∷◌, ◌++◌, subst, sym}
use Rattle.lq_refined_substitution.specs.Substitution.Scopes.{left, AgreeBelow}
use Rattle.lq_refined_substitution.specs.Substitution.Tables.{table_at}
use Rattle.lq_refined_substitution.proofs.SubstitutionLemmas.Jumps.{agree-on, step-agrees}
use Rattle.lq_refined_substitution.proofs.substitution.tables.Table.jump_of.Goals as goal

pub returns-in-Some-clause-agree : goal.returns-in-Some-clause-agree
returns-in-Some-clause-agree c =
    let up = table_at c.args.self.now c.args.parent in
    let n = c.lowest_rank.result in
    let step = step-agrees c.args.symbol c.args.hidden n c.lowest_rank.ensures.added c.lowest_rank.ensures.hidden up in
    agree-on n c.in-Some.jumps.lowest c.and.result.lowest (left c.args.hidden up ++ c.args.symbol ∷ []) up (table_at c.args.self.now c.and.result.to)
    c.and.ensures.first c.and.ensures.second step
    (subst (λ t. AgreeBelow c.in-Some.jumps.lowest up (table_at c.args.self.now t)) (sym c.and.ensures.end) c.in-Some.ensures.agree)

pub returns-in-None-clause-agree : goal.returns-in-None-clause-agree
returns-in-None-clause-agree c =
    step-agrees c.args.symbol c.args.hidden c.lowest_rank.result c.lowest_rank.ensures.added c.lowest_rank.ensures.hidden
    (table_at c.args.self.now c.args.parent)
