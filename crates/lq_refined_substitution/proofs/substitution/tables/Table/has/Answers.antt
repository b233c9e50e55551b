use Rattle.std.proofs.Common.{◌<◌, ◌∙◌, sym, subst}
use Rattle.lq_refined_substitution.specs.Substitution.Scopes.{rank}
use Rattle.lq_refined_substitution.specs.Substitution.Tables.{table_at}
use Rattle.lq_refined_substitution.proofs.SubstitutionLemmas.Growing.{above}
use Rattle.lq_refined_substitution.proofs.substitution.tables.Table.has.Goals as goal

pub returns-then-entry-wanted : goal.returns-then-entry-wanted
returns-then-entry-wanted c =
    let e = c.in-Some.entry in
    let less : e.highest < rank c.args.symbol = subst (λ k. e.highest < k) c.rank-wanted.ensures c.if-entry-wanted.true in
    sym (above e.highest (table_at c.args.self.now c.loop-entry.at) c.args.symbol c.in-Some.ensures.within less) ∙ c.loop-entry.invariant
