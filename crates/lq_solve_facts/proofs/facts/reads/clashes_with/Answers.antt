use Rattle.std.proofs.Common.{◌∙◌, arith}
use Rattle.lq_solve_facts.specs.Facts.Facts.{facts_of, nobody}
use Rattle.lq_solve_facts.proofs.FactsLemmas.Holding.{grows_length, grows_take}
use Rattle.lq_solve_facts.proofs.facts.reads.clashes_with.Goals as goal

pub back_to-requires : goal.back_to-requires
back_to-requires c = λ name.
    let g = grows_length (facts_of c.args.state.now) (facts_of c.take_and_check-found.new.state) c.take_and_check-found.ensures.grows in
    let b = c.mark-before.ensures nobody in let a = c.mark-after.ensures nobody in let n = c.mark-after.ensures name in omega (arith, g, a, b, n)

pub returns-clause-refuted : goal.returns-clause-refuted
returns-clause-refuted c = c.take_and_check-found.ensures.refuted

pub returns-clause-same : goal.returns-clause-same
returns-clause-same c =
    c.back_to.ensures.facts nobody
    ∙ grows_take (facts_of c.args.state.now) (facts_of c.take_and_check-found.new.state) _ c.take_and_check-found.ensures.grows (c.mark-before.ensures nobody)
