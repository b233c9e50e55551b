use Rattle.std.proofs.Common.{◌∙◌, arith}
use Rattle.lq_solve_facts.specs.Facts.Facts.{facts_of, nobody}
use Rattle.lq_solve_facts.proofs.FactsLemmas.Holding.{grows_length, grows_same, grows_take}
use Rattle.lq_solve_facts.proofs.facts.standing.settle_with.Goals as goal

pub back_to-requires : goal.back_to-requires
back_to-requires c = λ name.
    let g = grows_length (facts_of c.args.state.now) (facts_of c.settle_taken-found.new.state) c.settle_taken-found.ensures.grows in
    let b = c.mark-before.ensures nobody in let a = c.mark-after.ensures nobody in let n = c.mark-after.ensures name in omega (arith, g, a, b, n)

pub returns-clause-proved : goal.returns-clause-proved
returns-clause-proved c = λ _.
    c.back_to.ensures.facts nobody
    ∙ grows_take (facts_of c.args.state.now) (facts_of c.settle_taken-found.new.state) _ c.settle_taken-found.ensures.grows (c.mark-before.ensures nobody)

pub returns-clause-unknown : goal.returns-clause-unknown
returns-clause-unknown c = λ _.
    c.back_to.ensures.facts nobody
    ∙ grows_take (facts_of c.args.state.now) (facts_of c.settle_taken-found.new.state) _ c.settle_taken-found.ensures.grows (c.mark-before.ensures nobody)

pub returns-clause-grows : goal.returns-clause-grows
returns-clause-grows c =
    grows_same _ _ (c.back_to.ensures.facts nobody
    ∙ grows_take (facts_of c.args.state.now) (facts_of c.settle_taken-found.new.state) _ c.settle_taken-found.ensures.grows (c.mark-before.ensures nobody))
