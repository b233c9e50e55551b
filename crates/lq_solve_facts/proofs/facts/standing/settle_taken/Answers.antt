use Rattle.lq_solve_facts.specs.Facts.Facts.{facts_of}
use Rattle.lq_solve_facts.proofs.FactsLemmas.Holding.{grows_same, grows_then}
use Rattle.lq_solve_facts.proofs.facts.standing.settle_taken.Goals as goal

pub returns-then-take-clause-refuted : goal.returns-then-take-clause-refuted
returns-then-take-clause-refuted c = λ _. c.take.ensures.clash c.if-take.true

pub returns-clause-refuted : goal.returns-clause-refuted
returns-clause-refuted c = λ e v p h m. c.settle_facts.ensures.clash e v p (c.take.ensures.held v p h m)

pub returns-clause-grows : goal.returns-clause-grows
returns-clause-grows c =
    grows_then (facts_of c.args.state.now) (facts_of c.take.new.state) (facts_of c.settle_facts.new.state) c.take.ensures.grows
    (grows_same (facts_of c.take.new.state) (facts_of c.settle_facts.new.state) c.settle_facts.ensures.same)
