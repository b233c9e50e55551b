use Rattle.lq_solve_facts.specs.Facts.Facts.{facts_of}
use Rattle.lq_solve_facts.proofs.FactsLemmas.Holding.{grows_same, grows_then}
use Rattle.lq_solve_facts.proofs.facts.reads.take_and_check.Goals as goal

pub returns-then-take-clause-refuted : goal.returns-then-take-clause-refuted
returns-then-take-clause-refuted c = λ _. c.take.ensures.clash c.if-take.true

pub returns-then-checks-clause-refuted : goal.returns-then-checks-clause-refuted
returns-then-checks-clause-refuted c = λ b v p h m. c.clashes.ensures.clash b v p (c.take.ensures.held v p h m)

pub returns-then-checks-clause-grows : goal.returns-then-checks-clause-grows
returns-then-checks-clause-grows c =
    grows_then (facts_of c.args.state.now) (facts_of c.take.new.state) (facts_of c.clashes.new.state) c.take.ensures.grows
    (grows_same (facts_of c.take.new.state) (facts_of c.clashes.new.state) c.clashes.ensures.same)
