use Rattle.lq_prover_proof_tree.specs.Trees.TreeView.{clash_of}
use Rattle.lq_solve_facts.specs.Facts.Facts.{facts_of, nobody}
use Rattle.lq_solve_facts.proofs.FactsLemmas.Holding.{clash_none, hold_same}
use Rattle.lq_solve_facts.proofs.facts.clash.clashes.Goals as goal

pub returns-in-Ok-Some-clause-clash : goal.returns-in-Ok-Some-clause-clash
returns-in-Ok-Some-clause-clash c = λ _ v p h.
    clash_none c.proved_paths_have_no_point.ensures.none v p (facts_of c.check.new.self) (clash_of c.in-Ok-Some._clash) ((rw c.in-Ok-Some.field-0-is at c.in-Ok-Some.ensures.some) nobody)
    (hold_same v p (facts_of c.args.state.now) (facts_of c.check.new.self) (c.in-Ok-Some.ensures.facts nobody) h)
