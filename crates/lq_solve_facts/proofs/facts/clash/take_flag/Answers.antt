use Rattle.lq_prover_proof_tree.specs.Trees.Path.{flag_fact}
use Rattle.lq_prover_proof_tree.specs.Trees.TreeView.{clash_of}
use Rattle.lq_solve_facts.specs.Facts.Facts.{facts_of, nobody}
use Rattle.lq_solve_facts.proofs.FactsLemmas.Holding.{clash_none, hold_more, hold_same}
use Rattle.lq_solve_facts.proofs.facts.clash.take_flag.Goals as goal

pub returns-in-Ok-Some-clause-held : goal.returns-in-Ok-Some-clause-held
returns-in-Ok-Some-clause-held c = λ v p h e.
    hold_more v p (facts_of c.args.state.now) (facts_of c.take_flag.new.self) (flag_fact c.args.flag c.args.value) (c.in-Ok-Some.ensures.stands nobody) h e

pub returns-in-Ok-Some-clause-clash : goal.returns-in-Ok-Some-clause-clash
returns-in-Ok-Some-clause-clash c = λ _ v p h e.
    clash_none c.proved_paths_have_no_point.ensures.none v p (facts_of c.take_flag.new.self) (clash_of c.in-Ok-Some._clash) ((rw c.in-Ok-Some.field-0-is at c.in-Ok-Some.ensures.clash) nobody)
    (hold_more v p (facts_of c.args.state.now) (facts_of c.take_flag.new.self) (flag_fact c.args.flag c.args.value) (c.in-Ok-Some.ensures.stands nobody) h e)

pub returns-in-Ok-None-clause-held : goal.returns-in-Ok-None-clause-held
returns-in-Ok-None-clause-held c = λ v p h e.
    hold_more v p (facts_of c.args.state.now) (facts_of c.take_flag.new.self) (flag_fact c.args.flag c.args.value) (c.in-Ok-None.ensures.stands nobody) h e

pub returns-in-Err-clause-held : goal.returns-in-Err-clause-held
returns-in-Err-clause-held c = λ v p h e. hold_same v p (facts_of c.args.state.now) (facts_of c.take_flag.new.self) (c.in-Err.ensures.refused nobody) h
