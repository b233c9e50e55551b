use Rattle.std.proofs.Common.{length, ◌≤◌, sym, subst, arith}
use Rattle.std.proofs.lemmas.List.{take_all}
use Rattle.lq_prover_proof_tree.specs.Trees.Met.{AllHold}
use Rattle.lq_solve_facts.specs.Facts.Facts.{facts_of, nobody}
use Rattle.lq_solve_facts.proofs.facts.known.Known.mark.Goals as goal

pub returns-clause-count : goal.returns-clause-count
returns-clause-count c = c.mark.ensures nobody

pub returns-clause-all : goal.returns-clause-all
returns-clause-all c = λ p h v a.
    let e = c.mark.ensures nobody in
    let facts = facts_of c.args.self.now.state in
    let past : length facts ≤ c.mark.result.0 = omega (arith, e) in
    subst (AllHold v p) (sym (take_all c.mark.result.0 facts past)) (h v a)
