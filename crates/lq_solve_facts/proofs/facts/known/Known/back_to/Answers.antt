use Rattle.std.proofs.Common.{◌∙◌, ◌≤◌, ap, arith, length, subst, sym}
use Rattle.std.proofs.lemmas.List.{length-take, take_all}
use Rattle.lq_prover_proof_tree.specs.Trees.Met.{AllHold}
use Rattle.lq_solve_facts.specs.Facts.Facts.{facts_of, nobody}
use Rattle.lq_solve_facts.proofs.FactsLemmas.Holding.{first_fewer}
use Rattle.lq_solve_facts.proofs.FactsLemmas.Members.{taken_readings}
use Rattle.lq_solve_facts.specs.Facts.Read.{hypothesis_reading}
use Rattle.lq_solve_facts.proofs.facts.known.Known.back_to.Goals as goal

pub back_to-requires : goal.back_to-requires
back_to-requires c = λ name. let e = c.mark-all.ensures name in omega (arith, e)

pub returns-then-all-count-clause-count : goal.returns-then-all-count-clause-count
returns-then-all-count-clause-count c = let e = c.mark-all.ensures nobody in omega (arith, e)

pub returns-then-all-count-clause-hold : goal.returns-then-all-count-clause-hold
returns-then-all-count-clause-hold c = λ p h v a.
    let e = c.mark-all.ensures nobody in
    let facts = facts_of c.args.self.now.state in
    let past : length facts ≤ c.args.count = omega (arith, e) in subst (AllHold v p) (take_all c.args.count facts past) (h v a)

pub returns-clause-count : goal.returns-clause-count
returns-clause-count c = ap length (c.back_to.ensures.facts nobody) ∙ length-take c.args.count (facts_of c.args.self.now.state)

pub returns-clause-hold : goal.returns-clause-hold
returns-clause-hold c = λ p h v a. subst (AllHold v p) (sym (c.back_to.ensures.facts nobody)) (h v a)

pub returns-clause-first : goal.returns-clause-first
returns-clause-first c = λ n p w h v a.
    first_fewer v p (facts_of c.args.self.now.state) (facts_of c.back_to.new.self) n c.args.count (c.back_to.ensures.facts nobody) w (h v a)

pub returns-then-all-count-clause-readings : goal.returns-then-all-count-clause-readings
returns-then-all-count-clause-readings c = taken_readings c.args.readings c.args.self.now.readings.items c.truncate.new.self.items (λ x. hypothesis_reading x.value) c.truncate.ensures.items

pub returns-clause-readings : goal.returns-clause-readings
returns-clause-readings c = taken_readings c.args.readings c.args.self.now.readings.items c.truncate.new.self.items (λ x. hypothesis_reading x.value) c.truncate.ensures.items
