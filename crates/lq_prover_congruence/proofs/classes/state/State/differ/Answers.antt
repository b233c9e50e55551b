-- A difference changes no class.
use Rattle.lq_prover_congruence.specs.declared.classes.steps.Step.TheVariants.{Differed}
use Rattle.lq_prover_congruence.proofs.ClassesLemmas.Following.{differ-standing, steps-now}
use Rattle.lq_prover_congruence.proofs.classes.state.State.differ.Goals as goal

pub returns-clause-standing : goal.returns-clause-standing
returns-clause-standing c = differ-standing c.args.self.now c.note.new.self c.args.a c.args.b c.requires.standing c.in_ok-note.ensures.ok c.requires.a_in c.requires.b_in

pub returns-clause-ok : goal.returns-clause-ok
returns-clause-ok c = steps-now c.args.self.now c.note.new.self (Differed c.args.a c.args.b) c.in_ok-note.ensures.ok
