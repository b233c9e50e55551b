-- As many terms as the steps added.
use Rattle.std.proofs.Common.{arith}
use Rattle.lq_prover_congruence.proofs.ClassesLemmas.Following.{known-terms}
use Rattle.lq_prover_congruence.proofs.classes.classes.Classes.len.Goals as goal

pub returns : goal.returns
returns c = omega (arith, c.len.ensures, known-terms c.self.inside.state c.args.self.now c.self.invariant.standing c.self.view_is)
