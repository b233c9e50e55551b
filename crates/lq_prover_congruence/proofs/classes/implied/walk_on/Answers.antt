-- A new walk goes round the ring.
use Rattle.lq_prover_congruence.specs.Classes.Standing.{core_of}
use Rattle.lq_prover_congruence.proofs.ClassesLemmas.Partners.{walk-none}
use Rattle.lq_prover_congruence.proofs.classes.implied.walk_on.Goals as goal

pub returns-in-None-clause-pairs : goal.returns-in-None-clause-pairs
returns-in-None-clause-pairs c = walk-none (core_of c.args.state.now) c.args.left c.args.walk c.walk.result c.walk.ensures.ring.0 c.walk.ensures.ring.1 c.in-None.is c.requires.left_in c.walk.ensures.ring.2 c.walk.ensures.ring.3
