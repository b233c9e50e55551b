use Rattle.std.proofs.Common.{arith}
use Rattle.std.specs.Prelude.{option_copied}
use Rattle.lq_meaning_normalize.proofs.NormalizeLemmas.Taking.{no_arm, arm_taken}
use Rattle.lq_meaning_normalize.proofs.normalize.parts.Cases.take.Goals as goal

pub returns-then-at-len : goal.returns-then-at-len
returns-then-at-len c = no_arm c.args.self.now.all.now c.args.self.now.next (omega (arith, c.if-at-len.true, c.len.ensures))

pub returns : goal.returns
returns c = arm_taken c.args.self.now.all.now c.args.self.now.next (option_copied c.get.result) c.get.ensures
