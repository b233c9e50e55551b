-- One term of the ring more.
use Rattle.std.proofs.Common.{length, ◌∙◌}
use Rattle.lq_prover_congruence.specs.Classes.Standing.{core_of}
use Rattle.lq_prover_congruence.proofs.ClassesLemmas.Partners.{within-first, within-rest, no-partner, partners-skip}
use Rattle.lq_prover_congruence.proofs.classes.implied.next_partner.Goals as goal

pub is_partner-requires-clause-right_in : goal.is_partner-requires-clause-right_in
is_partner-requires-clause-right_in c = within-first (length c.args.state.now.known) c.in-Some.right c.loop-right.walk c.next.new.self c.in-Some.ensures.steps c.loop-right.invariant.within

pub returns-then-is_partner-clause-within : goal.returns-then-is_partner-clause-within
returns-then-is_partner-clause-within c = within-rest (length c.args.state.now.known) c.in-Some.right c.loop-right.walk c.next.new.self c.in-Some.ensures.steps c.loop-right.invariant.within

pub loop-right-preserved : goal.loop-right-preserved
loop-right-preserved c =
    let core = core_of c.args.state.now in
    record {
      within = within-rest (length c.args.state.now.known) c.in-Some.right c.loop-right.walk c.next.new.self c.in-Some.ensures.steps c.loop-right.invariant.within;
      same = c.loop-right.invariant.same ∙ partners-skip core c.args.left c.in-Some.right c.loop-right.walk c.next.new.self c.in-Some.ensures.steps (no-partner core c.args.left c.in-Some.right c.is_partner.result c.is_partner.ensures c.if-is_partner.false);
    }
