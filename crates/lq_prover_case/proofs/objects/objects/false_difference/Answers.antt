use Rattle.std.proofs.Common.{false, refl}
use Rattle.lq_prover_case.proofs.ObjectsLemmas.Chains.{not_both, says_at, still_none, within_at}
use Rattle.lq_prover_case.proofs.objects.objects.false_difference.Goals as goal
use Rattle.lq_prover_case.proofs.objects.objects.false_difference.Goals.{else-not-fact-via-then-not-fact+else-same, else-not-fact-via-else-not-fact}

pub same-requires-clause-a_in : goal.same-requires-clause-a_in
same-requires-clause-a_in c = (within_at _ c.args.facts.now c.loop-fact.fact-index _ c.requires c.loop-fact-test.true).0

pub same-requires-clause-b_in : goal.same-requires-clause-b_in
same-requires-clause-b_in c = (within_at _ c.args.facts.now c.loop-fact.fact-index _ c.requires c.loop-fact-test.true).1

pub returns-then-same-clause-some : goal.returns-then-same-clause-some
returns-then-same-clause-some c = (c.if-not-fact.true, says_at c.args.facts.now c.loop-fact.fact-index _ false c.loop-fact-test.true c.if-not-fact.true, c.if-same.ensures.0 refl)

pub loop-fact-preserved : goal.loop-fact-preserved
loop-fact-preserved c = elim c.else-not-fact.branch [
  | else-not-fact-via-then-not-fact+else-same w ↦
      still_none c.args.facts.now c.loop-fact.fact-index _ c.args.classes.now c.loop-fact.invariant (λ o i. not_both _ (w.same.ensures.1 i) w.if-same.false)
  | else-not-fact-via-else-not-fact w ↦ still_none c.args.facts.now c.loop-fact.fact-index _ c.args.classes.now c.loop-fact.invariant (λ o i. not_both _ w.if-not-fact.false o)
]
