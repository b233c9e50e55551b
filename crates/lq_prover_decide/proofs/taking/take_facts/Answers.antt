use Rattle.std.proofs.Common.{◌∙◌, ◌++◌, ◌∷◌, [], map, take, sym, ap, subst}
use Rattle.std.proofs.lemmas.Result.{err_from_is_err_and}
use Rattle.lq_prover_case.specs.State.PathState.{facts_in, objects_in}
use Rattle.lq_prover_proof_tree.specs.Trees.TreeView.{clash_of}
use Rattle.lq_prover_decide.specs.Case.{fact_of}
use Rattle.lq_prover_case.specs.Equations.Naming.{AllTold, IsBelow, name_in, objects_of}
use Rattle.lq_prover_case.proofs.EquationsLemmas.Joining.{second, third}
use Rattle.lq_prover_decide.proofs.Longer.{clash_of_first, stop_of_first}
use Rattle.lq_prover_case.proofs.EquationsLemmas.Sides.{seen-more, seen_at}
use Rattle.lq_prover_case.proofs.EquationsLemmas.Told.{all_told_push}
use Rattle.lq_prover_decide.proofs.taking.take_facts.Goals as goal

pub take_fact-requires-clause-sides : goal.take_fact-requires-clause-sides
take_fact-requires-clause-sides c =
    let i = c.loop-fact.fact-index in
    c.requires.sides i (fact_of c.fact-item.result) (seen_at fact_of c.args.facts.now i c.fact-item.result c.fact-item.result c.loop-fact-test.true c.fact-item.is)

pub take_fact-requires-clause-below : goal.take_fact-requires-clause-below
take_fact-requires-clause-below c =
    let i = c.loop-fact.fact-index in
    subst (λ n. IsBelow n (fact_of c.fact-item.result)) (sym c.loop-fact.invariant.terms)
    (c.requires.below i (fact_of c.fact-item.result) (seen_at fact_of c.args.facts.now i c.fact-item.result c.fact-item.result c.loop-fact-test.true c.fact-item.is))

pub returns-in-Some-clause-clash : goal.returns-in-Some-clause-clash
returns-in-Some-clause-clash c =
    let i = c.loop-fact.fact-index in
    let name = name_in (objects_of c.args.objects.now) in
    clash_of_first c.args.facts.now i (facts_in name c.take_fact.new.state) (clash_of c.in-Some.clash)
    (c.in_ok-clash.ensures.stands ∙ ap (λ l. l ++ fact_of c.fact-item.result ∷ []) c.loop-fact.invariant.stands
    ∙ sym (seen-more fact_of c.args.facts.now i c.fact-item.result c.fact-item.result c.loop-fact-test.true c.fact-item.is))
    (rw c.in-Some.is at c.in_ok-clash.ensures.clash)

pub returns-in_err-clash-clause-stop : goal.returns-in_err-clash-clause-stop
returns-in_err-clash-clause-stop c =
    let i = c.loop-fact.fact-index in
    let name = name_in (objects_of c.args.objects.now) in
    let p = err_from_is_err_and c.from_residual.result c.from_residual.ensures.1 in
    let f = fact_of c.fact-item.result in
    rw (p.1, p.2) (stop_of_first c.args.facts.now i (facts_in name c.loop-fact.state ++ f ∷ []) c.in_err-clash.field-0.0
    (ap (λ l. l ++ f ∷ []) c.loop-fact.invariant.stands ∙ sym (seen-more fact_of c.args.facts.now i c.fact-item.result c.fact-item.result c.loop-fact-test.true c.fact-item.is))
    c.in_err-clash.ensures.stop)

pub loop-fact-preserved : goal.loop-fact-preserved
loop-fact-preserved c =
    let i = c.loop-fact.fact-index in
    let objects = objects_of c.args.objects.now in
    let f = fact_of c.fact-item.result in
    let front = map fact_of (take i c.args.facts.now) in
    let more = seen-more fact_of c.args.facts.now i c.fact-item.result c.fact-item.result c.loop-fact-test.true c.fact-item.is in
    let e = c.in_ok-clash.ensures in record {
      stands = e.stands ∙ ap (λ l. l ++ f ∷ []) c.loop-fact.invariant.stands ∙ sym more;
      told = subst (AllTold objects (objects_in c.take_fact.new.state)) (sym more)
          (all_told_push objects (objects_in c.loop-fact.state) (objects_in c.take_fact.new.state) front f e.more c.loop-fact.invariant.told e.told);
      terms = e.limits.0 ∙ c.loop-fact.invariant.terms;
      pivots = second e.limits ∙ c.loop-fact.invariant.pivots;
      count = third e.limits ∙ c.loop-fact.invariant.count;
      handed = λ ever h. e.handed ever (c.loop-fact.invariant.handed ever h);
    }

pub returns-in_err-clash-clause-handed : goal.returns-in_err-clash-clause-handed
returns-in_err-clash-clause-handed c = λ ever h. c.in_err-clash.ensures.handed ever (c.loop-fact.invariant.handed ever h)

pub returns-in-Some-clause-handed : goal.returns-in-Some-clause-handed
returns-in-Some-clause-handed c = λ ever h. c.in_ok-clash.ensures.handed ever (c.loop-fact.invariant.handed ever h)
