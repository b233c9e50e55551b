use Rattle.std.proofs.Common.{sym, subst, map, take}
use Rattle.std.proofs.lemmas.List.{take_all}
use Rattle.lq_prover_decide.specs.Case.{fact_of}
use Rattle.lq_prover_case.specs.Equations.Naming.{HasAllSides, objects_of}
use Rattle.lq_prover_case.proofs.EquationsLemmas.Sides.{all_sides_push, seen-more}
use Rattle.lq_prover_decide.proofs.objects.sides_of.Goals as goal

pub loop-fact-preserved : goal.loop-fact-preserved
loop-fact-preserved c =
    let old = objects_of c.loop-fact.objects in
    let new = objects_of c.add_sides.new.objects in
    let facts = c.args.facts.now in
    let i = c.loop-fact.fact-index in
    let e = c.in_ok-add_sides.ensures in
    subst (HasAllSides new) (sym (seen-more fact_of facts i c.fact-item.result c.fact-item.result c.loop-fact-test.true c.fact-item.is))
    (all_sides_push old new (map fact_of (take i facts)) (fact_of c.fact-item.result) c.loop-fact.invariant e.keeps e.has)

pub returns : goal.returns
returns c =
    subst (λ l. HasAllSides (objects_of c.loop-fact.objects) (map fact_of l)) (take_all c.loop-fact.fact-index c.args.facts.now c.loop-fact-test.false) c.loop-fact.invariant
