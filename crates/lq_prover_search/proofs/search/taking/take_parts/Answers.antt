use Rattle.std.proofs.Common.{◌∙◌, ◌++◌, ◌∷◌, [], take, refl, sym, ap, subst, append_assoc, append-nil}
use Rattle.std.proofs.lemmas.List.{take_all}
use Rattle.std.proofs.lemmas.Result.{err_from_is_err_and}
use Rattle.lq_prover_case.specs.State.PathState.{facts_in}
use Rattle.lq_prover_proof_tree.specs.Trees.Proves.{rows_among}
use Rattle.lq_prover_differences.specs.Table.{constants}
use Rattle.lq_prover_case.specs.Equations.Naming.{IsBelow, name_in, objects_of}
use Rattle.lq_prover_case.proofs.EquationsLemmas.Sides.{seen-more, seen_at}
use Rattle.lq_prover_search.specs.Search.Parts.{facts_of, part_fact}
use Rattle.lq_prover_search.specs.Search.Scope.{AllMayHold}
use Rattle.lq_prover_search.proofs.SearchLemmas.Stops.{front_smaller, stops_larger}
use Rattle.lq_prover_search.proofs.SearchLemmas.Taken.{grows_itself, grows_then, leaf_of_first, may_hold_push}
use Rattle.lq_prover_search.proofs.search.taking.take_parts.Goals as goal

pub loop-part-init : goal.loop-part-init
loop-part-init c = record {
  stands = sym (append-nil _);
  may_hold = tt;
  told = λ h. h;
  grows = λ name. grows_itself _;
  limits = (refl, refl, refl);
  handed = λ ever h. h;
}

pub take_part-requires-clause-sides : goal.take_part-requires-clause-sides
take_part-requires-clause-sides c =
    let i = c.loop-part.part-index in let n = c.part-item.result in
    c.requires.sides i (part_fact n) (seen_at part_fact c.args.parts.now i n n c.loop-part-test.true c.part-item.is)

pub take_part-requires-clause-below : goal.take_part-requires-clause-below
take_part-requires-clause-below c =
    let i = c.loop-part.part-index in let n = c.part-item.result in
    subst (λ m. IsBelow m (part_fact n)) (sym c.loop-part.invariant.limits.0)
    (c.requires.below i (part_fact n) (seen_at part_fact c.args.parts.now i n n c.loop-part-test.true c.part-item.is))

pub take_part-requires-clause-count : goal.take_part-requires-clause-count
take_part-requires-clause-count c = c.loop-part.invariant.limits.2 ∙ c.requires.count

pub returns-in-Some-clause-leaf : goal.returns-in-Some-clause-leaf
returns-in-Some-clause-leaf c = λ choices.
    let name = name_in (objects_of c.args.objects.now) in
    let i = c.loop-part.part-index in let n = c.part-item.result in
    let base = facts_in name c.args.state.now in
    let front = facts_in name c.loop-part.state ++ part_fact n ∷ [] in
    let more = seen-more part_fact c.args.parts.now i n n c.loop-part-test.true c.part-item.is in
    leaf_of_first c.clashes_stay.ensures base c.args.parts.now i front choices _
    (ap (λ l. l ++ part_fact n ∷ []) c.loop-part.invariant.stands ∙ append_assoc base (facts_of (take i c.args.parts.now)) (part_fact n ∷ []) ∙ ap (λ l. base ++ l) (sym more))
    ((rw c.in-Some.is at c.in_ok-leaf.ensures.leaf) choices)

pub returns-in-Some-clause-grows : goal.returns-in-Some-clause-grows
returns-in-Some-clause-grows c = λ name.
    grows_then (facts_in name c.args.state.now) (facts_in name c.loop-part.state) (facts_in name c.take_part.new.state) (c.loop-part.invariant.grows name) (c.take_part.ensures.grows name)

pub returns-in_err-leaf-clause-grows : goal.returns-in_err-leaf-clause-grows
returns-in_err-leaf-clause-grows c = λ name.
    grows_then (facts_in name c.args.state.now) (facts_in name c.loop-part.state) (facts_in name c.take_part.new.state) (c.loop-part.invariant.grows name) (c.take_part.ensures.grows name)

pub loop-part-preserved : goal.loop-part-preserved
loop-part-preserved c =
    let name = name_in (objects_of c.args.objects.now) in
    let i = c.loop-part.part-index in let n = c.part-item.result in
    let base = facts_in name c.args.state.now in
    let before = c.loop-part.invariant in
    let more = seen-more part_fact c.args.parts.now i n n c.loop-part-test.true c.part-item.is in
    let e = c.in_ok-leaf.ensures in
    let stands = rw c.in_default.is at e.stands in record {
      stands = stands ∙ ap (λ l. l ++ part_fact n ∷ []) before.stands ∙ append_assoc base (facts_of (take i c.args.parts.now)) (part_fact n ∷ []) ∙ ap (λ l. base ++ l) (sym more);
      may_hold = subst AllMayHold (sym more) (may_hold_push (facts_of (take i c.args.parts.now)) (part_fact n) before.may_hold (rw c.in_default.is at e.may_hold));
      told = λ h. (rw c.in_default.is at e.told) (before.told h);
      grows = λ m. grows_then (facts_in m c.args.state.now) (facts_in m c.loop-part.state) (facts_in m c.take_part.new.state) (before.grows m) (e.grows m);
      limits = (e.limits.0 ∙ before.limits.0, e.limits.1 ∙ before.limits.1, e.limits.2 ∙ before.limits.2);
      handed = λ ever h. c.take_part.ensures.handed ever (before.handed ever h);
    }

pub returns-clause-stands : goal.returns-clause-stands
returns-clause-stands c = c.loop-part.invariant.stands ∙ ap (λ l. facts_in (name_in (objects_of c.args.objects.now)) c.args.state.now ++ facts_of l) (take_all c.loop-part.part-index c.args.parts.now c.loop-part-test.false)

pub returns-clause-may_hold : goal.returns-clause-may_hold
returns-clause-may_hold c = subst (λ l. AllMayHold (facts_of l)) (take_all c.loop-part.part-index c.args.parts.now c.loop-part-test.false) c.loop-part.invariant.may_hold

pub returns-in_err-leaf-clause-stop : goal.returns-in_err-leaf-clause-stop
returns-in_err-leaf-clause-stop c =
    let p = err_from_is_err_and c.from_residual.result c.from_residual.ensures.1 in
    let name = name_in (objects_of c.args.objects.now) in
    let base = facts_in name c.args.state.now in
    let front = facts_in name c.loop-part.state in
    let le = front_smaller base front c.args.parts.now c.loop-part.part-index c.part-item.result c.loop-part.invariant.stands c.loop-part-test.true c.part-item.is in
    rw (p.1, p.2) (stops_larger (constants (rows_among (front ++ part_fact c.part-item.result ∷ []))) (constants (rows_among (base ++ facts_of c.args.parts.now))) c.in_err-leaf.field-0.0 le c.in_err-leaf.ensures.stop)

pub returns-in_err-leaf-clause-handed : goal.returns-in_err-leaf-clause-handed
returns-in_err-leaf-clause-handed c = λ ever h. c.take_part.ensures.handed ever (c.loop-part.invariant.handed ever h)

pub returns-in-Some-clause-handed : goal.returns-in-Some-clause-handed
returns-in-Some-clause-handed c = λ ever h. c.take_part.ensures.handed ever (c.loop-part.invariant.handed ever h)
