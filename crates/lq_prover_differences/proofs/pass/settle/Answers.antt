use Rattle.std.proofs.Common.{◌≡◌, Err, rules, ap, sym, subst, ℕ, ◌+◌, length, arith, refl, ◌∙◌}
use Rattle.std.proofs.Math.ListN.{set, length-set}
use Rattle.lq_prover_differences.specs.declared.vertex.Kept.{Kept}
use Rattle.lq_prover_differences.specs.Links.{IsLatest}
use Rattle.lq_prover_differences.specs.Passes.{vertex_at, order_at, AllBelow, HasFront}
use Rattle.lq_prover_differences.proofs.Passing.{order_most, settle_step, sized_kept, few, next_from}
use Rattle.lq_prover_differences.proofs.Fallen.{front_none, turn}
use Rattle.lq_prover_differences.proofs.pass.settle.Goals as goal

pub loop-place-init : goal.loop-place-init
loop-place-init c = record {
  places = c.requires.room;
  capacity = refl;
  counted = λ v. let u = c.requires.unsettled v in omega arith;
  inside = c.requires.inside;
  front = front_none c.args.fallen.now.items (vertex_at c.args.vertices.now) (order_at c.args.order.now) c.requires.listed;
  kept = λ v. refl;
  room = omega (arith, few c.args.order.now);
  passes = λ gap h. h;
}

pub returns-in_err-place-clause-stop : goal.returns-in_err-place-clause-stop
returns-in_err-place-clause-stop c =
    let was : c.from_residual.result ≡ Err c.in_err-place.field-0.0 = search rules in
    rw was (λ gap n pass sized. c.in_err-place.ensures.stop c.args.arcs.now c.args.top gap c.loop-place.count n (c.loop-place.invariant.passes gap pass) sized.gap_in)

pub returns-in_default-clause-next : goal.returns-in_default-clause-next
returns-in_default-clause-next c = λ gap pass.
    let none = rw c.in_default.is at c.in_ok-place.ensures.none in
    next_from c.args.arcs.now c.args.top gap (vertex_at c.args.vertices.now) (vertex_at c.loop-place.vertices) (order_at c.loop-place.order) c.loop-place.count 0
    (c.loop-place.invariant.passes gap pass) (λ t. ap (λ (q : Kept). q.value) (c.loop-place.invariant.kept t)) none

pub relax-requires-clause-inside : goal.relax-requires-clause-inside
relax-requires-clause-inside c =
    let t = turn c.loop-place.vertices c.loop-place.order c.loop-place.fallen.items c.deref.result.now c.loop-place.count c.in-Some.place c.index-at.result.now
    (let v = c.loop-place.auto.vertices in let o = c.loop-place.auto.order in let s = c.requires.same in omega arith)
    c.loop-place.invariant.inside c.loop-place.invariant.front c.deref.ensures.value (rw c.in-Some.is at c.in_ok-place.ensures.place)
    (rw c.in-Some.is at c.in_ok-place.ensures.some) c.index-at.ensures in
    subst (λ l. AllBelow l (length c.loop-place.vertices)) (sym c.swap.ensures.items) t.inside

pub returns-in_err-closing-clause-stop : goal.returns-in_err-closing-clause-stop
returns-in_err-closing-clause-stop c =
    let t = turn c.loop-place.vertices c.loop-place.order c.loop-place.fallen.items c.deref.result.now c.loop-place.count c.in-Some.place c.index-at.result.now
    (let v = c.loop-place.auto.vertices in let o = c.loop-place.auto.order in let s = c.requires.same in omega arith)
    c.loop-place.invariant.inside c.loop-place.invariant.front c.deref.ensures.value (rw c.in-Some.is at c.in_ok-place.ensures.place)
    (rw c.in-Some.is at c.in_ok-place.ensures.some) c.index-at.ensures in
    let was : c.from_residual-in_err-closing.result ≡ Err c.in_err-closing.field-0.0 = search rules in
    rw was (λ gap n pass sized. c.in_err-closing.ensures.stop gap (c.loop-place.count + 1) n
    (settle_step c.args.arcs.now c.args.top gap (vertex_at c.loop-place.vertices) (order_at c.loop-place.order) _ c.loop-place.count c.index-at.result.now 0
    (c.loop-place.invariant.passes gap pass) t.least t.settles)
    (sized_kept n gap c.args.arcs.now (vertex_at c.args.vertices.now) (vertex_at c.loop-place.vertices) (λ t. ap (λ (q : Kept). q.value) (c.loop-place.invariant.kept t)) sized))

pub returns-in-Some-2-clause-stuck : goal.returns-in-Some-2-clause-stuck
returns-in-Some-2-clause-stuck c = λ gap pass.
    let t = turn c.loop-place.vertices c.loop-place.order c.loop-place.fallen.items c.deref.result.now c.loop-place.count c.in-Some.place c.index-at.result.now
    (let v = c.loop-place.auto.vertices in let o = c.loop-place.auto.order in let s = c.requires.same in omega arith)
    c.loop-place.invariant.inside c.loop-place.invariant.front c.deref.ensures.value (rw c.in-Some.is at c.in_ok-place.ensures.place)
    (rw c.in-Some.is at c.in_ok-place.ensures.some) c.index-at.ensures in
    let stuck = rw c.in-Some-2.is at c.in_ok-closing.ensures.stuck in
    stuck gap (c.loop-place.count + 1)
    (settle_step c.args.arcs.now c.args.top gap (vertex_at c.loop-place.vertices) (order_at c.loop-place.order) _ c.loop-place.count c.index-at.result.now 0
    (c.loop-place.invariant.passes gap pass) t.least t.settles)

pub returns-in-Some-2-clause-listed : goal.returns-in-Some-2-clause-listed
returns-in-Some-2-clause-listed c =
    let t = turn c.loop-place.vertices c.loop-place.order c.loop-place.fallen.items c.deref.result.now c.loop-place.count c.in-Some.place c.index-at.result.now
    (let v = c.loop-place.auto.vertices in let o = c.loop-place.auto.order in let s = c.requires.same in omega arith)
    c.loop-place.invariant.inside c.loop-place.invariant.front c.deref.ensures.value (rw c.in-Some.is at c.in_ok-place.ensures.place)
    (rw c.in-Some.is at c.in_ok-place.ensures.some) c.index-at.ensures in
    (c.in_ok-closing.ensures.front (c.loop-place.count + 1) (subst (λ l. HasFront l (c.loop-place.count + 1) (vertex_at c.loop-place.vertices) (order_at (set c.loop-place.order c.index-at.result.now (c.loop-place.count + 1)))) (sym c.swap.ensures.items) t.front)).listed

pub returns-in-Some-2-clause-counted : goal.returns-in-Some-2-clause-counted
returns-in-Some-2-clause-counted c =
    let t = turn c.loop-place.vertices c.loop-place.order c.loop-place.fallen.items c.deref.result.now c.loop-place.count c.in-Some.place c.index-at.result.now
    (let v = c.loop-place.auto.vertices in let o = c.loop-place.auto.order in let s = c.requires.same in omega arith)
    c.loop-place.invariant.inside c.loop-place.invariant.front c.deref.ensures.value (rw c.in-Some.is at c.in_ok-place.ensures.place)
    (rw c.in-Some.is at c.in_ok-place.ensures.some) c.index-at.ensures in
    λ v. (let k = order_most (order_at c.loop-place.order) _ c.index-at.result.now c.loop-place.count t.settles c.loop-place.invariant.counted v in
    let r = c.loop-place.invariant.room in
    omega (arith, t.fewer, length-set {A = ℕ} c.loop-place.order c.index-at.result.now (c.loop-place.count + 1)))

pub loop-place-preserved : goal.loop-place-preserved
loop-place-preserved c =
    let t = turn c.loop-place.vertices c.loop-place.order c.loop-place.fallen.items c.deref.result.now c.loop-place.count c.in-Some.place c.index-at.result.now
    (let v = c.loop-place.auto.vertices in let o = c.loop-place.auto.order in let s = c.requires.same in omega arith)
    c.loop-place.invariant.inside c.loop-place.invariant.front c.deref.ensures.value (rw c.in-Some.is at c.in_ok-place.ensures.place)
    (rw c.in-Some.is at c.in_ok-place.ensures.some) c.index-at.ensures in
    let offered = rw c.in_default-2.is at c.in_ok-closing.ensures.offered in
    record {
      places = c.relax.ensures.room;
      capacity = c.relax.ensures.capacity ∙ c.swap.ensures.capacity ∙ c.loop-place.invariant.capacity;
      counted = λ v. order_most (order_at c.loop-place.order) _ c.index-at.result.now c.loop-place.count t.settles c.loop-place.invariant.counted v;
      inside = c.relax.ensures.inside;
      front = c.in_ok-closing.ensures.front (c.loop-place.count + 1) (subst (λ l. HasFront l (c.loop-place.count + 1) (vertex_at c.loop-place.vertices) (order_at (set c.loop-place.order c.index-at.result.now (c.loop-place.count + 1)))) (sym c.swap.ensures.items) t.front);
      kept = λ v. c.relax.ensures.kept v ∙ c.loop-place.invariant.kept v;
      room = (let r = c.loop-place.invariant.room in omega (arith, t.fewer, length-set {A = ℕ} c.loop-place.order c.index-at.result.now (c.loop-place.count + 1)));
      passes = λ gap pass. offered gap (c.loop-place.count + 1)
          (settle_step c.args.arcs.now c.args.top gap (vertex_at c.loop-place.vertices) (order_at c.loop-place.order) _ c.loop-place.count c.index-at.result.now 0
          (c.loop-place.invariant.passes gap pass) t.least t.settles);
    }

pub returns-in_default-clause-counted : goal.returns-in_default-clause-counted
returns-in_default-clause-counted c = λ v. let k = c.loop-place.invariant.counted v in let r = c.loop-place.invariant.room in omega arith

pub loop-place-smaller : goal.loop-place-smaller
loop-place-smaller c =
    let t = turn c.loop-place.vertices c.loop-place.order c.loop-place.fallen.items c.deref.result.now c.loop-place.count c.in-Some.place c.index-at.result.now
    (let v = c.loop-place.auto.vertices in let o = c.loop-place.auto.order in let s = c.requires.same in omega arith)
    c.loop-place.invariant.inside c.loop-place.invariant.front c.deref.ensures.value (rw c.in-Some.is at c.in_ok-place.ensures.place)
    (rw c.in-Some.is at c.in_ok-place.ensures.some) c.index-at.ensures in
    omega (arith, t.fewer)

pub relax-requires-clause-last : goal.relax-requires-clause-last
relax-requires-clause-last c =
    subst (λ (q : Kept). IsLatest c.args.arcs.now c.index-at.result.now (length c.args.arcs.now) q.last) (sym (c.loop-place.invariant.kept c.index-at.result.now)) (c.requires.last c.index-at.result.now)
