use Rattle.std.proofs.Common.{ℕ, Err, ◌≡◌, ◌<◌, ◌≤◌, length, ◌+ℤ◌, ◌-ℤ◌, ◌≤ℤ◌, to_z, FitsSigned, arith, rules, below_more, get_or, sym, subst, ◌∙◌}
use Rattle.std.specs.Int.{w128}
use Rattle.std.proofs.Math.IntN.{ℤ}
use Rattle.std.proofs.lemmas.Int.{ints}
use Rattle.lq_prover_differences.specs.declared.vertex.Vertex.{Vertex}
use Rattle.lq_prover_differences.specs.Passes.{blank, vertex_at, order_at, values, nexts}
use Rattle.lq_prover_differences.proofs.Numbers.{element, large_fall, difference_read, under_step, under_more}
use Rattle.lq_prover_differences.proofs.pass.least.Goals as goal
use Rattle.lq_prover_differences.proofs.pass.least.Goals.{then-order-v-eq0+in_ok-fall+then-fall-lowest, then-order-v-eq0+in_ok-fall+else-fall-lowest, else-order-v-eq0}

pub returns-in_err-fall-clause-stop : goal.returns-in_err-fall-clause-stop
returns-in_err-fall-clause-stop c =
    let v : ℕ = get_or c.args.fallen.now c.loop-place.place 0 in
    let x : Vertex = get_or c.args.vertices.now v blank in
    let fn : FitsSigned w128 x.next = search rules in
    let fv : FitsSigned w128 x.kept.value = search rules in
    let was : c.from_residual.result ≡ Err c.in_err-fall.field-0.0 = search rules in
    rw was (λ arcs top gap count n pass g.
    c.in_err-fall.ensures.stop n (λ past. large_fall x.next x.kept.value gap n (pass.fell v) (pass.near v)
    (subst (λ z. ¬ (FitsSigned w128 z)) (difference_read x.next x.kept.value fn fv) past) g))

pub loop-place-preserved : goal.loop-place-preserved
loop-place-preserved c =
    let v : ℕ = get_or c.args.fallen.now c.loop-place.place 0 in
    let x : Vertex = get_or c.args.vertices.now v blank in
    let inside : v < length c.args.vertices.now = element c.args.fallen.now c.loop-place.place 0 _ c.loop-place-test.true (c.requires.inside c.loop-place.place) in
    let lowest : ℤ = to_z w128 c.loop-place.lowest-bits in
    let now : ℤ = to_z w128 c.if-order-v-eq0.lowest-bits in
    elim c.if-order-v-eq0.branch [
      | then-order-v-eq0+in_ok-fall+then-fall-lowest w ↦
          let fn : FitsSigned w128 x.next = search rules in
          let fv : FitsSigned w128 x.kept.value = search rules in
          let f : FitsSigned w128 w.in_ok-fall.fall = search rules in
          let h = w.if-fall-lowest.true in
          let e : w.in_ok-fall.fall ≡ x.next -ℤ x.kept.value = w.in_ok-fall.ensures.value ∙ difference_read x.next x.kept.value fn fv in
          let m : now ≡ w.in_ok-fall.fall = w.lowest-is ∙ omega (arith, ints) in
          let l : now ≤ℤ lowest = omega (arith, ints) in
          record {
            none = let z = c.loop-place.invariant.none in omega (arith, ints);
            below = below_more _ _ (λ t lt k o. under_more lowest now _ _ l (c.loop-place.invariant.below t lt k o)) (λ k o. under_step w.in_ok-fall.fall now x.next x.kept.value e m);
            some = λ neg. subst (λ i. (c.args.settled ≤ i) × (i < length c.args.fallen.now) × (order_at c.args.order.now (get_or c.args.fallen.now i 0) ≡ 0)
                × (now +ℤ values (vertex_at c.args.vertices.now) (get_or c.args.fallen.now i 0) ≡ nexts (vertex_at c.args.vertices.now) (get_or c.args.fallen.now i 0))) (sym w.found-is)
                (omega arith, c.loop-place-test.true, w.if-order-v-eq0.true, omega (arith, ints));
          }
      | then-order-v-eq0+in_ok-fall+else-fall-lowest w ↦
          let fn : FitsSigned w128 x.next = search rules in
          let fv : FitsSigned w128 x.kept.value = search rules in
          let f : FitsSigned w128 w.in_ok-fall.fall = search rules in
          let h = w.if-fall-lowest.false in
          let e : w.in_ok-fall.fall ≡ x.next -ℤ x.kept.value = w.in_ok-fall.ensures.value ∙ difference_read x.next x.kept.value fn fv in
          let l : now ≤ℤ lowest = let m = w.lowest-is in omega (arith, ints) in
          let u : (now +ℤ x.kept.value) ≤ℤ x.next = let m = w.lowest-is in omega (arith, ints) in
          record {
            none = let z = c.loop-place.invariant.none in let m = w.lowest-is in omega (arith, ints);
            below = below_more _ _ (λ t lt k o. under_more lowest now _ _ l (c.loop-place.invariant.below t lt k o)) (λ k o. u);
            some = rw (w.lowest-is, w.found-is) c.loop-place.invariant.some;
          }
      | else-order-v-eq0 w ↦
          let h = w.if-order-v-eq0.false in
          record {
            none = rw w.lowest-is c.loop-place.invariant.none;
            below = below_more _ _ (rw w.lowest-is c.loop-place.invariant.below) (λ k o. absurd (h o));
            some = rw (w.lowest-is, w.found-is) c.loop-place.invariant.some;
          }
    ]

pub bounds-order-v : goal.bounds-order-v
bounds-order-v c = let b = element c.args.fallen.now c.loop-place.place 0 _ c.loop-place-test.true (c.requires.inside c.loop-place.place) in omega (arith, c.requires.same)
