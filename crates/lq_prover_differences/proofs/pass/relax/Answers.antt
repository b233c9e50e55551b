use Rattle.std.proofs.Common.{◌≡◌, ℕ, suc, ◌<◌, ◌≤◌, ◌-◌, length, pos, ◌+ℤ◌, ◌≤ℤ◌, ◌<ℤ◌, to_z, of_z, Err, FitsSigned, arith, rules, get_or, inr, refl, sym, ap, subst, ◌∙◌, false, slice_get, Some, IfSome}
use Rattle.std.specs.Int.{w128}
use Rattle.std.proofs.Math.IntN.{ℤ}
use Rattle.std.proofs.lemmas.Int.{ints, to_z-of_z}
use Rattle.std.proofs.lemmas.Option.{slice_get-get_or}
use Rattle.lq_prover_differences.proofs.Passing.{offer_falls, offer_kept, offers_end, offers_skip, settled_holds, offer_large}
use Rattle.lq_prover_differences.proofs.Numbers.{element, sum_read, less_read, least_read}
use Rattle.lq_prover_differences.specs.declared.arc.Arc.{Arc}
use Rattle.lq_prover_differences.specs.declared.vertex.Kept.{Kept}
use Rattle.lq_prover_differences.specs.declared.vertex.Vertex.{Vertex}
use Rattle.lq_prover_differences.specs.Links.{IsLatest}
use Rattle.lq_prover_differences.specs.Passes.{blank, vertex_at, order_at, nexts, Falls, IsClosing, IsPass}
use Rattle.lq_prover_differences.proofs.pass.relax.Goals as goal
use Rattle.lq_prover_differences.proofs.pass.relax.Goals.{then-offer-vertices+else-arc-top+then-order-arc-eq0, then-offer-vertices+else-arc-top+else-order-arc-eq0, else-offer-vertices}

abbrev none : Arc
none = record { tag = 0; from = 0; to = 0; cost = pos 0; forward = false }

pub loop-k-init : goal.loop-k-init
loop-k-init c = record {
  within = c.requires.last.within;
  from = c.requires.last.here;
  room = c.requires.room;
  capacity = refl;
  inside = c.requires.inside;
  front = λ n h. h;
  kept = λ v. refl;
  passes = λ gap count pass.
      offers_skip c.args.arcs.now c.args.top gap (vertex_at c.args.vertices.now) (order_at c.args.order.now) count c.args.at (length c.args.arcs.now) _ pass c.requires.last;
}

pub bounds-vertices-arc : goal.bounds-vertices-arc
bounds-vertices-arc c =
    let l : c.loop-k.k - 1 < length c.args.arcs.now = (let w = c.loop-k.invariant.within in let t = c.loop-k-test.true in omega arith) in
    let b = element c.args.arcs.now (c.loop-k.k - 1) none _ l (c.requires.in_range (c.loop-k.k - 1)) in let s = c.loop-k.auto.vertices in omega arith

pub bounds-order-arc : goal.bounds-order-arc
bounds-order-arc c =
    let l : c.loop-k.k - 1 < length c.args.arcs.now = (let w = c.loop-k.invariant.within in let t = c.loop-k-test.true in omega arith) in
    let b = element c.args.arcs.now (c.loop-k.k - 1) none _ l (c.requires.in_range (c.loop-k.k - 1)) in let s = c.requires.same in omega arith

pub fall-requires-clause-below : goal.fall-requires-clause-below
fall-requires-clause-below c =
    let k : ℕ = c.loop-k.k - 1 in
    let a : Arc = get_or c.args.arcs.now k none in
    let y : Vertex = get_or c.loop-k.vertices a.to blank in
    let fy : FitsSigned w128 y.next = search rules in
    let fo : FitsSigned w128 c.in_ok-offer.offer = search rules in
    let less : c.in_ok-offer.offer <ℤ y.next = less_read c.in_ok-offer.offer y.next fo fy c.if-offer-vertices.true in
    subst (λ z. z <ℤ y.next) (sym (to_z-of_z w128 c.in_ok-offer.offer fo)) less

pub fall-requires-clause-at_in : goal.fall-requires-clause-at_in
fall-requires-clause-at_in c =
    let l : c.loop-k.k - 1 < length c.args.arcs.now = (let w = c.loop-k.invariant.within in let t = c.loop-k-test.true in omega arith) in
    let b = element c.args.arcs.now (c.loop-k.k - 1) none _ l (c.requires.in_range (c.loop-k.k - 1)) in let s = c.loop-k.auto.vertices in omega arith

pub offset_bounds-vertices-arc : goal.offset_bounds-vertices-arc
offset_bounds-vertices-arc c =
    let l : c.loop-k.k - 1 < length c.args.arcs.now = (let w = c.loop-k.invariant.within in let t = c.loop-k-test.true in omega arith) in
    let b = element c.args.arcs.now (c.loop-k.k - 1) none _ l (c.requires.in_range (c.loop-k.k - 1)) in
    let s = c.loop-k.auto.vertices in
    let m : (get_or c.args.arcs.now (c.loop-k.k - 1) none).to < length c.loop-k.vertices = omega arith in
    search rules

pub offset_bounds-order-arc : goal.offset_bounds-order-arc
offset_bounds-order-arc c =
    let l : c.loop-k.k - 1 < length c.args.arcs.now = (let w = c.loop-k.invariant.within in let t = c.loop-k-test.true in omega arith) in
    let b = element c.args.arcs.now (c.loop-k.k - 1) none _ l (c.requires.in_range (c.loop-k.k - 1)) in
    let s = c.requires.same in
    let m : (get_or c.args.arcs.now (c.loop-k.k - 1) none).to < length c.args.order.now = omega arith in
    search rules

pub returns-in_err-offer-clause-stop : goal.returns-in_err-offer-clause-stop
returns-in_err-offer-clause-stop c =
    let k : ℕ = c.loop-k.k - 1 in
    let e : c.loop-k.k ≡ suc k = (let t = c.loop-k-test.true in omega arith) in
    let l : k < length c.args.arcs.now = (let w = c.loop-k.invariant.within in omega arith) in
    let a : Arc = get_or c.args.arcs.now k none in
    let x : Vertex = get_or c.loop-k.vertices c.args.at blank in
    let fn : FitsSigned w128 x.next = search rules in
    let fc : FitsSigned w128 a.cost = search rules in
    let from : a.from ≡ c.args.at = element c.args.arcs.now k none _ l (c.loop-k.invariant.from k e) in
    let was : c.from_residual.result ≡ Err c.in_err-offer.field-0.0 = search rules in
    rw was (λ gap count n pass sized. c.in_err-offer.ensures.stop n (λ past.
    offer_large c.args.arcs.now c.args.top gap (vertex_at c.args.vertices.now) (vertex_at c.loop-k.vertices) (order_at c.args.order.now) count n c.args.at k c.loop-k.k a
    (c.loop-k.invariant.passes gap count pass) (λ t. ap (λ (q : Kept). q.value) (c.loop-k.invariant.kept t)) (slice_get-get_or c.args.arcs.now k none l) from c.requires.settled sized
    (subst (λ z. ¬ (FitsSigned w128 z)) (sum_read x.next a.cost fn fc) past)))

pub returns-then-arc-top-clause-stuck : goal.returns-then-arc-top-clause-stuck
returns-then-arc-top-clause-stuck c = λ gap count pass.
    let k : ℕ = c.loop-k.k - 1 in
    let e : c.loop-k.k ≡ suc k = (let t = c.loop-k-test.true in omega arith) in
    let l : k < length c.args.arcs.now = (let w = c.loop-k.invariant.within in omega arith) in
    let a : Arc = get_or c.args.arcs.now k none in
    let x : Vertex = get_or c.loop-k.vertices c.args.at blank in
    let y : Vertex = get_or c.loop-k.vertices a.to blank in
    let fn : FitsSigned w128 x.next = search rules in
    let fy : FitsSigned w128 y.next = search rules in
    let fc : FitsSigned w128 a.cost = search rules in
    let fo : FitsSigned w128 c.in_ok-offer.offer = search rules in
    let from : a.from ≡ c.args.at = element c.args.arcs.now k none _ l (c.loop-k.invariant.from k e) in
    let to : a.to ≡ c.args.top = c.if-arc-top.true in
    let at : slice_get c.args.arcs.now k ≡ Some a = slice_get-get_or c.args.arcs.now k none l in
    let value : c.in_ok-offer.offer ≡ x.next +ℤ a.cost = c.in_ok-offer.ensures.value ∙ sum_read x.next a.cost fn fc in
    let less : c.in_ok-offer.offer <ℤ y.next = less_read c.in_ok-offer.offer y.next fo fy c.if-offer-vertices.true in
    let s = vertex_at c.loop-k.vertices in
    let now = c.loop-k.invariant.passes gap count pass in
    record {
      caused = now.caused;
      lowered = now.lowered;
      top_out = now.top_out;
      closes = subst (λ o. IfSome o (IsClosing c.args.top s (order_at c.args.order.now))) (sym at) (record {
        to = to;
        source = inr (subst (λ v. 0 < order_at c.args.order.now v) (sym from) c.requires.settled);
        falls = let e : nexts s a.from ≡ x.next = ap (nexts s) from in let f : nexts s a.to ≡ nexts s c.args.top = ap (nexts s) to in omega (arith, ints);
      });
      is_arc = l;
    }

pub loop-k-smaller : goal.loop-k-smaller
loop-k-smaller c =
    let k : ℕ = c.loop-k.k - 1 in
    let l : k < length c.args.arcs.now = (let w = c.loop-k.invariant.within in let t = c.loop-k-test.true in omega arith) in
    let a : Arc = get_or c.args.arcs.now k none in
    let latest : IsLatest c.args.arcs.now a.from k (get_or c.args.links.now k 0) = element c.args.arcs.now k none (λ (b : Arc). IsLatest c.args.arcs.now b.from k (get_or c.args.links.now k 0)) l (c.requires.linked.before k) in
    let w = latest.within in let t = c.loop-k-test.true in omega arith

pub loop-k-preserved : goal.loop-k-preserved
loop-k-preserved c =
    let arcs = c.args.arcs.now in
    let k : ℕ = c.loop-k.k - 1 in
    let e : c.loop-k.k ≡ suc k = (let t = c.loop-k-test.true in omega arith) in
    let l : k < length arcs = (let w = c.loop-k.invariant.within in omega arith) in
    let a : Arc = get_or arcs k none in
    let s = vertex_at c.loop-k.vertices in
    let order = order_at c.args.order.now in
    let at : slice_get arcs k ≡ Some a = slice_get-get_or arcs k none l in
    let from : a.from ≡ c.args.at = element arcs k none _ l (c.loop-k.invariant.from k e) in
    let link : ℕ = get_or c.args.links.now k 0 in
    let latest : IsLatest arcs c.args.at k link = subst (λ v. IsLatest arcs v k link) from (element arcs k none (λ (b : Arc). IsLatest arcs b.from k link) l (c.requires.linked.before k)) in
    let within : link ≤ length arcs = (let w = latest.within in omega arith) in
    let x : Vertex = get_or c.loop-k.vertices c.args.at blank in
    let y : Vertex = get_or c.loop-k.vertices a.to blank in
    elim c.if-offer-vertices.branch [
      | then-offer-vertices+else-arc-top+then-order-arc-eq0 w ↦
          let fn : FitsSigned w128 x.next = search rules in
          let fy : FitsSigned w128 y.next = search rules in
          let fc : FitsSigned w128 a.cost = search rules in
          let fo : FitsSigned w128 c.in_ok-offer.offer = search rules in
          let value : c.in_ok-offer.offer ≡ x.next +ℤ a.cost = c.in_ok-offer.ensures.value ∙ sum_read x.next a.cost fn fc in
          let less : c.in_ok-offer.offer <ℤ y.next = less_read c.in_ok-offer.offer y.next fo fy w.if-offer-vertices.true in
          let o : ℤ = to_z w128 (of_z w128 c.in_ok-offer.offer) in
          let oe : o ≡ c.in_ok-offer.offer = to_z-of_z w128 c.in_ok-offer.offer fo in
          let fall : Falls s (vertex_at w.fall.new.vertices) a.to k o = w.fall.ensures.falls in
          rw (w.vertices-is, w.fallen-is) record {
            within = within;
            from = latest.here;
            room = w.fall.ensures.room;
            capacity = w.fall.ensures.capacity ∙ c.loop-k.invariant.capacity;
            inside = w.fall.ensures.inside;
            front = λ n h. w.fall.ensures.front order n (c.loop-k.invariant.front n h);
            kept = λ v. w.fall.ensures.kept v ∙ c.loop-k.invariant.kept v;
            passes = λ gap count pass. offers_skip arcs c.args.top gap (vertex_at w.fall.new.vertices) order count c.args.at k link
                (offer_falls arcs c.args.top gap s _ order count c.args.at k a o (subst (λ n. IsPass arcs c.args.top gap s order count c.args.at n) e (c.loop-k.invariant.passes gap count pass))
                at from c.requires.settled w.if-order-arc-eq0.true w.if-arc-top.false (oe ∙ value) (subst (λ z. z <ℤ y.next) (sym oe) less) fall) latest;
          }
      | then-offer-vertices+else-arc-top+else-order-arc-eq0 w ↦ rw (w.vertices-is, w.fallen-is) record {
        within = within;
        from = latest.here;
        room = c.loop-k.invariant.room;
        capacity = c.loop-k.invariant.capacity;
        inside = c.loop-k.invariant.inside;
        front = c.loop-k.invariant.front;
        kept = c.loop-k.invariant.kept;
        passes = λ gap count pass. let now = subst (λ n. IsPass arcs c.args.top gap s order count c.args.at n) e (c.loop-k.invariant.passes gap count pass) in
            offers_skip arcs c.args.top gap s order count c.args.at k link
            (offer_kept arcs c.args.top gap s order count c.args.at k a now at
            (λ f. settled_holds arcs c.args.top gap s order count c.args.at k (suc k) a now at f c.requires.settled (let z = w.if-order-arc-eq0.false in omega arith))) latest;
      }
      | else-offer-vertices w ↦
          let fn : FitsSigned w128 x.next = search rules in
          let fy : FitsSigned w128 y.next = search rules in
          let fc : FitsSigned w128 a.cost = search rules in
          let fo : FitsSigned w128 c.in_ok-offer.offer = search rules in
          let value : c.in_ok-offer.offer ≡ x.next +ℤ a.cost = c.in_ok-offer.ensures.value ∙ sum_read x.next a.cost fn fc in
          let less : y.next ≤ℤ c.in_ok-offer.offer = least_read c.in_ok-offer.offer y.next fo fy w.if-offer-vertices.false in
          rw (w.vertices-is, w.fallen-is) record {
            within = within;
            from = latest.here;
            room = c.loop-k.invariant.room;
            capacity = c.loop-k.invariant.capacity;
            inside = c.loop-k.invariant.inside;
            front = c.loop-k.invariant.front;
            kept = c.loop-k.invariant.kept;
            passes = λ gap count pass.
                offers_skip arcs c.args.top gap s order count c.args.at k link
                (offer_kept arcs c.args.top gap s order count c.args.at k a (subst (λ n. IsPass arcs c.args.top gap s order count c.args.at n) e (c.loop-k.invariant.passes gap count pass)) at
                (λ h. let f : nexts s a.from ≡ x.next = ap (nexts s) h in omega (arith, ints))) latest;
          }
    ]

pub returns-clause-offered : goal.returns-clause-offered
returns-clause-offered c = λ gap count pass.
    let z : c.loop-k.k ≡ 0 = (let t = c.loop-k-test.false in omega arith) in
    offers_end c.args.arcs.now c.args.top gap (vertex_at c.loop-k.vertices) (order_at c.args.order.now) count c.args.at
    (subst (λ n. IsPass c.args.arcs.now c.args.top gap (vertex_at c.loop-k.vertices) (order_at c.args.order.now) count c.args.at n) z (c.loop-k.invariant.passes gap count pass))
