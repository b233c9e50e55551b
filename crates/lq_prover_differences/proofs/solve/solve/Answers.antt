use Rattle.std.proofs.Common.{◌∙◌, ◌+◌, subst, arith, length, vec_capacity}
use Rattle.lq_prover_differences.specs.Passes.{vertex_at, order_at, touched}
use Rattle.lq_prover_differences.specs.Links.{kept}
use Rattle.lq_prover_differences.specs.Trail.{IsTrailed}
use Rattle.lq_prover_differences.proofs.Placing.{pair_within}
use Rattle.lq_prover_differences.proofs.Trails.{trailed_then}
use Rattle.lq_prover_differences.proofs.Rooms.{notes_one, notes_two, notes_now}
use Rattle.lq_prover_differences.proofs.solve.solve.Goals as goal

pub returns-in_err-admit_two-clause-trailed : goal.returns-in_err-admit_two-clause-trailed
returns-in_err-admit_two-clause-trailed c =
    trailed_then (length c.args.vertices.now) c.args.trail.now.items c.loop-k.trail.items c.admit_two.new.trail.items (kept (vertex_at c.args.vertices.now)) (kept (vertex_at c.loop-k.vertices)) (kept (vertex_at c.admit_two.new.vertices))
    c.loop-k.invariant.trailed
    (subst (λ n. IsTrailed n c.loop-k.trail.items c.admit_two.new.trail.items (kept (vertex_at c.loop-k.vertices)) (kept (vertex_at c.admit_two.new.vertices))) c.loop-k.auto.vertices c.admit_two.ensures.trailed)

pub loop-k-preserved-in-Some : goal.loop-k-preserved-in-Some
loop-k-preserved-in-Some c = record {
  within = let w = pair_within c.args.arcs.now c.loop-k.k (touched (vertex_at c.loop-k.vertices)) c.in-Some.arc c.in-Some.ensures in omega arith;
  beyond = let b = c.loop-k.invariant.beyond in omega arith;
  notable = notes_two (length c.args.arcs.now) c.loop-k.k (vec_capacity c.loop-k.fallen + 2) (length c.loop-k.trail.items) (length c.admit_two.new.trail.items) (vec_capacity c.loop-k.trail) (vec_capacity c.admit_two.new.trail)
      (let w = pair_within c.args.arcs.now c.loop-k.k (touched (vertex_at c.loop-k.vertices)) c.in-Some.arc c.in-Some.ensures in omega arith) (omega arith) c.loop-k.invariant.notable c.admit_two.ensures.noted
      c.admit_two.ensures.trail_capacity;
  capacity = c.loop-k.invariant.capacity;
  trail_capacity = c.admit_two.ensures.trail_capacity ∙ c.loop-k.invariant.trail_capacity;
  same = let n = c.admit_two.auto.links in n ∙ c.loop-k.invariant.same;
  reached = c.in_ok-admit_two.ensures.reached;
  trailed = trailed_then (length c.args.vertices.now) c.args.trail.now.items c.loop-k.trail.items c.admit_two.new.trail.items (kept (vertex_at c.args.vertices.now)) (kept (vertex_at c.loop-k.vertices)) (kept (vertex_at c.admit_two.new.vertices))
      c.loop-k.invariant.trailed
      (subst (λ n. IsTrailed n c.loop-k.trail.items c.admit_two.new.trail.items (kept (vertex_at c.loop-k.vertices)) (kept (vertex_at c.admit_two.new.vertices))) c.loop-k.auto.vertices c.admit_two.ensures.trailed);
  before = λ j l. c.admit_two.ensures.before j (let b = c.loop-k.invariant.beyond in omega arith) ∙ c.loop-k.invariant.before j l;
  rest = c.admit_two.ensures.rest (order_at c.loop-k.order) c.loop-k.invariant.rest;
  empty = c.loop-k.invariant.empty;
}

pub returns-in_err-closing-clause-trailed : goal.returns-in_err-closing-clause-trailed
returns-in_err-closing-clause-trailed c =
    trailed_then (length c.args.vertices.now) c.args.trail.now.items c.loop-k.trail.items c.admit_one.new.trail.items (kept (vertex_at c.args.vertices.now)) (kept (vertex_at c.loop-k.vertices)) (kept (vertex_at c.admit_one.new.vertices))
    c.loop-k.invariant.trailed
    (subst (λ n. IsTrailed n c.loop-k.trail.items c.admit_one.new.trail.items (kept (vertex_at c.loop-k.vertices)) (kept (vertex_at c.admit_one.new.vertices))) c.loop-k.auto.vertices c.admit_one.ensures.trailed)

pub returns-in-Some-2-clause-trailed : goal.returns-in-Some-2-clause-trailed
returns-in-Some-2-clause-trailed c =
    trailed_then (length c.args.vertices.now) c.args.trail.now.items c.loop-k.trail.items c.admit_one.new.trail.items (kept (vertex_at c.args.vertices.now)) (kept (vertex_at c.loop-k.vertices)) (kept (vertex_at c.admit_one.new.vertices))
    c.loop-k.invariant.trailed
    (subst (λ n. IsTrailed n c.loop-k.trail.items c.admit_one.new.trail.items (kept (vertex_at c.loop-k.vertices)) (kept (vertex_at c.admit_one.new.vertices))) c.loop-k.auto.vertices c.admit_one.ensures.trailed)

pub loop-k-preserved : goal.loop-k-preserved
loop-k-preserved c = record {
  within = let t = c.loop-k-test.true in omega arith;
  beyond = let b = c.loop-k.invariant.beyond in omega arith;
  notable = notes_one (length c.args.arcs.now) c.loop-k.k (vec_capacity c.loop-k.fallen) (vec_capacity c.admit_one.new.fallen) (length c.loop-k.trail.items) (length c.admit_one.new.trail.items) (vec_capacity c.loop-k.trail)
      (vec_capacity c.admit_one.new.trail) c.loop-k-test.true c.loop-k.invariant.notable c.admit_one.ensures.noted c.admit_one.ensures.capacity c.admit_one.ensures.trail_capacity;
  capacity = c.admit_one.ensures.capacity ∙ c.loop-k.invariant.capacity;
  trail_capacity = c.admit_one.ensures.trail_capacity ∙ c.loop-k.invariant.trail_capacity;
  same = let n = c.admit_one.auto.links in n ∙ c.loop-k.invariant.same;
  reached = rw c.in_default-2.is at c.in_ok-closing.ensures.reached;
  trailed = trailed_then (length c.args.vertices.now) c.args.trail.now.items c.loop-k.trail.items c.admit_one.new.trail.items (kept (vertex_at c.args.vertices.now)) (kept (vertex_at c.loop-k.vertices)) (kept (vertex_at c.admit_one.new.vertices))
      c.loop-k.invariant.trailed
      (subst (λ n. IsTrailed n c.loop-k.trail.items c.admit_one.new.trail.items (kept (vertex_at c.loop-k.vertices)) (kept (vertex_at c.admit_one.new.vertices))) c.loop-k.auto.vertices c.admit_one.ensures.trailed);
  before = λ j l. c.admit_one.ensures.before j (let b = c.loop-k.invariant.beyond in omega arith) ∙ c.loop-k.invariant.before j l;
  rest = rw c.in_default-2.is at c.in_ok-closing.ensures.rest;
  empty = rw c.in_default-2.is at c.in_ok-closing.ensures.empty;
}

pub admit_one-requires-clause-notable : goal.admit_one-requires-clause-notable
admit_one-requires-clause-notable c =
    notes_now (length c.args.arcs.now) c.loop-k.k (vec_capacity c.loop-k.fallen + 2) (length c.loop-k.trail.items) (vec_capacity c.loop-k.trail) c.loop-k-test.true c.loop-k.invariant.notable

pub admit_two-requires-clause-notable : goal.admit_two-requires-clause-notable
admit_two-requires-clause-notable c =
    let n = notes_now (length c.args.arcs.now) c.loop-k.k (vec_capacity c.loop-k.fallen + 2) (length c.loop-k.trail.items) (vec_capacity c.loop-k.trail) c.loop-k-test.true c.loop-k.invariant.notable in omega arith

pub admit_one-requires-clause-room : goal.admit_one-requires-clause-room
admit_one-requires-clause-room c = let v = c.loop-k.auto.vertices in let r = c.requires.room in let k = c.loop-k.invariant.capacity in omega arith
