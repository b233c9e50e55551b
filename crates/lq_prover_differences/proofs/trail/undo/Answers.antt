use Rattle.std.proofs.Common.{◌≡◌, ◌<◌, ◌∙◌, ap, arith, length, drop, vec_len}
use Rattle.lq_prover_differences.specs.Passes.{vertex_at}
use Rattle.lq_prover_differences.specs.Links.{kept}
use Rattle.lq_prover_differences.specs.Trail.{first_of}
use Rattle.lq_prover_differences.proofs.Trails.{undone_one, shorter, last_below, below_before, front_before}
use Rattle.lq_prover_differences.proofs.trail.undo.Goals as goal

pub give_back-requires : goal.give_back-requires
give_back-requires c =
    let n = c.loop-trail.auto.vertices in
    let b = last_below c.loop-trail.trail.items c.pop.new.self.items c.in-Some.note (length c.args.vertices.now) c.in-Some.ensures.items c.loop-trail.invariant.below in
    omega arith

pub loop-trail-preserved-in-Some : goal.loop-trail-preserved-in-Some
loop-trail-preserved-in-Some c =
    let old = c.loop-trail.trail.items in
    let new = c.pop.new.self.items in
    let note = c.in-Some.note in
    let e = c.in-Some.ensures.items in
    let k : vec_len c.loop-trail.trail ≡ length old = c.loop-trail.trail.ok.0 in
    let l : c.args.to < length old = (let t = c.loop-trail-test.true in let m = c.len.ensures in omega arith) in
    record {
      capacity = c.pop.ensures.capacity ∙ c.loop-trail.invariant.capacity;
      within = shorter c.args.to old new note e l;
      front = front_before c.args.to old new note e l ∙ c.loop-trail.invariant.front;
      below = below_before old new note (length c.args.vertices.now) e c.loop-trail.invariant.below;
      back = λ v. ap (λ x. first_of (drop c.args.to new) v x) (c.give_back.ensures.back v)
          ∙ undone_one c.args.to old new note v (kept (vertex_at c.loop-trail.vertices) v) e l ∙ c.loop-trail.invariant.back v;
      rest = λ order h. c.give_back.ensures.rest order (c.loop-trail.invariant.rest order h);
    }

pub loop-trail-preserved : goal.loop-trail-preserved
loop-trail-preserved c =
    let t = c.loop-trail-test.true in let m = c.len.ensures in
    let y = c.in_default.ensures.cases in absurd (omega arith)
