use Rattle.std.proofs.Common.{◌≡◌, ◌∙◌, arith, length, vec_len}
use Rattle.lq_prover_differences.specs.Passes.{vertex_at}
use Rattle.lq_prover_differences.specs.Links.{kept}
use Rattle.lq_prover_differences.proofs.Trails.{notes_more}
use Rattle.lq_prover_differences.proofs.trail.note_all.Goals as goal

pub loop-place-preserved : goal.loop-place-preserved
loop-place-preserved c =
    let a : vec_len c.loop-place.trail ≡ length c.loop-place.trail.items = c.loop-place.trail.ok.0 in
    let b : vec_len c.push_reserved.new.self ≡ length c.push_reserved.new.self.items = c.push_reserved.new.self.ok.0 in
    record {
      noted = notes_more (kept (vertex_at c.args.vertices.now)) c.args.trail.now.items c.loop-place.trail.items c.push_reserved.new.self.items c.args.places.now c.loop-place.place-index c.loop-place-test.true
          c.loop-place.invariant.noted c.push_reserved.ensures.items;
      count = omega (arith, a, b, c.push_reserved.ensures.len, c.loop-place.invariant.count);
      capacity = c.push_reserved.ensures.capacity ∙ c.loop-place.invariant.capacity;
    }

pub push_reserved-requires : goal.push_reserved-requires
push_reserved-requires c =
    let a : vec_len c.loop-place.trail ≡ length c.loop-place.trail.items = c.loop-place.trail.ok.0 in
    omega (arith, a, c.loop-place.invariant.count, c.loop-place.invariant.capacity, c.requires.room, c.loop-place-test.true)
