use Rattle.std.proofs.Common.{◌∙◌, ◌≤◌, refl, ap, length, arith}
use Rattle.std.proofs.lemmas.List.{length-take}
use Rattle.lq_prover_differences.specs.Edges.{standing_of}
use Rattle.lq_prover_differences.proofs.Rows.{standing_taken, standing_length, room_on}
use Rattle.lq_prover_differences.proofs.table.DistanceTableLinearEngine.back_to.Goals as goal

pub go_back-requires-clause-within : goal.go_back-requires-clause-within
go_back-requires-clause-within c =
    let r : c.args.mark.0 ≤ length (standing_of c.self.inside.edges.items) = rw (← c.self.view_is) at c.requires in
    let n = standing_length c.self.inside.edges.items in omega arith

pub invariant_of-self : goal.invariant_of-self
invariant_of-self c = record {
  fits = c.self.invariant.fits;
  same = refl;
  sized = c.go_back.ensures.vertices ∙ c.self.invariant.sized;
  standing = c.go_back.ensures.standing;
  decided = c.go_back.ensures.decided;
  few = let f = c.self.invariant.few in let n = ap length c.go_back.ensures.edges in let k = length-take c.args.mark.0 c.self.inside.edges.items in omega arith;
  place = let p = c.self.invariant.place in let e = c.go_back.ensures.place in omega arith;
  room = room_on c.self.inside.graph c.go_back.new.graph c.self.inside.rows c.go_back.ensures.room c.go_back.ensures.vertices c.self.invariant.room;
  steps = let s = c.self.invariant.steps in let e = c.go_back.ensures.capacity in omega arith;
  all = λ e. absurd (cc);
  fit = λ e. absurd (cc);
  solved = λ e. absurd (cc);
  contradicted = λ e. absurd (cc);
}

pub returns-clause-stands : goal.returns-clause-stands
returns-clause-stands c = rw (← c.self.view_is) (ap standing_of c.go_back.ensures.edges ∙ standing_taken c.args.mark.0 c.self.inside.edges.items)
