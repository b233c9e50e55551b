use Rattle.std.proofs.Common.{rules, Err, ◌≡◌, ◌∙◌, ◌++◌, ℕ, pos, arith, refl, sym, subst, length, get_or, false}
use Rattle.lq_prover_differences.specs.declared.arc.Edge.{Edge}
use Rattle.lq_prover_differences.specs.declared.graph.Start.{Start}
use Rattle.lq_prover_differences.specs.Cycles.{IsNegativeCycle}
use Rattle.lq_prover_differences.specs.Edges.{arcs_by, sizes}
use Rattle.lq_prover_differences.specs.Graphs.{admitted}
use Rattle.lq_prover_differences.specs.Table.{IsStanding}
use Rattle.lq_prover_differences.proofs.Rows.{next_in_range, next_paired, next_bounded, size_one, standing_admitted, standing_closed, standing_still, admitted_more, admitted_same, has_place, room_on, room_then, room_same}
use Rattle.lq_prover_differences.proofs.table.catch_up.Goals as goal

abbrev none : Edge
none = record { tag = 0; from = 0; to = 0; weight = pos 0; equal = false }

pub loop-at-init : goal.loop-at-init
loop-at-init c = record {
  standing = subst (λ b. IsStanding c.args.edges.now c.args.graph.now b c.args.found.now.items) c.requires.no_conflict c.requires.standing;
  no_conflict = c.requires.no_conflict;
  more = omega arith;
  vertices = refl;
  room = room_same c.args.graph.now;
  capacity = refl;
}

pub returns-then-at-edges-clause-standing : goal.returns-then-at-edges-clause-standing
returns-then-at-edges-clause-standing c = subst (λ b. IsStanding c.args.edges.now c.loop-at.graph b c.loop-at.found.items) (sym c.loop-at.invariant.no_conflict) c.loop-at.invariant.standing

pub admit-requires-clause-in_range : goal.admit-requires-clause-in_range
admit-requires-clause-in_range c =
    next_in_range c.args.edges.now c.make_room.new.self.arcs.items c.loop-at.graph c.loop-at.found.items c.admitted-at.result (length c.make_room.new.self.vertices.items) none c.loop-at.invariant.standing c.admitted-at.ensures
    (let r = c.loop-at.invariant.standing.rows in let f = c.if-at-edges.false in omega (arith, c.admitted-at.ensures)) c.make_room.ensures.arcs c.make_room.ensures.vertices

pub admit-requires-clause-paired : goal.admit-requires-clause-paired
admit-requires-clause-paired c =
    next_paired c.args.edges.now c.make_room.new.self.arcs.items c.loop-at.graph c.loop-at.found.items c.admitted-at.result none c.loop-at.invariant.standing c.admitted-at.ensures
    (let r = c.loop-at.invariant.standing.rows in let f = c.if-at-edges.false in omega (arith, c.admitted-at.ensures)) c.make_room.ensures.arcs

pub admit-requires-clause-place : goal.admit-requires-clause-place
admit-requires-clause-place c =
    let roomy : IsStanding c.args.edges.now c.make_room.new.self false c.loop-at.found.items =
    standing_still c.args.edges.now c.loop-at.graph c.make_room.new.self false c.loop-at.found.items c.loop-at.found.items c.loop-at.invariant.standing c.make_room.ensures.graph c.make_room.ensures.vertices
    c.make_room.ensures.arcs c.make_room.ensures.admitted c.make_room.ensures.starts (λ q. absurd (cc)) in
    has_place c.args.edges.now c.make_room.new.self false c.loop-at.found.items roomy
    (room_on c.args.graph.now c.make_room.new.self (length c.args.edges.now) (room_then c.args.graph.now c.loop-at.graph c.make_room.new.self c.loop-at.invariant.room c.make_room.ensures.room)
    (c.make_room.ensures.vertices ∙ c.loop-at.invariant.vertices) c.requires.room) c.make_room.ensures.notable
    (let r = c.loop-at.invariant.standing.rows in let f = c.if-at-edges.false in omega (arith, c.admitted-at.ensures, c.make_room.ensures.admitted))

pub returns-in_err-admit-clause-standing : goal.returns-in_err-admit-clause-standing
returns-in_err-admit-clause-standing c =
    let roomy : IsStanding c.args.edges.now c.make_room.new.self false c.loop-at.found.items =
    standing_still c.args.edges.now c.loop-at.graph c.make_room.new.self false c.loop-at.found.items c.loop-at.found.items c.loop-at.invariant.standing c.make_room.ensures.graph c.make_room.ensures.vertices
    c.make_room.ensures.arcs c.make_room.ensures.admitted c.make_room.ensures.starts (λ q. absurd (cc)) in
    let starts = c.in_err-admit.ensures.refused_starts in
    subst (λ b. IsStanding c.args.edges.now c.admit.new.self b c.admit.new.found.items) (sym c.loop-at.invariant.no_conflict)
    (standing_still c.args.edges.now c.make_room.new.self c.admit.new.self false c.loop-at.found.items c.admit.new.found.items roomy c.admit.ensures.graph c.admit.ensures.vertices
    c.in_err-admit.ensures.refused_arcs (admitted_same c.make_room.new.self c.admit.new.self starts c.admit.ensures.base) (λ n. (starts, c.admit.ensures.base)) (λ q. absurd (cc)))

pub returns-in_err-admit-clause-no_conflict : goal.returns-in_err-admit-clause-no_conflict
returns-in_err-admit-clause-no_conflict c =
    let was : c.from_residual.result ≡ Err c.in_err-admit.field-0.0 = search rules in
    rw was c.loop-at.invariant.no_conflict

pub returns-in_err-admit-clause-stop : goal.returns-in_err-admit-clause-stop
returns-in_err-admit-clause-stop c =
    let was : c.from_residual.result ≡ Err c.in_err-admit.field-0.0 = search rules in
    rw was (c.in_err-admit.ensures.stop (sizes c.args.edges.now)
    (next_bounded c.args.edges.now c.make_room.new.self.arcs.items c.loop-at.graph c.loop-at.found.items c.admitted-at.result none c.loop-at.invariant.standing c.admitted-at.ensures
    (let r = c.loop-at.invariant.standing.rows in let f = c.if-at-edges.false in omega (arith, c.admitted-at.ensures)) c.make_room.ensures.arcs)
    (size_one c.args.edges.now c.admitted-at.result none (let r = c.loop-at.invariant.standing.rows in let f = c.if-at-edges.false in omega (arith, c.admitted-at.ensures))))

pub returns-then-branch-clause-standing : goal.returns-then-branch-clause-standing
returns-then-branch-clause-standing c =
    let roomy : IsStanding c.args.edges.now c.make_room.new.self false c.loop-at.found.items =
    standing_still c.args.edges.now c.loop-at.graph c.make_room.new.self false c.loop-at.found.items c.loop-at.found.items c.loop-at.invariant.standing c.make_room.ensures.graph c.make_room.ensures.vertices
    c.make_room.ensures.arcs c.make_room.ensures.admitted c.make_room.ensures.starts (λ q. absurd (cc)) in
    let at : c.admitted-at.result ≡ admitted c.make_room.new.self = c.admitted-at.ensures ∙ sym c.make_room.ensures.admitted in
    standing_closed c.args.edges.now c.make_room.new.self c.admit.new.self c.loop-at.found.items c.admit.new.found.items none roomy
    (let r = c.loop-at.invariant.standing.rows in let f = c.if-at-edges.false in omega (arith, at)) c.admit.ensures.graph c.admit.ensures.vertices
    (c.in_ok-admit.ensures.same_arcs c.if-branch.true) (c.in_ok-admit.ensures.same_starts c.if-branch.true) c.admit.ensures.base
    (subst (λ (n : ℕ). IsNegativeCycle (c.make_room.new.self.arcs.items ++ arcs_by (get_or c.args.edges.now n none) (get_or c.args.edges.now n none).equal) c.admit.new.found.items) at
    (c.in_ok-admit.ensures.cycle c.if-branch.true))

pub loop-at-preserved : goal.loop-at-preserved
loop-at-preserved c =
    let roomy : IsStanding c.args.edges.now c.make_room.new.self false c.loop-at.found.items =
    standing_still c.args.edges.now c.loop-at.graph c.make_room.new.self false c.loop-at.found.items c.loop-at.found.items c.loop-at.invariant.standing c.make_room.ensures.graph c.make_room.ensures.vertices
    c.make_room.ensures.arcs c.make_room.ensures.admitted c.make_room.ensures.starts (λ q. absurd (cc)) in
    let at : c.admitted-at.result ≡ admitted c.make_room.new.self = c.admitted-at.ensures ∙ sym c.make_room.ensures.admitted in
    let start : Start = record { arcs = length c.make_room.new.self.arcs.items; trail = length c.make_room.new.self.trail.items } in
    let starts = c.in_ok-admit.ensures.starts c.if-branch.false in
    let more = admitted_more c.make_room.new.self c.admit.new.self start starts c.admit.ensures.base in
    record {
      standing = standing_admitted c.args.edges.now c.make_room.new.self c.admit.new.self c.loop-at.found.items c.admit.new.found.items none start roomy
          (let r = c.loop-at.invariant.standing.rows in let f = c.if-at-edges.false in omega (arith, at)) c.admit.ensures.graph c.admit.ensures.vertices
          (subst (λ (n : ℕ). c.admit.new.self.arcs.items ≡ c.make_room.new.self.arcs.items ++ arcs_by (get_or c.args.edges.now n none) (get_or c.args.edges.now n none).equal) at
          (c.in_ok-admit.ensures.arcs c.if-branch.false)) starts c.admit.ensures.base refl;
      no_conflict = c.loop-at.invariant.no_conflict;
      more = let m = c.loop-at.invariant.more in omega (arith, more, c.make_room.ensures.admitted);
      vertices = c.admit.ensures.vertices ∙ c.make_room.ensures.vertices ∙ c.loop-at.invariant.vertices;
      room = room_then c.args.graph.now c.make_room.new.self c.admit.new.self (room_then c.args.graph.now c.loop-at.graph c.make_room.new.self c.loop-at.invariant.room c.make_room.ensures.room) c.admit.ensures.room;
      capacity = c.admit.ensures.capacity ∙ c.loop-at.invariant.capacity;
    }
