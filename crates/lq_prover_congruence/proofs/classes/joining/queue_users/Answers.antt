-- The users of each term of the ring are queued.
use Rattle.std.proofs.Common.{[], length, ◌∙◌, arith}
use Rattle.std.proofs.lemmas.List.{get_or_read}
use Rattle.lq_prover_congruence.proofs.ClassesLemmas.Walks.{in-room, more-users}
use Rattle.lq_prover_congruence.proofs.classes.joining.queue_users.Goals as goal

pub offset_bounds-uses-member : goal.offset_bounds-uses-member
offset_bounds-uses-member c =
    omega (
      arith,
      in-room c.into_iter-member-iterator.result c.walk-member-items.result c.loop-member.yielded c.loop-member.member-iterator c.next.new.self c.in-Some.member (length c.args.rings.now) (length c.args.uses.now)
          c.loop-member.yielded_by c.in-Some.ensures.steps c.into_iter-member-iterator.ensures.into_iter_gives c.walk-member-items.ensures.within c.requires.room,
    )

pub bounds-uses-member : goal.bounds-uses-member
bounds-uses-member c =
    in-room c.into_iter-member-iterator.result c.walk-member-items.result c.loop-member.yielded c.loop-member.member-iterator c.next.new.self c.in-Some.member (length c.args.rings.now) (length c.args.uses.now)
    c.loop-member.yielded_by c.in-Some.ensures.steps c.into_iter-member-iterator.ensures.into_iter_gives c.walk-member-items.ensures.within c.requires.room

pub loop-member-preserved : goal.loop-member-preserved
loop-member-preserved c =
    let bound = in-room c.into_iter-member-iterator.result c.walk-member-items.result c.loop-member.yielded c.loop-member.member-iterator c.next.new.self c.in-Some.member (length c.args.rings.now) (length c.args.uses.now)
    c.loop-member.yielded_by c.in-Some.ensures.steps c.into_iter-member-iterator.ensures.into_iter_gives c.walk-member-items.ensures.within c.requires.room in
    let listed = c.as_slice.ensures ∙ get_or_read c.args.uses.now c.in-Some.member c.index-uses-member.result bound c.index-uses-member.is [] in
    let both = more-users c.args.uses.now c.loop-member.yielded c.in-Some.member c.args.queue.now.items c.loop-member.queue.items c.as_slice.result.now c.extend_from_slice.new.self.items c.in_ok-extend_from_slice.ensures.items listed c.loop-member.invariant.2 c.loop-member.invariant.3 in
    (tt, tt, both.0, both.1)
