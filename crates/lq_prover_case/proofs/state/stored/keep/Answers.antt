use Rattle.std.proofs.Common.{◌≡◌, Some, slice_get}
use Rattle.lq_prover_case.proofs.StateLemmas.Keeping.{kept_first, read_at, stay_within}
use Rattle.lq_prover_case.proofs.state.stored.keep.Goals as goal

pub overflow_sub-count : goal.overflow_sub-count
overflow_sub-count c =
    let at : slice_get c.args.rows.now.items c.args.count ≡ Some c.in-Some.first.now =
    read_at c.deref.result.now c.args.rows.now.items c.args.count c.in-Some.first.now c.deref.ensures.value c.in-Some.ensures.lookup.3.0 c.in-Some.ensures.lookup.1 in
    (stay_within c.args.rows.now.items c.args.odd.now.items c.args.distances.now c.args.count c.in-Some.first.now c.requires.kept at c.requires.within).0

pub back_to-requires : goal.back_to-requires
back_to-requires c =
    let at : slice_get c.args.rows.now.items c.args.count ≡ Some c.in-Some.first.now =
    read_at c.deref.result.now c.args.rows.now.items c.args.count c.in-Some.first.now c.deref.ensures.value c.in-Some.ensures.lookup.3.0 c.in-Some.ensures.lookup.1 in
    (stay_within c.args.rows.now.items c.args.odd.now.items c.args.distances.now c.args.count c.in-Some.first.now c.requires.kept at c.requires.within).1

pub returns-in-Some-clause-kept : goal.returns-in-Some-clause-kept
returns-in-Some-clause-kept c =
    let at : slice_get c.args.rows.now.items c.args.count ≡ Some c.in-Some.first.now =
    read_at c.deref.result.now c.args.rows.now.items c.args.count c.in-Some.first.now c.deref.ensures.value c.in-Some.ensures.lookup.3.0 c.in-Some.ensures.lookup.1 in
    kept_first c.args.rows.now.items c.truncate-in-Some.new.self.items c.args.odd.now.items c.truncate.new.self.items c.args.distances.now c.back_to.new.self c.args.count c.in-Some.first.now
    c.requires.kept at c.requires.within c.truncate-in-Some.ensures.items c.truncate.ensures.items c.back_to.ensures.limits c.back_to.ensures.stands (λ h. absurd (cc (h, c.back_to.ensures.last)))
