use Rattle.std.proofs.Common.{◌+◌, map, refl, subst}
use Rattle.lq_text_walk.specs.Scoped.Views.{data_view}
use Rattle.lq_text_walk.specs.Scoped.Whole.{scoped_view}
use Rattle.lq_types_infer.specs.declared.inference.program.Program.{Program}
use Rattle.lq_types_infer.specs.Inference.Programs.{IsAttempt}
use Rattle.lq_types_infer.proofs.InferenceLemmas.Scoped.{is_of, ready_of, solved_of, slots_of, place_some, ill_typed_of}
use Rattle.lq_types_infer.proofs.inference.solving.solve_program.Goals as goal

pub attempt-requires-clause-ready : goal.attempt-requires-clause-ready
attempt-requires-clause-ready c =
    let s = scoped_view c.args.program.now in
    let p : Program = record { items = c.items-items.result; constructors = c.in_ok-constructors.constructors; nodes = c.in_ok-counts.counts.nodes; slots = c.in_ok-counts.counts.nodes + c.binders.result } in
    let o = is_of s p c.binders.result (map data_view c.datatypes.result.now) c.items-items.ensures.items c.in_ok-counts.ensures.nodes refl c.binders.ensures c.in_ok-constructors.ensures.whole c.datatypes.ensures
    c.in_ok-constructors.ensures.signature in
    ready_of s p c.items-items.ensures.scoped o c.scoped_slots_are_apart.ensures c.scoped_visits_are_in.ensures

pub returns-in-Solved-clause-solved : goal.returns-in-Solved-clause-solved
returns-in-Solved-clause-solved c =
    let s = scoped_view c.args.program.now in
    let p : Program = record { items = c.items-items.result; constructors = c.in_ok-constructors.constructors; nodes = c.in_ok-counts.counts.nodes; slots = c.in_ok-counts.counts.nodes + c.binders.result } in
    let o = is_of s p c.binders.result (map data_view c.datatypes.result.now) c.items-items.ensures.items c.in_ok-counts.ensures.nodes refl c.binders.ensures c.in_ok-constructors.ensures.whole c.datatypes.ensures
    c.in_ok-constructors.ensures.signature in
    solved_of s p c.in_ok-counts.counts.visits c.in-Solved.inferred o c.in_ok-counts.ensures.visits (subst (IsAttempt p c.in_ok-counts.counts.visits) c.in-Solved.is c.in_ok-inferred.ensures)

pub returns-in-Solved-clause-slots : goal.returns-in-Solved-clause-slots
returns-in-Solved-clause-slots c =
    let s = scoped_view c.args.program.now in
    let p : Program = record { items = c.items-items.result; constructors = c.in_ok-constructors.constructors; nodes = c.in_ok-counts.counts.nodes; slots = c.in_ok-counts.counts.nodes + c.binders.result } in
    let o = is_of s p c.binders.result (map data_view c.datatypes.result.now) c.items-items.ensures.items c.in_ok-counts.ensures.nodes refl c.binders.ensures c.in_ok-constructors.ensures.whole c.datatypes.ensures
    c.in_ok-constructors.ensures.signature in
    slots_of s p c.in_ok-counts.counts.visits c.in-Solved.inferred o (subst (IsAttempt p c.in_ok-counts.counts.visits) c.in-Solved.is c.in_ok-inferred.ensures)

pub first_failing-requires-clause-ready : goal.first_failing-requires-clause-ready
first_failing-requires-clause-ready c =
    let s = scoped_view c.args.program.now in
    let p : Program = record { items = c.items-items.result; constructors = c.in_ok-constructors.constructors; nodes = c.in_ok-counts.counts.nodes; slots = c.in_ok-counts.counts.nodes + c.binders.result } in
    let o = is_of s p c.binders.result (map data_view c.datatypes.result.now) c.items-items.ensures.items c.in_ok-counts.ensures.nodes refl c.binders.ensures c.in_ok-constructors.ensures.whole c.datatypes.ensures
    c.in_ok-constructors.ensures.signature in
    ready_of s p c.items-items.ensures.scoped o c.scoped_slots_are_apart.ensures c.scoped_visits_are_in.ensures

pub unwrap-place-requires : goal.unwrap-place-requires
unwrap-place-requires c =
    let s = scoped_view c.args.program.now in
    let p : Program = record { items = c.items-items.result; constructors = c.in_ok-constructors.constructors; nodes = c.in_ok-counts.counts.nodes; slots = c.in_ok-counts.counts.nodes + c.binders.result } in
    let o = is_of s p c.binders.result (map data_view c.datatypes.result.now) c.items-items.ensures.items c.in_ok-counts.ensures.nodes refl c.binders.ensures c.in_ok-constructors.ensures.whole c.datatypes.ensures
    c.in_ok-constructors.ensures.signature in
    place_some p c.in_ok-at-in-Failed.at (ready_of s p c.items-items.ensures.scoped o c.scoped_slots_are_apart.ensures c.scoped_visits_are_in.ensures) c.in_ok-at-in-Failed.ensures c.in_ok-found-in-Failed.found c.in_ok-found-in-Failed.ensures

pub returns-clause-ill_typed : goal.returns-clause-ill_typed
returns-clause-ill_typed c = λ place q.
    let s = scoped_view c.args.program.now in
    let p : Program = record { items = c.items-items.result; constructors = c.in_ok-constructors.constructors; nodes = c.in_ok-counts.counts.nodes; slots = c.in_ok-counts.counts.nodes + c.binders.result } in
    let o = is_of s p c.binders.result (map data_view c.datatypes.result.now) c.items-items.ensures.items c.in_ok-counts.ensures.nodes refl c.binders.ensures c.in_ok-constructors.ensures.whole c.datatypes.ensures
    c.in_ok-constructors.ensures.signature in
    ill_typed_of s p c.in_ok-at-in-Failed.at o c.in_ok-at-in-Failed.ensures c.in_ok-found-in-Failed.found c.in_ok-found-in-Failed.ensures place (let a = c.unwrap-place.ensures in cc)
