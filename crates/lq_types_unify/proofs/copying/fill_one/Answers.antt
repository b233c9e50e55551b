use Rattle.std.proofs.Common.{◌<◌, ◌+◌, ◌-◌, All, length, take, drop, sym, subst, ◌∙◌}
use Rattle.lq_types_unify.specs.Nodes.{HasFilled}
use Rattle.lq_types_unify.specs.Classes.{root}
use Rattle.lq_types_unify.specs.Copying.{seat}
use Rattle.lq_types_unify.proofs.Listing.{row_read}
use Rattle.lq_types_unify.proofs.Seating.{All_map, seated_read}
use Rattle.lq_types_unify.proofs.copying.fill_one.Goals as goal

pub fill-requires-clause-parts : goal.fill-requires-clause-parts
fill-requires-clause-parts c =
    let a = c.args.arena.now in
    let row = row_read a c.args.shape c.index.result.now c.in-Made.head c.in-Made.first c.in-Made.count c.deref.result.now c.requires.shape c.index.ensures c.in-Made.is c.deref.ensures.value in
    let placed = subst (All (λ p. (p < c.args.base) × (seat c.args.base c.args.copies.now (root c.args.parents.now p) < length a.nodes.items))) (sym row) c.requires.placed in
    subst (All (λ p. p < length a.nodes.items)) (sym (c.deref-in-Made.ensures.value ∙ c.in_ok-parts.ensures.seats))
    (All_map (λ p. p < length a.nodes.items) (λ p. seat c.args.base c.args.copies.now (root c.args.parents.now p)) (take (c.in-Made.first + c.in-Made.count - c.in-Made.first) (drop c.in-Made.first c.deref.result.now))
    (λ k d h. (placed k d h).1))

pub returns-in_ok-fill-clause-filled : goal.returns-in_ok-fill-clause-filled
returns-in_ok-fill-clause-filled c =
    subst (HasFilled c.args.arena.now c.fill.new.self c.args.node)
    (seated_read c.args.arena.now c.args.base c.args.parents.now c.args.copies.now c.args.shape c.index.result.now c.in-Made.head c.in-Made.first c.in-Made.count c.deref.result.now c.deref-in-Made.result.now
    c.requires.shape c.index.ensures c.in-Made.is c.deref.ensures.value (c.deref-in-Made.ensures.value ∙ c.in_ok-parts.ensures.seats)) c.in_ok-fill.ensures.filled
