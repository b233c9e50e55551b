use Rattle.std.proofs.Common.{◌≡◌, true, All, subst, sym}
use Rattle.lq_types_unify.specs.Classes.{root}
use Rattle.lq_types_unify.proofs.Listing.{row_read}
use Rattle.lq_types_unify.proofs.reaching.meet_parts.Goals as goal

pub returns-in_ok-meet_all-clause-among : goal.returns-in_ok-meet_all-clause-among
returns-in_ok-meet_all-clause-among c = λ seen before all.
    let row = row_read c.args.arena.now c.args.node c.index.result.now c.in-Made.field-0 c.in-Made.first c.in-Made.count c.deref.result.now c.requires.inside c.index.ensures c.in-Made.is c.deref.ensures.value in
    c.in_ok-meet_all.ensures.among seen before (subst (All (λ i. seen (root c.args.parents.now i) ≡ true)) (sym row) all)
