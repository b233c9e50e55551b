use Rattle.std.proofs.Common.{false, refl}
use Rattle.lq_prover_search.proofs.search.parts.add_choice.Goals as goal

pub returns : goal.returns
returns c =
    record { choice = record { choice = record { members = c.args.members; is_done = false }; is = c.in_ok-push.ensures.items; open_still = refl; members_are = refl } }
