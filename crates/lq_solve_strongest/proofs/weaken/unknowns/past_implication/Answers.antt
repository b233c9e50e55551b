use Rattle.std.proofs.Common.{map, subst}
use Rattle.lq_refined_types.specs.Parts.Refuting.{IsUnknown, Speak}
use Rattle.lq_refined_substitution.specs.Substitution.Views.{part_view, parts_view}
use Rattle.lq_solve_strongest.proofs.WeakenLemmas.Below.{past_both}
use Rattle.lq_solve_strongest.specs.Weaken.Unknowns.{IsPast}
use Rattle.lq_solve_strongest.proofs.weaken.unknowns.past_implication.Goals as goal

pub returns : goal.returns
returns c =
    past_both c.past_part.result c.args.count c.in_ok-past.past (λ u. Speak u (parts_view c.args.implication.now.left)) (λ u. IsUnknown u (part_view c.args.implication.now.goal))
    (subst (λ ps. IsPast c.args.count (λ u. Speak u (map part_view ps)) c.in_ok-past.past) c.as_slice.ensures c.in_ok-past.ensures) c.past_part.ensures
