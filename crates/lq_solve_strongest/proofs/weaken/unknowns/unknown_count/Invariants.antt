-- Past the unknowns of all environments, and of the implications so far.
use Rattle.std.proofs.Common.{length}
use Rattle.lq_refined_substitution.specs.Implications.Views.{environment_lists, implication_items}
use Rattle.lq_solve_strongest.specs.Weaken.Unknowns.{IsPastEnvironments, IsPastImplications}
use Rattle.lq_solve_strongest.proofs.weaken.unknowns.unknown_count.Given as goal

abbrev pub invariant-loop-at : goal.invariant-loop-at
invariant-loop-at l =
    IsPastEnvironments (environment_lists l.implications) (length (environment_lists l.implications)) l.past
    × IsPastImplications (implication_items l.implications) l.at l.past
