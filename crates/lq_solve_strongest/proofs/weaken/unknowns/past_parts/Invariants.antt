-- Past the unknowns so far.
use Rattle.std.proofs.Common.{map, take}
use Rattle.lq_refined_types.specs.Parts.Refuting.{Speak}
use Rattle.lq_refined_substitution.specs.Substitution.Views.{part_view}
use Rattle.lq_solve_strongest.specs.Weaken.Unknowns.{IsPast}
use Rattle.lq_solve_strongest.proofs.weaken.unknowns.past_parts.Given as goal

abbrev pub invariant-loop-part : goal.invariant-loop-part
invariant-loop-part l = IsPast l.count (λ u. Speak u (map part_view (take l.part-index l.parts))) l.past
