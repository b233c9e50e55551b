use Rattle.std.proofs.Common.{All, map, take}
use Rattle.lq_prover_case.specs.State.RowState.{row_point}
use Rattle.lq_prover_search.specs.Path.Meeting.{IsAt}
use Rattle.lq_logic_predicates.specs.Points.{Point}
use Rattle.lq_logic_predicates.specs.TermView.{sum_of}
use Rattle.lq_prover_search.specs.Search.Splits.{IsDoneOrMet}
use Rattle.lq_prover_search.proofs.search.opening.first_open.Given as goal

abbrev pub invariant-loop-at : goal.invariant-loop-at
invariant-loop-at l = (p : Point) → IsAt (map sum_of l.objects.keys) l.state p → All (IsDoneOrMet (row_point l.state.rows) p) (take l.at l.choices)
