-- No negation of a chosen instance so far is met where what is known holds.
use Rattle.std.proofs.Common.{◌≡◌}
use Rattle.lq_refined_instances.specs.Views.{list_view}
use Rattle.lq_solve_facts.specs.Facts.Known.{Hold, Keeps, readings_of}
use Rattle.lq_logic_predicates.specs.Points.{Point}
use Rattle.lq_refined_substitution.specs.Substitution.Views.{subst_view}
use Rattle.lq_solve_fixpoint.specs.Weakening.Chosen.{chosen_in}
use Rattle.lq_solve_facts.proofs.NearestLemmas.Meeting.{NoneOf}
use Rattle.lq_solve_facts.proofs.nearest.aiming.proves_list.Given as goal

abbrev pub invariant-loop-at : goal.invariant-loop-at
invariant-loop-at l = record {
  kept : (p : Point) → Hold l.fn.known p → Hold l.known p;
  keeps : Keeps l.fn.known l.known;
  same : readings_of l.known ≡ readings_of l.fn.known;
  none : (p : Point) → Hold l.fn.known p → NoneOf p (chosen_in l.chosen l.unknown) (subst_view l.by) 0 l.at (list_view l.list);
}
