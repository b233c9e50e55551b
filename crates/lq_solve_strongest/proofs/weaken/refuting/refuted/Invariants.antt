-- What goes of the instances so far.
use Rattle.std.proofs.Common.{◌≡◌}
use Rattle.lq_refined_instances.specs.Views.{list_view}
use Rattle.lq_logic_points.specs.Values.{as_point, table_of, values_of}
use Rattle.lq_logic_predicates.specs.TableView.{terms_of}
use Rattle.lq_refined_substitution.specs.Substitution.Views.{subst_view}
use Rattle.lq_solve_fixpoint.specs.Weakening.Chosen.{chosen_in}
use Rattle.lq_solve_strongest.proofs.WeakenLemmas.Those.{AreThose, Goes}
use Rattle.lq_solve_strongest.proofs.weaken.refuting.refuted.Given as goal

abbrev pub invariant-loop-at : goal.invariant-loop-at
invariant-loop-at l =
    (terms_of l.table ≡ table_of (values_of l.point))
    × AreThose (Goes (chosen_in l.chosen l.unknown) (as_point l.point) (subst_view l.by) (list_view l.list)) l.at l.numbers.items
