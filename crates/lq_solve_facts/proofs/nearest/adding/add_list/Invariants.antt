-- What is known holds where the chosen instances are met, and those from here on are read.
use Rattle.std.proofs.Common.{map}
use Rattle.lq_refined_instances.specs.Views.{list_view}
use Rattle.lq_solve_facts.specs.Facts.Known.{Hold, Keeps, readings_of}
use Rattle.lq_solve_facts.specs.Facts.Values.{MeetsEachRow}
use Rattle.lq_logic_rows.specs.Row.{Valuation}
use Rattle.lq_refined_types.specs.Parts.Flowing.{picked}
use Rattle.lq_refined_types.specs.Parts.Substitution.{formula_by}
use Rattle.lq_logic_predicates.specs.ClosedImplication.{MeetsEach}
use Rattle.lq_logic_predicates.specs.Points.{Point}
use Rattle.lq_logic_predicates.specs.RowMeaning.{AgreesOn}
use Rattle.lq_logic_predicates.specs.TableView.{terms_of}
use Rattle.lq_refined_substitution.specs.Substitution.Views.{subst_view}
use Rattle.lq_solve_fixpoint.specs.Weakening.Chosen.{chosen_in}
use Rattle.lq_solve_facts.proofs.NearestLemmas.Meeting.{ChosenFrom, IsMetBy}
use Rattle.lq_solve_facts.proofs.nearest.adding.add_list.Given as goal

abbrev pub invariant-loop-at : goal.invariant-loop-at
invariant-loop-at l = record {
  held : (p : Point) → Hold l.fn.known p → MeetsEach p (map (formula_by (subst_view l.by)) (picked (chosen_in l.chosen l.unknown) 0 (list_view l.list))) → Hold l.known p;
  keeps : Keeps l.fn.known l.known;
  read : (v : Valuation) (p : Point) → AgreesOn (terms_of l.known.table) v p → MeetsEachRow v p (readings_of l.known)
      → MeetsEachRow v p (readings_of l.fn.known) × ChosenFrom (IsMetBy p (subst_view l.by)) (chosen_in l.chosen l.unknown) l.at (list_view l.list);
}
