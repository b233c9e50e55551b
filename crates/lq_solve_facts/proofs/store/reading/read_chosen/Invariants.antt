-- What is known and stored stays right, and the chosen instances from here on are read.
use Rattle.std.proofs.Common.{◌≡◌}
use Rattle.lq_refined_instances.specs.Views.{list_view}
use Rattle.lq_solve_facts.specs.Facts.Known.{Hold, Keeps, readings_of}
use Rattle.lq_logic_predicates.specs.Points.{Point}
use Rattle.lq_refined_substitution.specs.Substitution.Views.{subst_view}
use Rattle.lq_solve_fixpoint.specs.Weakening.Chosen.{chosen_in}
use Rattle.lq_solve_facts.specs.Store.Reads.{AreReadFrom, StandUnder}
use Rattle.lq_solve_facts.specs.Store.Store.{AreStored, Standing}
use Rattle.lq_solve_facts.proofs.store.reading.read_chosen.Given as goal

abbrev pub invariant-loop-at : goal.invariant-loop-at
invariant-loop-at l = record {
  kept : (p : Point) → Hold l.fn.known p → Hold l.known p;
  keeps : Keeps l.fn.known l.known;
  same : readings_of l.known ≡ readings_of l.fn.known;
  stored : (F : Standing) → AreStored F l.fn.known l.fn.store → StandUnder F l.place (subst_view l.by) (list_view l.list) → AreStored F l.known l.store;
  reads : (F : Standing) → AreStored F l.fn.known l.fn.store → StandUnder F l.place (subst_view l.by) (list_view l.list)
      → AreReadFrom l.at l.known (chosen_in l.chosen l.unknown) (subst_view l.by) (list_view l.list) l.made.items;
}
