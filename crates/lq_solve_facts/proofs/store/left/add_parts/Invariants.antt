-- What is known holds where the hypotheses are met, and those so far are read.
use Rattle.std.proofs.Common.{◌≡◌, ◌+◌, length, map, take}
use Rattle.lq_solve_facts.specs.Facts.Known.{Hold, Keeps}
use Rattle.lq_solve_facts.specs.Nearest.Reading.{AreRead}
use Rattle.lq_refined_types.specs.Parts.Assignment.{parts_under}
use Rattle.lq_logic_predicates.specs.ClosedImplication.{MeetsEach}
use Rattle.lq_logic_predicates.specs.Points.{Point}
use Rattle.lq_solve_fixpoint.specs.Questions.Assigned.{assignment_of, instances_in}
use Rattle.lq_refined_substitution.specs.Substitution.Views.{part_view}
use Rattle.lq_solve_facts.specs.Store.Places.{StandAtLeft}
use Rattle.lq_solve_facts.specs.Store.Store.{AreStored, Standing}
use Rattle.lq_solve_facts.proofs.store.left.add_parts.Given as goal

abbrev pub invariant-loop-part : goal.invariant-loop-part
invariant-loop-part l = record {
  behind : l.behind + l.part-index ≡ length l.parts;
  held : (F : Standing) → AreStored F l.fn.known l.fn.store → StandAtLeft F (instances_in l.instances) l.implication (map part_view l.parts) → (p : Point) → Hold l.fn.known p
      → MeetsEach p (parts_under (assignment_of l.instances l.chosen) (map part_view l.parts)) → Hold l.known p;
  keeps : Keeps l.fn.known l.known;
  read : (F : Standing) → AreStored F l.fn.known l.fn.store → StandAtLeft F (instances_in l.instances) l.implication (map part_view l.parts)
      → AreRead l.fn.known l.known (parts_under (assignment_of l.instances l.chosen) (map part_view (take l.part-index l.parts)));
  stored : (F : Standing) → AreStored F l.fn.known l.fn.store → StandAtLeft F (instances_in l.instances) l.implication (map part_view l.parts) → AreStored F l.known l.store;
}
