-- What is kept stays right, and the steps lead to where the way has come.
use Rattle.std.proofs.Common.{◌<◌, IsTrue, List, length}
use Rattle.lq_refined_substitution.specs.Implications.Views.{environment_lists}
use Rattle.lq_refined_types.specs.Parts.Assignment.{Assignment}
use Rattle.lq_refined_types.specs.Parts.Constraint.{Constraint}
use Rattle.lq_refined_types.specs.Parts.Part.{Parts}
use Rattle.lq_solve_facts.specs.Store.Kept.{HasReadings, IsKeptFor, Stands}
use Rattle.lq_solve_facts.specs.Store.Way.{LeadsTo}
use Rattle.lq_solve_facts.proofs.store.kept.Kept.way_to.Given as goal

abbrev pub invariant-loop-found : goal.invariant-loop-found
invariant-loop-found l = record {
  inside : l.at < length (environment_lists l.implications);
  way : LeadsTo (environment_lists l.implications) l.at l.steps.items l.env;
  kept : (A : Assignment) → IsKeptFor A (environment_lists l.implications) l.fn.self → IsKeptFor A (environment_lists l.implications) l.self;
  stands : IsTrue l.found → (A : Assignment) → IsKeptFor A (environment_lists l.implications) l.fn.self → Stands A (environment_lists l.implications) l.self l.at;
  stored : (I : Assignment) (es : List Parts) (cs : List Constraint) → HasReadings I es cs l.fn.self → HasReadings I es cs l.self;
}

abbrev pub decreases-loop-found : goal.decreases-loop-found
decreases-loop-found l = l.at
