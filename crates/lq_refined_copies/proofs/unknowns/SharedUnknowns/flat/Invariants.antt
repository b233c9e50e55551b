use Rattle.std.proofs.Common.{◌≡◌, map, take}
use Rattle.lq_refined_instances.specs.Views.{scopes_view, unknowns_view}
use Rattle.lq_refined_copies.specs.Flattening.{AreThere}
use Rattle.lq_refined_copies.specs.Longer.{Longer}
use Rattle.lq_refined_copies.specs.Runs.{runs_view}
use Rattle.lq_refined_copies.proofs.unknowns.SharedUnknowns.flat.Given as goal

abbrev pub invariant-loop-run : goal.invariant-loop-run
invariant-loop-run l = record {
  longer : Longer (scopes_view l.fn.self.scopes) (scopes_view l.flat.scopes);
  there : AreThere l.flat;
  unknowns : unknowns_view l.flat ≡ runs_view (scopes_view l.fn.self.scopes) (map unknowns_view l.patterns.items) (take l.run-index l.run-items);
}
