use Rattle.std.proofs.Common.{◌≡◌, All, map, take}
use Rattle.lq_prover_proof_tree.specs.Trees.Path.{AreReadings}
use Rattle.lq_logic_predicates.specs.Comparison.{CanGather}
use Rattle.lq_logic_predicates.specs.Literals.{each_literals}
use Rattle.lq_logic_predicates.specs.NnfView.{nnf_items, nnf_view}
use Rattle.lq_logic_predicates.specs.PredView.{formula_of}
use Rattle.lq_logic_predicates.specs.TableView.{terms_of}
use Rattle.lq_prover_valid.proofs.readings.opening_reading.Given as goal

abbrev pub invariant-loop-pred : goal.invariant-loop-pred
invariant-loop-pred l = record {
  same : terms_of l.table ≡ terms_of l.fn.table;
  readings : AreReadings (terms_of l.table) (map formula_of (take l.pred-index l.pred-items)) (map nnf_view (nnf_items l.hypotheses));
  gathers : All CanGather (each_literals (map formula_of (take l.pred-index l.pred-items)));
}
