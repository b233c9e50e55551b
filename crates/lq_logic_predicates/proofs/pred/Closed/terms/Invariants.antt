use Rattle.std.proofs.Common.{◌≡◌, [], map, take}
use Rattle.lq_logic_predicates.specs.ClosedImplication.{each_numbered}
use Rattle.lq_logic_predicates.specs.PredView.{formula_of}
use Rattle.lq_logic_predicates.specs.TableView.{terms_of}
use Rattle.lq_logic_predicates.proofs.pred.Closed.terms.Given as goal

abbrev pub invariant-loop-pred : goal.invariant-loop-pred
invariant-loop-pred l = terms_of l.table ≡ each_numbered [] (map formula_of (take l.pred-index l.pred-items))
