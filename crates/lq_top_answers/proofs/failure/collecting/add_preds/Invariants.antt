use Rattle.std.proofs.Common.{◌≡◌, map, take}
use Rattle.lq_logic_predicates.specs.PredView.{formula_of}
use Rattle.lq_top_answers.specs.Failure.Collected.{valued_views, with_each}
use Rattle.lq_top_answers.specs.Failure.Occurrences.{in_formulas, same_valued}
use Rattle.lq_top_answers.proofs.failure.collecting.add_preds.Given as goal

abbrev pub invariant-loop-pred : goal.invariant-loop-pred
invariant-loop-pred l = valued_views l.seen.keys ≡ with_each same_valued (valued_views l.fn.seen.keys) (in_formulas (map formula_of (take l.pred-index l.preds)))
