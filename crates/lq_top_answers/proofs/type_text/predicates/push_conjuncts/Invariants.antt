use Rattle.std.proofs.Common.{◌≡◌, ◌++◌, codes, map, take}
use Rattle.lq_logic_predicates.specs.PredView.{formula_of}
use Rattle.lq_logic_text.specs.Continued.{Continues}
use Rattle.lq_logic_text.specs.Views.{calling_view}
use Rattle.lq_top_answers.specs.TypeText.Types.{conjunct_text, in_row}
use Rattle.lq_top_answers.proofs.type_text.predicates.push_conjuncts.Given as goal

abbrev pub invariant-loop-at : goal.invariant-loop-at
invariant-loop-at l =
    record {
      text : l.line.items ≡ l.initial.line.items ++ in_row (codes " && ") (map (conjunct_text (calling_view l.calling)) (map formula_of (take l.at l.preds)));
      begins : Continues l.initial.line.items l.line.items;
    }
