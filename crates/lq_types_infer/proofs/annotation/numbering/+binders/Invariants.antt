use Rattle.std.proofs.Common.{◌≡◌, ◌+◌, ◌++◌, map, take}
use Rattle.lq_text_tree.specs.Pattern.{bound_in_all}
use Rattle.lq_text_tree.specs.PatternView.{patterns_of}
use Rattle.lq_types_infer.proofs.AnnotationLemmas.SlotsOf.{seen, row_of}
use Rattle.lq_types_infer.proofs.annotation.numbering.+binders.Given as goal

abbrev pub invariant-push_row-loop-at : goal.invariant-push_row-loop-at
invariant-push_row-loop-at l =
    l.slots.items ≡ l.initial.slots.items ++ map (λ x. l.nodes + x) (bound_in_all (patterns_of (map seen (take l.at (row_of l.row)))))
