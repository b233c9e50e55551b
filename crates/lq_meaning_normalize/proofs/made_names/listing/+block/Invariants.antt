use Rattle.std.proofs.Common.{◌≡◌, ◌++◌, drop, map}
use Rattle.lq_meaning_normal_tree.specs.BlockView.{binding_view, branch_view}
use Rattle.lq_text_tree.specs.TreeView.{cases_of}
use Rattle.lq_meaning_normalize.specs.MadeNames.Numbers.{binders_view}
use Rattle.lq_meaning_normalize.specs.MadeNames.Order.{names_of_cases}
use Rattle.lq_meaning_normalize.specs.MadeNames.Parts.{names_of_lets}
use Rattle.lq_meaning_normalize.proofs.made_names.listing.+block.Given as goal

abbrev pub invariant-push_bindings-loop-binding : goal.invariant-push_bindings-loop-binding
invariant-push_bindings-loop-binding l =
    binders_view l.names.items ++ names_of_lets (map binding_view (drop l.binding-index l.bindings))
    ≡ binders_view l.initial.names.items ++ names_of_lets (map binding_view l.bindings)

abbrev pub invariant-push_branches-loop-branch : goal.invariant-push_branches-loop-branch
invariant-push_branches-loop-branch l =
    binders_view l.names.items ++ names_of_cases (cases_of (map branch_view (drop l.branch-index l.branches)))
    ≡ binders_view l.initial.names.items ++ names_of_cases (cases_of (map branch_view l.branches))
