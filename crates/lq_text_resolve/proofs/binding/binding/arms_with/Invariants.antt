use Rattle.std.proofs.Common.{◌≡◌, ◌++◌, drop, reverse}
use Rattle.lq_base_names.specs.declared.name.Name.{Name}
use Rattle.lq_text_tree.specs.TreeView.{cases_view}
use Rattle.lq_text_walk.specs.Walk.Shape.{listed_cases}
use Rattle.lq_text_resolve.specs.Binding.Machine.{arms_from}
use Rattle.lq_text_resolve.specs.Binding.Views.{arms_in, trees_in}
use Rattle.lq_text_resolve.proofs.binding.binding.arms_with.Given as goal

abbrev pub invariant-loop-at : goal.invariant-loop-at
invariant-loop-at l =
    let arms = listed_cases (cases_view Name (λ n. n.0) l.arms) in
    arms_in l.made ++ arms_from l.place (drop l.at arms) (reverse l.starts.items) (reverse (trees_in l.bodies.items))
    ≡ arms_from l.place arms (reverse l.fn.starts.items) (reverse (trees_in l.fn.bodies.items))
