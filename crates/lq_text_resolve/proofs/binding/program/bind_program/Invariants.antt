use Rattle.std.proofs.Common.{◌≡◌, length}
use Rattle.lq_base_names.specs.declared.name.Name.{Name}
use Rattle.lq_text_tree.specs.Texts.{program_view}
use Rattle.lq_text_walk.specs.Walk.Pending.{left}
use Rattle.lq_text_walk.specs.Walk.Visits.{visits_of_items}
use Rattle.lq_text_resolve.specs.Binding.Machine.{first_machine, run}
use Rattle.lq_text_resolve.specs.Binding.States.{machine_of}
use Rattle.lq_text_resolve.proofs.binding.program.bind_program.Given as goal

abbrev pub invariant-loop-walk : goal.invariant-loop-walk
invariant-loop-walk l =
    (run l.names (machine_of l.resolver) (left Name (λ n. n.0) l.walk) ≡ run l.names first_machine (visits_of_items (program_view l.program)))
    × (l.resolver.names.now ≡ l.names)

abbrev pub decreases-loop-walk : goal.decreases-loop-walk
decreases-loop-walk l = length (left Name (λ n. n.0) l.walk)
