use Rattle.std.proofs.Common.{◌≡◌, [], length}
use Rattle.lq_base_names.specs.declared.name.Name.{Name}
use Rattle.lq_text_tree.specs.Texts.{program_view}
use Rattle.lq_text_walk.specs.Walk.Pending.{left}
use Rattle.lq_text_scope.specs.Complaints.{least}
use Rattle.lq_text_scope.specs.Passing.{passed}
use Rattle.lq_text_scope.specs.States.{known_of, open_of, best_of}
use Rattle.lq_text_scope.specs.Uses.{of_program}
use Rattle.lq_text_scope.proofs.checker.first_complaint.Given as goal

abbrev pub invariant-loop-walk : goal.invariant-loop-walk
invariant-loop-walk l =
    (passed l.names (known_of l.checker) (open_of l.checker) (best_of l.checker) (left Name (λ n. n.0) l.walk) ≡ least (of_program l.names (program_view l.program)))
    × (l.checker.names.now ≡ l.names) × (l.checker.seen ≡ [])

abbrev pub decreases-loop-walk : goal.decreases-loop-walk
decreases-loop-walk l = length (left Name (λ n. n.0) l.walk)
