use Rattle.std.proofs.Common.{None, ap, ◌∙◌}
use Rattle.lq_base_names.specs.declared.name.Name.{Name}
use Rattle.lq_text_tree.specs.Texts.{program_view}
use Rattle.lq_text_walk.specs.Walk.Pending.{left}
use Rattle.lq_text_walk.specs.Walk.Visits.{visits_of_items}
use Rattle.lq_text_scope.specs.Known.{predeclared_known}
use Rattle.lq_text_scope.specs.Passing.{passed}
use Rattle.lq_text_scope.specs.States.{open_of, best_of}
use Rattle.lq_text_scope.proofs.Walking.{walked_items}
use Rattle.lq_text_scope.proofs.checker.first_complaint.Goals as goal

pub loop-walk-init : goal.loop-walk-init
loop-walk-init c =
    let names = c.args.names.now in
    let first = c.in_ok-checker.ensures in
    let visits = left Name (λ n. n.0) c.in_ok-walk.walk in (
      ap (λ k. passed names k (open_of c.in_ok-checker.checker) (best_of c.in_ok-checker.checker) visits) first.known
          ∙ ap (λ n. passed names predeclared_known n (best_of c.in_ok-checker.checker) visits) first.«open»
          ∙ ap (λ b. passed names predeclared_known 0 b visits) first.best
          ∙ ap (passed names predeclared_known 0 None) (c.in_ok-walk.ensures ∙ ap visits_of_items c.items.ensures.items)
          ∙ walked_items names (program_view c.args.program.now) predeclared_known None,
      first.names,
      first.seen,
    )
