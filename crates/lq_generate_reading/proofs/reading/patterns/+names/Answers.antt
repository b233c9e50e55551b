use Rattle.std.proofs.Common.{◌∙◌, sym, ap, arith}
use Rattle.lq_generate_reading.specs.Visibility.Stack.{names_view}
use Rattle.lq_generate_reading.proofs.ReadingLemmas.PatternRows.{all_taken, bound_next, no_more, row_of}
use Rattle.lq_generate_reading.proofs.reading.patterns.+names.Goals as goal
use Rattle.lq_generate_reading.proofs.reading.patterns.+names.Goals.{push_row-in-Some+in_ok-push_names, push_row-in_default}

pub push_row-loop-at-preserved : goal.push_row-loop-at-preserved
push_row-loop-at-preserved t c =
    let xs = row_of c.args.row.now in
    let i = c.loop-at.at in
    let base = names_view c.args.names.now.items in
    let old = names_view c.loop-at.names.items in
    elim c.match-get.branch [
      | push_row-in-Some+in_ok-push_names w ↦
          bound_next xs i w.in-Some.pattern.now base old _ (sym w.in-Some.ensures) c.loop-at.invariant
          (ap (λ v. names_view v.items) w.names-is ∙ w.in_ok-push_names.ensures)
      | push_row-in_default w ↦
          ap (λ v. names_view v.items) w.names-is ∙ no_more xs i base old (sym w.in_default.ensures) c.loop-at.invariant
    ]

pub push_row-returns : goal.push_row-returns
push_row-returns t c =
    all_taken c.args.row.now c.loop-at.at _ _ (omega (arith, c.loop-at-test.false, c.len-at-end.ensures)) c.loop-at.invariant
