use Rattle.std.proofs.Common.{sym, ap, ◌∙◌, ◌+◌, take, arith}
use Rattle.lq_types_infer.proofs.AnnotationLemmas.SlotsOf.{row_of, bound_next, longer_at, no_more, all_taken}
use Rattle.lq_types_infer.proofs.annotation.numbering.+binders.Goals as goal
use Rattle.lq_types_infer.proofs.annotation.numbering.+binders.Goals.{push_row-in-Some+in_ok-push_binders, push_row-in_default}

pub push_row-loop-at-preserved : goal.push_row-loop-at-preserved
push_row-loop-at-preserved t c =
    let xs = row_of c.args.row.now in
    let i = c.loop-at.at in
    elim c.match-get.branch [
      | push_row-in-Some+in_ok-push_binders w ↦
          bound_next c.args.nodes (take i xs) (take (i + 1) xs) w.in-Some.pattern.now _ _ _
          (longer_at xs i w.in-Some.pattern.now (sym w.in-Some.ensures)) c.loop-at.invariant
          (ap (λ v. v.items) w.slots-is ∙ w.in_ok-push_binders.ensures)
      | push_row-in_default w ↦
          ap (λ v. v.items) w.slots-is ∙ no_more c.args.nodes xs i _ _ (sym w.in_default.ensures) c.loop-at.invariant
    ]

pub push_row-returns : goal.push_row-returns
push_row-returns t c =
    all_taken c.args.nodes c.args.row.now c.loop-at.at _ _ (omega (arith, c.loop-at-test.false, c.len-at-end.ensures)) c.loop-at.invariant
