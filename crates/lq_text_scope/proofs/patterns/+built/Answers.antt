use Rattle.std.proofs.Common.{map, sym, ap, ◌∙◌, arith}
use Rattle.lq_base_names.specs.declared.name.Name.{Name}
use Rattle.lq_text_tree.specs.PatternView.{patterns_of, pat_form_view, pats_view}
use Rattle.lq_text_scope.specs.Complaints.{least_with, unknown}
use Rattle.lq_text_scope.specs.Known.{arity_in, counted}
use Rattle.lq_text_scope.specs.Patterns.{count_of, built_in, built_in_all, built_in_form}
use Rattle.lq_text_scope.specs.Views.{found_view}
use Rattle.lq_text_scope.proofs.PatternRows.{seen, row_of, listed, built_join, built_count, built_view}
use Rattle.lq_text_scope.proofs.Rows.{least_acts, one_more, no_more, all_taken, longer_at}
use Rattle.lq_text_scope.proofs.patterns.+built.Goals as goal
use Rattle.lq_text_scope.proofs.patterns.+built.Goals.{note_row-in-Some, note_row-in_default}

pub note_row-loop-at-preserved : goal.note_row-loop-at-preserved
note_row-loop-at-preserved t c =
    elim c.match-get.branch [
      | note_row-in-Some w ↦
          one_more least_with least_acts (λ l. built_in_all c.args.known.now (patterns_of (map seen l))) (λ x. built_in c.args.known.now (seen x)) (built_join c.args.known.now)
          (row_of c.args.row.now) c.loop-at.at w.in-Some.pattern.now _ _ _ (longer_at (row_of c.args.row.now) c.loop-at.at w.in-Some.pattern.now (sym w.in-Some.ensures)) c.loop-at.invariant
          (ap (λ v. found_view v.found) w.least-is ∙ w.note_built.ensures)
      | note_row-in_default w ↦
          ap (λ v. found_view v.found) w.least-is
          ∙ no_more least_with (λ l. built_in_all c.args.known.now (patterns_of (map seen l))) (row_of c.args.row.now) c.loop-at.at _ _ (sym w.in_default.ensures) c.loop-at.invariant
    ]

pub note_form-returns-in-Build : goal.note_form-returns-in-Build
note_form-returns-in-Build t c =
    c.note_row-in-Build.ensures
    ∙ ap (λ b. least_with b (built_in_all c.args.known.now (pats_view Name (λ n. n.0) c.in-Build.row)))
    (c.note_count.ensures ∙ built_count c.args.known.now (found_view c.args.least.now.found) c.in-Build.name.0 c.in-Build.place c.in-Build.row _ _ c.find.ensures c.len.ensures)
    ∙ sym (least_acts (found_view c.args.least.now.found) (counted c.in-Build.place (arity_in c.args.known.now c.in-Build.name.0) (unknown c.in-Build.name.0) (count_of (pats_view Name (λ n. n.0) c.in-Build.row))) (built_in_all c.args.known.now (pats_view Name (λ n. n.0) c.in-Build.row)))
    ∙ sym (ap (λ f. least_with (found_view c.args.least.now.found) (built_in_form c.args.known.now f)) (built_view c.in-Build.name c.in-Build.place c.in-Build.row))
    ∙ ap (λ f. least_with (found_view c.args.least.now.found) (built_in_form c.args.known.now (pat_form_view Name (λ n. n.0) f))) (sym c.in-Build.is)

pub note_row-returns : goal.note_row-returns
note_row-returns t c =
    all_taken least_with (λ l. built_in_all c.args.known.now (patterns_of (map seen l))) (row_of c.args.row.now) c.loop-at.at _ _ (omega (arith, c.loop-at-test.false, c.len-at-end.ensures)) c.loop-at.invariant
    ∙ ap (λ l. least_with (found_view c.args.least.now.found) (built_in_all c.args.known.now l)) (sym (listed c.args.row.now))
