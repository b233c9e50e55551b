use Rattle.std.proofs.Common.{◌+◌, length, map, take, sym, ap, ◌∙◌, arith}
use Rattle.lq_text_tree.specs.Pattern.{bound_in_all}
use Rattle.lq_text_tree.specs.PatternView.{pats_items, patterns_of}
use Rattle.lq_base_names.specs.declared.name.Binder.{Binder}
use Rattle.lq_text_resolve.specs.Binding.Binding.{numbered_all}
use Rattle.lq_text_resolve.proofs.BindingLemmas.PatternRows.{seen, row_of, seen_binders, listed, listed_binders, all_taken, longer_at, none_longer, one_more, next_more}
use Rattle.lq_text_resolve.proofs.binding.patterns.+numbered.Goals as goal
use Rattle.lq_text_resolve.proofs.binding.patterns.+numbered.Goals.{numbered_all-in-Some+in_ok-numbered+in_ok-push, numbered_all-in_default}

pub numbered_all-loop-at-preserved : goal.numbered_all-loop-at-preserved
numbered_all-loop-at-preserved t c =
    let row = row_of c.args.row.now in
    let start = c.args.next.now in
    elim c.match-get.branch [
      | numbered_all-in-Some+in_ok-numbered+in_ok-push w ↦
          let x = w.in-Some.pattern.now in
          let long = longer_at row c.loop-at.at x (sym w.in-Some.ensures) in (
            ap (λ v. patterns_of (map seen_binders (pats_items Binder v))) w.patterns-is ∙ ap (λ l. patterns_of (map seen_binders l)) w.in_ok-push.ensures.ok
                ∙ one_more start c.loop-at.next (take c.loop-at.at row) x (pats_items Binder c.loop-at.patterns) _ c.loop-at.invariant.0 c.loop-at.invariant.1 w.in_ok-numbered.ensures.pattern
                ∙ ap (λ l. numbered_all start (patterns_of (map seen l))) (sym long),
            w.next-is ∙ next_more start c.loop-at.next _ (take c.loop-at.at row) x c.loop-at.invariant.1 w.in_ok-numbered.ensures.next
                ∙ ap (λ l. start + length (bound_in_all (patterns_of (map seen l)))) (sym long),
          )
      | numbered_all-in_default w ↦
          let same = none_longer row c.loop-at.at (sym w.in_default.ensures) in (
            ap (λ v. patterns_of (map seen_binders (pats_items Binder v))) w.patterns-is ∙ c.loop-at.invariant.0 ∙ ap (λ l. numbered_all start (patterns_of (map seen l))) same,
            w.next-is ∙ c.loop-at.invariant.1 ∙ ap (λ l. start + length (bound_in_all (patterns_of (map seen l)))) same,
          )
    ]

pub numbered_all-returns-clause-row : goal.numbered_all-returns-clause-row
numbered_all-returns-clause-row t c =
    listed_binders c.loop-at.patterns ∙ c.loop-at.invariant.0
    ∙ ap (λ l. numbered_all c.args.next.now (patterns_of (map seen l))) (all_taken c.loop-at.at (row_of c.args.row.now) (omega (arith, c.loop-at-test.false, c.len-at-end.ensures)))
    ∙ ap (numbered_all c.args.next.now) (sym (listed c.args.row.now))

pub numbered_all-returns-clause-next : goal.numbered_all-returns-clause-next
numbered_all-returns-clause-next t c =
    c.loop-at.invariant.1
    ∙ ap (λ l. c.args.next.now + length (bound_in_all (patterns_of (map seen l)))) (all_taken c.loop-at.at (row_of c.args.row.now) (omega (arith, c.loop-at-test.false, c.len-at-end.ensures)))
    ∙ ap (λ l. c.args.next.now + length (bound_in_all l)) (sym (listed c.args.row.now))
