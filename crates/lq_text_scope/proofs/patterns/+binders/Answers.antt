use Rattle.std.proofs.Common.{map, sym, ap, subst, ◌∙◌, ◌++◌, arith}
use Rattle.std.proofs.lemmas.List.{append-nil}
use Rattle.lq_text_tree.specs.PatternView.{patterns_of}
use Rattle.lq_text_scope.specs.Growing.{Extends, Extends-refl, Extends-trans}
use Rattle.lq_text_scope.specs.Patterns.{binders_in, binders_in_all}
use Rattle.lq_text_scope.specs.Views.{binding_view}
use Rattle.lq_text_scope.proofs.PatternRows.{seen, row_of, listed, binders_join}
use Rattle.lq_text_scope.proofs.Rows.{append_acts, one_more, no_more, all_taken, longer_at}
use Rattle.lq_text_scope.proofs.patterns.+binders.Goals as goal
use Rattle.lq_text_scope.proofs.patterns.+binders.Goals.{push_row-in-Some+in_ok-push_binders, push_row-in_default}

pub push_row-loop-at-init : goal.push_row-loop-at-init
push_row-loop-at-init t c = record { bound = sym (append-nil (map binding_view c.args.found.now.items)); begins = Extends-refl _ }

pub push_row-loop-at-preserved : goal.push_row-loop-at-preserved
push_row-loop-at-preserved t c =
    elim c.match-get.branch [
      | push_row-in-Some+in_ok-push_binders w ↦ record {
        bound = one_more (λ b ys. b ++ ys) append_acts (λ l. binders_in_all (patterns_of (map seen l))) (λ x. binders_in (seen x)) binders_join
            (row_of c.args.row.now) c.loop-at.at w.in-Some.pattern.now _ _ _ (longer_at (row_of c.args.row.now) c.loop-at.at w.in-Some.pattern.now (sym w.in-Some.ensures)) c.loop-at.invariant.bound
            (ap (λ v. map binding_view v.items) w.found-is ∙ w.in_ok-push_binders.ensures.bound);
        begins = subst (Extends c.args.found.now.items) (sym (ap (λ v. v.items) w.found-is)) (Extends-trans _ _ _ c.loop-at.invariant.begins w.in_ok-push_binders.ensures.begins);
      }
      | push_row-in_default w ↦ record {
        bound = ap (λ v. map binding_view v.items) w.found-is
            ∙ no_more (λ b ys. b ++ ys) (λ l. binders_in_all (patterns_of (map seen l))) (row_of c.args.row.now) c.loop-at.at _ _ (sym w.in_default.ensures) c.loop-at.invariant.bound;
        begins = subst (Extends c.args.found.now.items) (sym (ap (λ v. v.items) w.found-is)) c.loop-at.invariant.begins;
      }
    ]

pub push_row-returns-clause-bound : goal.push_row-returns-clause-bound
push_row-returns-clause-bound t c =
    all_taken (λ b ys. b ++ ys) (λ l. binders_in_all (patterns_of (map seen l))) (row_of c.args.row.now) c.loop-at.at _ _ (omega (arith, c.loop-at-test.false, c.len-at-end.ensures)) c.loop-at.invariant.bound
    ∙ ap (λ l. map binding_view c.args.found.now.items ++ binders_in_all l) (sym (listed c.args.row.now))
