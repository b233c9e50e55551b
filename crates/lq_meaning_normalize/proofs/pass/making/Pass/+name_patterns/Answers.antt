use Rattle.std.proofs.Common.{◌+◌, map, drop, sym, ap, ◌∙◌, arith}
use Rattle.std.proofs.lemmas.List.{drop_all}
use Rattle.lq_base_names.specs.declared.name.Binder.{Binder}
use Rattle.lq_text_tree.specs.PatternView.{pats_items, patterns_of}
use Rattle.lq_meaning_normal_form.specs.Outcomes.Naming.{named_parts}
use Rattle.lq_meaning_normalize.proofs.PassLemmas.Parts.{one_less, none_left}
use Rattle.lq_meaning_normalize.proofs.PassLemmas.PatternRows.{in_front, seen, more_named, named_all}
use Rattle.lq_meaning_normalize.proofs.pass.making.Pass.+name_patterns.Goals as goal
use Rattle.lq_meaning_normalize.proofs.pass.making.Pass.+name_patterns.Goals.{name_parts-else-loop-at-test, name_parts-then-loop-at-test+in_default}

pub name_parts-loop-at-preserved : goal.name_parts-loop-at-preserved
name_parts-loop-at-preserved t c =
    let row = pats_items Binder c.args.parts.now in
    let x = c.in-Some.part.now in (
      more_named (pats_items Binder c.loop-at.named) (pats_items Binder c.push.new.self) (drop (c.loop-at.at + 1) row) c.in_ok-name_part.field-0 x c.loop-at.self.next c.name_part.new.self.next
          c.in_ok-push.ensures.ok c.in_ok-name_part.ensures.named
          ∙ ap (λ l. in_front (map seen (pats_items Binder c.loop-at.named)) (named_parts c.loop-at.self.next (patterns_of (map seen l)))) (sym (one_less row c.loop-at.at x (sym c.in-Some.ensures)))
          ∙ c.loop-at.invariant.0,
      c.in_ok-name_part.ensures.lets ∙ c.loop-at.invariant.1,
      (let a = c.name_part.ensures.later in let b = c.loop-at.invariant.2 in omega arith),
    )

pub name_parts-returns-clause-named : goal.name_parts-returns-clause-named
name_parts-returns-clause-named t c =
    let row = pats_items Binder c.args.parts.now in
    elim c.loop-at-test.branch [
      | name_parts-else-loop-at-test w ↦
          named_all c.loop-at.named c.args.parts.now c.loop-at.at c.args.self.now.next c.loop-at.self.next
          (drop_all c.loop-at.at row (omega (arith, w.loop-at-test.false, c.len-at-end.ensures))) c.loop-at.invariant.0
      | name_parts-then-loop-at-test+in_default w ↦
          named_all c.loop-at.named c.args.parts.now c.loop-at.at c.args.self.now.next c.loop-at.self.next
          (none_left row c.loop-at.at (sym w.in_default.ensures)) c.loop-at.invariant.0
    ]
