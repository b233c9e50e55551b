use Rattle.std.proofs.Common.{◌∙◌, ◌<◌, ◌≤◌, All, length, map, sym, ap, ap₂, subst, None, arith}
use Rattle.std.proofs.lemmas.List.Elements.{All-push, All-weaker}
use Rattle.lq_generate_fresh.proofs.FreshLemmas.Known.{all_front, is_found, row_seen}
use Rattle.lq_refined_types.specs.Types.Refined.{function}
use Rattle.lq_refined_subtyping.specs.Table.Forms.{at, row_of}
use Rattle.lq_refined_subtyping.specs.Table.Growing.{extends-at, extends-there, Extends-trans}
use Rattle.lq_refined_subtyping.specs.Table.Unfolding.{all_plain, plain}
use Rattle.lq_refined_subtyping.specs.Table.Whole.{count_of, types_of, Grows}
use Rattle.lq_text_tree.specs.SimpleTypeView.{simple_type_view, simple_types_items}
use Rattle.lq_generate_datatypes.proofs.Rows.{arrow-seen, map-grown, plain-more, rows-plain}
use Rattle.lq_generate_datatypes.proofs.plain.+plain.Goals as goal
use Rattle.lq_generate_datatypes.proofs.plain.+plain.Goals.{all_plain-in-Some+in_ok-plain+in_ok-push, all_plain-in_default}

pub plain_form-returns-in_ok-second-in-Arrow-clause-refined : goal.plain_form-returns-in_ok-second-in-Arrow-clause-refined
plain_form-returns-in_ok-second-in-Arrow-clause-refined t c = λ scopes.
    let now = c.plain.new.types in
    let new = c.plain-in-Arrow.new.types in
    ap₂ (function None)
    (extends-at scopes now.rows.items new.rows.items c.in_ok-first-in-Arrow.first c.plain-in-Arrow.ensures.grows c.in_ok-first-in-Arrow.ensures.there
    ∙ c.in_ok-first-in-Arrow.ensures.refined scopes ∙ ap (λ w. plain (simple_type_view w)) c.deref.ensures)
    (c.in_ok-second-in-Arrow.ensures.refined scopes ∙ ap (λ w. plain (simple_type_view w)) c.deref-in-Arrow.ensures)
    ∙ ap plain (sym (arrow-seen c.args.written.now c.in-Arrow.argument c.in-Arrow.value c.in-Arrow.is))

pub all_plain-loop-at-preserved : goal.all_plain-loop-at-preserved
all_plain-loop-at-preserved t c =
    let i = c.loop-at.at in
    let items = simple_types_items c.args.written.now in
    elim c.match-get.branch [
      | all_plain-in-Some+in_ok-plain+in_ok-push w ↦
          let t0 = c.loop-at.types in
          let t1 = w.plain.new.types in
          let made = c.loop-at.rows.items in
          record {
            refined = λ scopes.
                ap (λ T. map (at (types_of scopes T)) c.match-get.rows.items) w.types-is
                ∙ ap (λ R. map (at (types_of scopes t1)) R.items) w.rows-is
                ∙ plain-more (types_of scopes t1) made w.push.new.self.items items i w.in_ok-plain.field-0 w.in-Some.part.now
                (map-grown scopes t0.rows.items t1.rows.items made w.plain.ensures.grows c.loop-at.invariant.there ∙ c.loop-at.invariant.refined scopes)
                w.in_ok-push.ensures.items (sym w.in-Some.ensures) (w.in_ok-plain.ensures.refined scopes);
            there = subst (λ T. All (λ p. p < count_of T) c.match-get.rows.items) (sym w.types-is)
                (subst (λ R. All (λ p. p < count_of t1) R.items) (sym w.rows-is)
                (subst (All (λ p. p < count_of t1)) (sym w.in_ok-push.ensures.items)
                (All-push (λ p. p < count_of t1) made w.in_ok-plain.field-0
                (All-weaker (λ p. p < count_of t0) (λ p. p < count_of t1)
                (λ p l. extends-there t0.rows.items t1.rows.items p w.plain.ensures.grows l) made c.loop-at.invariant.there)
                w.in_ok-plain.ensures.there)));
            grows = subst (Grows c.args.types.now) (sym w.types-is)
                (Extends-trans c.args.types.now.rows.items t0.rows.items t1.rows.items c.loop-at.invariant.grows w.plain.ensures.grows);
          }
      | all_plain-in_default w ↦
          let inside : i < length items = (let h = c.loop-at-test.true in let l = c.len-at-end.ensures in omega arith) in
          absurd (is_found items i inside w.in_default.ensures)
    ]

pub all_plain-returns-clause-refined : goal.all_plain-returns-clause-refined
all_plain-returns-clause-refined t c = λ scopes.
    let items = simple_types_items c.args.written.now in
    let past : length items ≤ c.loop-at.at = (let h = c.loop-at-test.false in let l = c.len-at-end.ensures in omega arith) in
    ap row_of (c.loop-at.invariant.refined scopes ∙ ap (map plain) (all_front simple_type_view items c.loop-at.at past))
    ∙ rows-plain (map simple_type_view items) ∙ ap all_plain (sym (row_seen c.args.written.now))
