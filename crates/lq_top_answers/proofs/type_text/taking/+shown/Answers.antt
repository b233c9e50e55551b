use Rattle.std.proofs.Common.{◌≡◌, suc, ◌+◌, ◌*◌, ◌<◌, [], All, get_or, map, sym, ap, ap₂, subst, ◌∙◌, arith}
use Rattle.std.proofs.lemmas.List.{take_all}
use Rattle.lq_refined_types.specs.Types.Operations.{under}
use Rattle.lq_refined_types.specs.Types.Refined.{function}
use Rattle.lq_refined_subtyping.specs.Table.Forms.{binder_view, each, form_rows, form_type, row_of}
use Rattle.lq_refined_subtyping.specs.Table.Growing.{extends-at, extends-there, Extends-trans}
use Rattle.lq_refined_subtyping.specs.Table.Whole.{count_of, refined_at, types_of}
use Rattle.lq_refined_substitution.specs.Substitution.Views.{scopes_view}
use Rattle.lq_top_answers.specs.Assignment.Sizes.{size, row_size}
use Rattle.lq_top_answers.specs.Assignment.Views.{assignment_view}
use Rattle.lq_top_answers.proofs.TypeTextLemmas.Known.{function_seen}
use Rattle.lq_top_answers.proofs.TypeTextLemmas.Sizing.{size-inside}
use Rattle.lq_top_answers.proofs.TypeTextLemmas.TakenRows.{each-under, shown-more}
use Rattle.lq_top_answers.proofs.type_text.taking.+shown.Goals as goal

pub all_shown-shown-requires : goal.all_shown-shown-requires
all_shown-shown-requires t c =
    let init = c.args.types.now in
    let now = c.loop-at.types in
    let S = scopes_view c.args.given.now.scopes.now in
    let parts = c.args.parts.now in
    let at = get_or parts c.loop-at.at-index 0 in
    let there : at < count_of init = c.requires c.loop-at.at-index 0 c.loop-at-test.true in
    let same : size (refined_at S now at) ≡ size (refined_at S init at) = ap size (extends-at S init.rows.items now.rows.items at c.loop-at.invariant.grows there) in
    let low : size (refined_at S init at) < row_size (each (types_of S init) parts) = size-inside (types_of S init) parts c.loop-at.at-index 0 c.loop-at-test.true in
    let m : 3 * row_size (each (types_of S init) parts) ≡ t = c.decreases in
    (omega arith, extends-there init.rows.items now.rows.items at c.loop-at.invariant.grows there)

pub all_shown-loop-at-preserved : goal.all_shown-loop-at-preserved
all_shown-loop-at-preserved t c =
    let init = c.args.types.now in
    let now = c.loop-at.types in
    let new = c.shown.new.types in
    let S = scopes_view c.args.given.now.scopes.now in
    let A = assignment_view c.args.given.now.assignment.now in
    let parts = c.args.parts.now in
    let i = c.loop-at.at-index in
    let at = get_or parts i 0 in
    record {
      shown = shown-more (λ p. under A (refined_at S init p)) c.loop-at.made.items c.push.new.self.items parts i c.in_ok-shown.field-0 0
          c.loop-at.invariant.shown c.in_ok-push.ensures.items
          (c.in_ok-shown.ensures.shown
          ∙ ap (under A) (extends-at S init.rows.items now.rows.items at c.loop-at.invariant.grows (c.requires i 0 c.loop-at-test.true)))
          c.loop-at-test.true;
      grows = Extends-trans init.rows.items now.rows.items new.rows.items c.loop-at.invariant.grows c.shown.ensures.grows;
    }

pub all_shown-returns-clause-shown : goal.all_shown-returns-clause-shown
all_shown-returns-clause-shown t c =
    let init = c.args.types.now in
    let S = scopes_view c.args.given.now.scopes.now in
    let A = assignment_view c.args.given.now.assignment.now in
    let parts = c.args.parts.now in
    ap row_of (c.loop-at.invariant.shown ∙ ap (map (λ p. under A (refined_at S init p))) (take_all c.loop-at.at-index parts c.loop-at-test.false))
    ∙ each-under A (types_of S init) parts

pub form_shown-boxed-requires-in-Function : goal.form_shown-boxed-requires-in-Function
form_shown-boxed-requires-in-Function t c =
    let old = c.args.types.now in
    let new = c.boxed.new.types in
    let S = scopes_view c.args.given.now.scopes.now in
    let all = types_of S old in
    let a = c.in-Function.a in
    let b = c.in-Function.b in
    let there : b < count_of old = subst (λ f. All (λ p. p < count_of old) (form_rows f)) c.in-Function.is c.requires 1 0 (omega arith) in
    let same : size (refined_at S new b) ≡ size (refined_at S old b) = ap size (extends-at S old.rows.items new.rows.items b c.boxed.ensures.grows there) in
    let whole : size (form_type all c.args.form []) ≡ suc (size (refined_at S old a) + size (refined_at S old b)) =
    ap (λ f. size (form_type all f [])) c.in-Function.is in
    let m : 3 * size (form_type all c.args.form []) ≡ t = c.decreases in
    (omega arith, extends-there old.rows.items new.rows.items b c.boxed.ensures.grows there)

pub form_shown-returns-in_ok-result-in-Function-clause-shown : goal.form_shown-returns-in_ok-result-in-Function-clause-shown
form_shown-returns-in_ok-result-in-Function-clause-shown t c =
    let old = c.args.types.now in
    let now = c.boxed.new.types in
    let S = scopes_view c.args.given.now.scopes.now in
    let A = assignment_view c.args.given.now.assignment.now in
    let b = c.in-Function.b in
    let there : b < count_of old = subst (λ f. All (λ p. p < count_of old) (form_rows f)) c.in-Function.is c.requires 1 0 (omega arith) in
    λ p e.
    function_seen c.in-Function.x c.in_ok-argument-in-Function.argument c.in_ok-result-in-Function.result
    ∙ ap₂ (function (binder_view c.in-Function.x)) c.in_ok-argument-in-Function.ensures.shown
    (c.in_ok-result-in-Function.ensures.shown ∙ ap (under A) (extends-at S old.rows.items now.rows.items b c.boxed.ensures.grows there))
    ∙ ap (λ f. under A (form_type (types_of S old) f p)) (sym c.in-Function.is)
