use Rattle.std.proofs.Common.{◌≡◌, ◌∷◌, ◌++◌, suc, ◌+◌, ◌*◌, ◌<◌, [], All, get_or, map, sym, ap, ap₂, subst, ◌∙◌, arith}
use Rattle.std.proofs.lemmas.List.{take_all}
use Rattle.std.proofs.lemmas.List.Elements.{All-push, All-same}
use Rattle.lq_refined_rules.specs.Checks.Operation.{keyed}
use Rattle.lq_refined_types.specs.Types.Refined.{function, all_erased, erased}
use Rattle.lq_refined_subtyping.specs.Table.Forms.{binder_view, each, form_rows, form_type, row_of}
use Rattle.lq_refined_subtyping.specs.Table.Growing.{extends-at, extends-there, Extends-trans}
use Rattle.lq_refined_subtyping.specs.Table.Whole.{count_of, refined_at, types_of}
use Rattle.lq_refined_subtyping.proofs.TableLemmas.Entries.{made-more, map-grown}
use Rattle.lq_refined_subtyping.specs.Split.Growing.{all-grown}
use Rattle.lq_refined_subtyping.proofs.SplitLemmas.Sizing.{size, row_size, size-inside}
use Rattle.lq_refined_substitution.specs.Substitution.Views.{scopes_view, subst_view}
use Rattle.lq_generate_operations.proofs.OperationsLemmas.Rows.{keyed-each}
use Rattle.lq_generate_operations.proofs.operations.keys.+keyed.Goals as goal

pub keyed_form-keyed-requires-in-Function : goal.keyed_form-keyed-requires-in-Function
keyed_form-keyed-requires-in-Function t c =
    let old = c.args.types.now in
    let new = c.keyed.new.types in
    let S = scopes_view c.args.scopes.now in
    let all = types_of S old in
    let a = c.in-Function.argument in
    let b = c.in-Function.result in
    let there : b < count_of old = subst (λ f. All (λ p. p < count_of old) (form_rows f)) c.in-Function.is c.requires 1 0 (omega arith) in
    let same : size (erased (refined_at S new b)) ≡ size (erased (refined_at S old b)) =
    ap (λ u. size (erased u)) (extends-at S old.rows.items new.rows.items b c.keyed.ensures.grows there) in
    let whole : size (erased (form_type all c.args.form [])) ≡ suc (size (erased (refined_at S old a)) + size (erased (refined_at S old b))) =
    ap (λ f. size (erased (form_type all f []))) c.in-Function.is in
    let m : 2 * size (erased (form_type all c.args.form [])) ≡ t = c.decreases in
    (omega arith, extends-there old.rows.items new.rows.items b c.keyed.ensures.grows there)

pub keyed_form-returns-in_ok-result-in-Function-clause-refined : goal.keyed_form-returns-in_ok-result-in-Function-clause-refined
keyed_form-returns-in_ok-result-in-Function-clause-refined t c =
    let old = c.args.types.now in
    let now = c.keyed.new.types in
    let new = c.keyed-in-Function.new.types in
    let S = scopes_view c.args.scopes.now in
    let θ = subst_view c.args.by.now in
    let all = types_of S old in
    let b = c.in-Function.result in
    let there : b < count_of old = subst (λ f. All (λ p. p < count_of old) (form_rows f)) c.in-Function.is c.requires 1 0 (omega arith) in
    λ p.
    ap₂ (function (binder_view c.in-Function.binder))
    (extends-at S now.rows.items new.rows.items c.in_ok-argument-in-Function.argument c.keyed-in-Function.ensures.grows
    c.in_ok-argument-in-Function.ensures.there
    ∙ c.in_ok-argument-in-Function.ensures.refined)
    (c.in_ok-result-in-Function.ensures.refined
    ∙ ap (keyed S θ) (extends-at S old.rows.items now.rows.items b c.keyed.ensures.grows there))
    ∙ sym (ap (λ f. keyed S θ (form_type all f p)) c.in-Function.is)

pub keyed_row-keyed-requires : goal.keyed_row-keyed-requires
keyed_row-keyed-requires t c =
    let init = c.args.types.now in
    let now = c.loop-at.types in
    let S = scopes_view c.args.scopes.now in
    let row = c.args.row.now in
    let at = get_or row c.loop-at.at-index 0 in
    let there : at < count_of init = c.requires c.loop-at.at-index 0 c.loop-at-test.true in
    let same : size (erased (refined_at S now at)) ≡ size (erased (refined_at S init at)) =
    ap (λ u. size (erased u)) (extends-at S init.rows.items now.rows.items at c.loop-at.invariant.grows there) in
    let low : size (erased (refined_at S init at)) < row_size (all_erased (each (types_of S init) row)) =
    size-inside (types_of S init) row c.loop-at.at-index 0 c.loop-at-test.true in
    let m : 2 * row_size (all_erased (each (types_of S init) row)) ≡ t = c.decreases in
    (omega arith, extends-there init.rows.items now.rows.items at c.loop-at.invariant.grows there)

pub keyed_row-loop-at-preserved : goal.keyed_row-loop-at-preserved
keyed_row-loop-at-preserved t c =
    let init = c.args.types.now in
    let now = c.loop-at.types in
    let new = c.keyed.new.types in
    let S = scopes_view c.args.scopes.now in
    let θ = subst_view c.args.by.now in
    let row = c.args.row.now in
    let i = c.loop-at.at-index in
    let made = c.loop-at.made.items in
    let r = c.in_ok-keyed.field-0 in
    let g = c.keyed.ensures.grows in
    record {
      refined = made-more (λ p. keyed S θ (refined_at S init p)) (types_of S new) made c.push.new.self.items row i r 0
          (map-grown S now.rows.items new.rows.items made g c.loop-at.invariant.there ∙ c.loop-at.invariant.refined)
          c.in_ok-push.ensures.items
          (c.in_ok-keyed.ensures.refined
          ∙ ap (keyed S θ) (extends-at S init.rows.items now.rows.items (get_or row i 0) c.loop-at.invariant.grows (c.requires i 0 c.loop-at-test.true)))
          c.loop-at-test.true;
      there = All-same (λ p. p < count_of new) c.push.new.self.items (made ++ r ∷ []) c.in_ok-push.ensures.items
          (All-push (λ p. p < count_of new) made r (all-grown now.rows.items new.rows.items made g c.loop-at.invariant.there)
          c.in_ok-keyed.ensures.there);
      grows = Extends-trans init.rows.items now.rows.items new.rows.items c.loop-at.invariant.grows g;
    }

pub keyed_row-returns-clause-refined : goal.keyed_row-returns-clause-refined
keyed_row-returns-clause-refined t c =
    let S = scopes_view c.args.scopes.now in
    let θ = subst_view c.args.by.now in
    let init = c.args.types.now in
    ap row_of (c.loop-at.invariant.refined
    ∙ ap (map (λ p. keyed S θ (refined_at S init p))) (take_all c.loop-at.at-index c.args.row.now c.loop-at-test.false))
    ∙ sym (keyed-each S θ (types_of S init) c.args.row.now)
