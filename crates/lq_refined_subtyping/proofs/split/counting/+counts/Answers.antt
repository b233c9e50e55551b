use Rattle.std.proofs.Common.{◌≡◌, suc, ◌+◌, ◌*◌, ◌<◌, [], All, get_or, ap, subst, arith}
use Rattle.lq_refined_types.specs.Types.Refined.{all_erased, erased}
use Rattle.lq_refined_subtyping.specs.Table.Forms.{each, form_rows, form_type}
use Rattle.lq_refined_subtyping.specs.Table.Growing.{extends-at, extends-there, Extends-trans}
use Rattle.lq_refined_subtyping.specs.Table.Whole.{count_of, refined_at, types_of}
use Rattle.lq_refined_substitution.specs.Substitution.Views.{scopes_view}
use Rattle.lq_refined_subtyping.specs.Split.Counting.{on_left, on_right}
use Rattle.lq_refined_subtyping.proofs.SplitLemmas.Lengths.{lefts-more, rights-more}
use Rattle.lq_refined_subtyping.proofs.SplitLemmas.Sizing.{size, row_size, size-inside}
use Rattle.lq_refined_subtyping.proofs.split.counting.+counts.Goals as goal

pub form_counts-counts-requires-in-Function : goal.form_counts-counts-requires-in-Function
form_counts-counts-requires-in-Function t c =
    let old = c.args.types.now in
    let new = c.counts.new.types in
    let S = scopes_view c.args.scopes.now in
    let all = types_of S old in
    let a = c.in-Function.a in
    let b = c.in-Function.b in
    let there : b < count_of old = subst (λ f. All (λ p. p < count_of old) (form_rows f)) c.in-Function.is c.requires 1 0 (omega arith) in
    let same : size (erased (refined_at S new b)) ≡ size (erased (refined_at S old b)) = ap (λ u. size (erased u)) (extends-at S old.rows.items new.rows.items b c.counts.ensures.grows there) in
    let whole : size (erased (form_type all c.args.form.now [])) ≡ suc (size (erased (refined_at S old a)) + size (erased (refined_at S old b))) =
    ap (λ f. size (erased (form_type all f []))) c.in-Function.is in
    let m : 2 * size (erased (form_type all c.args.form.now [])) ≡ t = c.decreases in
    (omega arith, extends-there old.rows.items new.rows.items b c.counts.ensures.grows there)

pub form_counts-returns-in_ok-result-in-Function-clause-right : goal.form_counts-returns-in_ok-result-in-Function-clause-right
form_counts-returns-in_ok-result-in-Function-clause-right t c =
    let old = c.args.types.now in
    let new = c.counts.new.types in
    let S = scopes_view c.args.scopes.now in
    let all = types_of S old in
    let a = c.in-Function.a in
    let b = c.in-Function.b in
    let there : b < count_of old = subst (λ f. All (λ p. p < count_of old) (form_rows f)) c.in-Function.is c.requires 1 0 (omega arith) in
    let same : on_right (refined_at S new b) ≡ on_right (refined_at S old b) = ap on_right (extends-at S old.rows.items new.rows.items b c.counts.ensures.grows there) in
    let whole : on_right (form_type all c.args.form.now []) ≡ on_left (refined_at S old a) + on_right (refined_at S old b) =
    ap (λ f. on_right (form_type all f [])) c.in-Function.is in
    let h = c.in_ok-argument-in-Function.ensures.left in
    let k = c.in_ok-result-in-Function.ensures.right in
    let e = c.saturating_add.ensures in
    omega arith

pub form_counts-returns-in_ok-result-in-Function-clause-left : goal.form_counts-returns-in_ok-result-in-Function-clause-left
form_counts-returns-in_ok-result-in-Function-clause-left t c =
    let old = c.args.types.now in
    let new = c.counts.new.types in
    let S = scopes_view c.args.scopes.now in
    let all = types_of S old in
    let a = c.in-Function.a in
    let b = c.in-Function.b in
    let there : b < count_of old = subst (λ f. All (λ p. p < count_of old) (form_rows f)) c.in-Function.is c.requires 1 0 (omega arith) in
    let same : on_left (refined_at S new b) ≡ on_left (refined_at S old b) = ap on_left (extends-at S old.rows.items new.rows.items b c.counts.ensures.grows there) in
    let whole : on_left (form_type all c.args.form.now []) ≡ on_right (refined_at S old a) + on_left (refined_at S old b) =
    ap (λ f. on_left (form_type all f [])) c.in-Function.is in
    let h = c.in_ok-argument-in-Function.ensures.right in
    let k = c.in_ok-result-in-Function.ensures.left in
    let e = c.saturating_add-in-Function.ensures in
    omega arith

pub row_counts-counts-requires : goal.row_counts-counts-requires
row_counts-counts-requires t c =
    let init = c.args.types.now in
    let now = c.loop-at.types in
    let S = scopes_view c.args.scopes.now in
    let row = c.args.row.now in
    let at = get_or row c.loop-at.at-index 0 in
    let there : at < count_of init = c.requires c.loop-at.at-index 0 c.loop-at-test.true in
    let same : size (erased (refined_at S now at)) ≡ size (erased (refined_at S init at)) = ap (λ u. size (erased u)) (extends-at S init.rows.items now.rows.items at c.loop-at.invariant.grows there) in
    let low : size (erased (refined_at S init at)) < row_size (all_erased (each (types_of S init) row)) = size-inside (types_of S init) row c.loop-at.at-index 0 c.loop-at-test.true in
    let m : 2 * row_size (all_erased (each (types_of S init) row)) ≡ t = c.decreases in
    (omega arith, extends-there init.rows.items now.rows.items at c.loop-at.invariant.grows there)

pub row_counts-loop-at-preserved : goal.row_counts-loop-at-preserved
row_counts-loop-at-preserved t c =
    let init = c.args.types.now in
    let now = c.loop-at.types in
    let new = c.counts.new.types in
    let S = scopes_view c.args.scopes.now in
    let row = c.args.row.now in
    let i = c.loop-at.at-index in
    let at = get_or row i 0 in
    let there : at < count_of init = c.requires i 0 c.loop-at-test.true in
    let stays = extends-at S init.rows.items now.rows.items at c.loop-at.invariant.grows there in
    let right_stays : on_right (refined_at S now at) ≡ on_right (refined_at S init at) = ap on_right stays in
    let left_stays : on_left (refined_at S now at) ≡ on_left (refined_at S init at) = ap on_left stays in
    let r = rights-more (types_of S init) row i 0 c.loop-at-test.true in
    let l = lefts-more (types_of S init) row i 0 c.loop-at-test.true in
    let one_right = c.in_ok-one.ensures.right in
    let one_left = c.in_ok-one.ensures.left in
    let e = c.saturating_add-right.ensures in
    let f = c.saturating_add-left.ensures in
    record {
      right = omega arith;
      left = omega arith;
      grows = Extends-trans init.rows.items now.rows.items new.rows.items c.loop-at.invariant.grows c.counts.ensures.grows;
    }
