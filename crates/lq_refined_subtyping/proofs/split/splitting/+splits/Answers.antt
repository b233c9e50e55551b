use Rattle.std.proofs.Common.{◌≡◌, suc, ◌+◌, ◌*◌, ◌<◌, ◌++◌, ◌≤◌, ◌∷◌, [], get_or, length, slice_index_or, take, refl, sym, ap, ap₂, ◌∙◌, arith}
use Rattle.std.proofs.Math.Numerals.{add-one}
use Rattle.std.proofs.lemmas.List.{take_all}
use Rattle.std.proofs.lemmas.Result.{on_ok_weaker}
use Rattle.lq_refined_substitution.specs.Implications.Growing.{Continues-refl, Continues-same, Continues-trans}
use Rattle.lq_refined_substitution.specs.Implications.Views.{count_of as implication_count, environment_lists, implications_of}
use Rattle.lq_logic_predicates.specs.declared.symbol.Symbol.TheVariants.{Position}
use Rattle.lq_refined_types.specs.Types.Context.{name, hypotheses_of}
use Rattle.lq_refined_types.specs.Types.Operations.{renamed}
use Rattle.lq_refined_types.specs.Types.Refined.{all_erased, erased, kind}
use Rattle.lq_refined_subtyping.specs.Table.Forms.{binder_view, each, form_type, matrix_view}
use Rattle.lq_refined_subtyping.specs.Table.Growing.{extends-at, extends-there, Extends-refl, Extends-trans}
use Rattle.lq_refined_subtyping.specs.Table.Whole.{count_of, refined_at, types_of}
use Rattle.lq_refined_substitution.specs.Substitution.Views.{parts_view}
use Rattle.lq_refined_types.specs.Subtyping.Splitting.{arguments, cells, components, inside, split, tops}
use Rattle.lq_refined_types.specs.Subtyping.Subtype.{shared, with_binder, with_fields}
use Rattle.lq_refined_subtyping.specs.Split.Given.{origin_of, scopes_of, setting_of}
use Rattle.lq_refined_subtyping.specs.Split.Growing.{environment-kept, environment-there, there-grown, HasMore-refl, HasMore-trans}
use Rattle.lq_refined_subtyping.proofs.SplitLemmas.Appending.{appends-none, more-both, more-same, more-then}
use Rattle.lq_refined_subtyping.proofs.SplitLemmas.Contexts.{fields-more}
use Rattle.lq_refined_subtyping.proofs.SplitLemmas.Erasing.{erased-renamed, same-at, same-length, same-name}
use Rattle.lq_refined_subtyping.proofs.SplitLemmas.Matching.{nothing-inside}
use Rattle.lq_refined_subtyping.proofs.SplitLemmas.Rows.{each-grown, knows-grown}
use Rattle.lq_refined_subtyping.proofs.SplitLemmas.Sizing.{size, row_size, size-inside}
use Rattle.lq_refined_subtyping.proofs.SplitLemmas.Splits.{arguments-more, components-more, pair}
use Rattle.lq_refined_subtyping.proofs.split.splitting.+splits.Goals as goal

-- ---- two types

pub subtypes-returns-clause-added : goal.subtypes-returns-clause-added
subtypes-returns-clause-added t c =
    let given = c.args.given.now in
    let S = scopes_of given in
    let o = origin_of given in
    let t0 = c.args.types.now in
    let t1 = c.exposed.new.types in
    let all = types_of S t1 in
    let l0 = c.args.list.now in
    let l1 = c.tops.new.list in
    let l2 = c.inside.new.list in
    let l = c.in_ok-left.left in
    let r = c.in_ok-right.right in
    let p = parts_view c.node.result.now.top in
    let q = parts_view c.node-2.result.now.top in
    let left : form_type all l p ≡ refined_at S t0 c.args.sides.0 =
    c.in_ok-left.ensures.same all p ∙ sym (c.node.ensures.refined S) ∙ c.in_ok-sides.ensures.left in
    let right : form_type all r q ≡ refined_at S t0 c.args.sides.1 =
    c.in_ok-right.ensures.same all q ∙ sym (c.node-2.ensures.refined S) ∙ c.in_ok-sides.ensures.right in
    on_ok_weaker c.inside.result
    (λ a. λ g Γ k e Δ f.
    let P = setting_of given g in
    more-same (implications_of l0) (implications_of l2) (implication_count l0) (implication_count l2) _ _
    (ap₂ (λ xs ys. xs ++ ys) (ap₂ (tops P o Δ) c.in_ok-sides.ensures.left c.in_ok-sides.ensures.right)
    (ap₂ (λ x y. inside P o (erased y) Γ x y) left right))
    (more-both (implications_of l0) (implications_of l1) (implications_of l1) (implications_of l2) (implication_count l0) (implication_count l1)
    (implication_count l1) (implication_count l2)
    (tops P o Δ (refined_at S t1 c.in_ok-sides.sides.0) (refined_at S t1 c.in_ok-sides.sides.1))
    (inside P o (erased (form_type all r q)) Γ (form_type all l p) (form_type all r q))
    (c.in_ok-tops.ensures.added g Δ f) refl refl
    (a g Γ (knows-grown S t0.rows.items t1.rows.items given.fields.now g c.in_ok-sides.ensures.grows c.requires.fields k)
    (e ∙ ap (λ es. slice_index_or es c.args.envs.0 []) (sym c.tops.ensures.environments)) p q)))
    c.inside.ensures.added

-- ---- arrays

pub both_ways-returns-clause-added : goal.both_ways-returns-clause-added
both_ways-returns-clause-added t c =
    let given = c.args.given.now in
    let S = scopes_of given in
    let o = origin_of given in
    let t0 = c.args.types.now in
    let t1 = c.subtypes.new.types in
    let l0 = c.args.list.now in
    let l1 = c.subtypes.new.list in
    let l2 = c.subtypes-2.new.list in
    let x = c.args.elements.0 in
    let y = c.args.elements.1 in
    let grows = c.in_ok-subtypes.ensures.grows in
    on_ok_weaker c.subtypes-2.result
    (λ a. λ g Γ k e.
    let P = setting_of given g in
    let f = e ∙ sym (environment-kept (environment_lists l0) (environment_lists l1) c.args.env c.in_ok-subtypes.ensures.environments c.requires.env) in
    more-same (implications_of l0) (implications_of l2) (implication_count l0) (implication_count l2) _ _
    (ap₂ (λ u v. split P o Γ (refined_at S t0 x) (refined_at S t0 y) ++ split P o Γ u v)
    (extends-at S t0.rows.items t1.rows.items y grows c.requires.right) (extends-at S t0.rows.items t1.rows.items x grows c.requires.left))
    (more-both (implications_of l0) (implications_of l1) (implications_of l1) (implications_of l2) (implication_count l0) (implication_count l1)
    (implication_count l1) (implication_count l2)
    (split P o Γ (refined_at S t0 x) (refined_at S t0 y)) (split P o Γ (refined_at S t1 y) (refined_at S t1 x))
    (c.in_ok-subtypes.ensures.added g Γ k e Γ e) refl refl
    (a g Γ (knows-grown S t0.rows.items t1.rows.items given.fields.now g grows c.requires.fields k) f Γ f)))
    c.subtypes-2.ensures.added

pub arrays-both_ways-requires : goal.arrays-both_ways-requires
arrays-both_ways-requires t c =
    let given = c.args.given.now in
    let S = scopes_of given in
    let t0 = c.args.types.now in
    let t1 = c.has_implications.new.types in
    let x = c.args.elements.0 in
    let y = c.args.elements.1 in
    let grows = c.in_ok-has_implications.ensures.grows in
    let left : erased (refined_at S t1 x) ≡ erased (refined_at S t0 x) = ap erased (extends-at S t0.rows.items t1.rows.items x grows c.requires.left) in
    let right : erased (refined_at S t1 y) ≡ erased (refined_at S t0 y) = ap erased (extends-at S t0.rows.items t1.rows.items y grows c.requires.right) in
    let small : size (erased (refined_at S t1 y)) ≡ size (erased (refined_at S t0 y)) = ap size right in
    let m : 4 * size (erased (refined_at S t0 y)) + 3 ≡ t = c.decreases in (
      omega arith,
      (
        c.requires.env,
        (
          extends-there t0.rows.items t1.rows.items x grows c.requires.left,
          (
            extends-there t0.rows.items t1.rows.items y grows c.requires.right,
            (there-grown t0.rows.items t1.rows.items given.fields.now grows c.requires.fields, left ∙ c.requires.same ∙ sym right),
          ),
        ),
      ),
    )

pub arrays-returns-then-not-branch-clause-added : goal.arrays-returns-then-not-branch-clause-added
arrays-returns-then-not-branch-clause-added t c =
    let given = c.args.given.now in
    let l0 = c.args.list.now in
    λ g Γ k e.
    more-same (implications_of l0) (implications_of l0) (implication_count l0) (implication_count l0) _ _
    (sym (c.in_ok-has_implications.ensures.none c.if-not-branch.true (setting_of given g) (origin_of given) Γ)) (appends-none l0)

pub arrays-returns-clause-added : goal.arrays-returns-clause-added
arrays-returns-clause-added t c =
    let given = c.args.given.now in
    let S = scopes_of given in
    let o = origin_of given in
    let t0 = c.args.types.now in
    let t1 = c.has_implications.new.types in
    let l0 = c.args.list.now in
    let l1 = c.both_ways.new.list in
    let x = c.args.elements.0 in
    let y = c.args.elements.1 in
    let grows = c.in_ok-has_implications.ensures.grows in
    on_ok_weaker c.both_ways.result
    (λ a. λ g Γ k e.
    let P = setting_of given g in
    more-same (implications_of l0) (implications_of l1) (implication_count l0) (implication_count l1) _ _
    (ap₂ (λ u v. split P o Γ u v ++ split P o Γ v u) (extends-at S t0.rows.items t1.rows.items x grows c.requires.left)
    (extends-at S t0.rows.items t1.rows.items y grows c.requires.right))
    (a g Γ (knows-grown S t0.rows.items t1.rows.items given.fields.now g grows c.requires.fields k) e))
    c.both_ways.ensures.added

-- ---- functions

pub functions-returns-clause-added : goal.functions-returns-clause-added
functions-returns-clause-added t c =
    let given = c.args.given.now in
    let S = scopes_of given in
    let o = origin_of given in
    let t0 = c.args.types.now in
    let t1 = c.subtypes.new.types in
    let t2 = c.results_under.new.types in
    let l0 = c.args.list.now in
    let l1 = c.subtypes.new.list in
    let l2 = c.results_under.new.list in
    let l3 = c.subtypes-2.new.list in
    let left = c.args.left in
    let right = c.args.right in
    let z = shared (binder_view left.binder) (binder_view right.binder) in
    let grows = c.in_ok-subtypes.ensures.grows in
    let both = Extends-trans t0.rows.items t1.rows.items t2.rows.items grows c.in_ok-under.ensures.grows in
    let la = refined_at S t0 left.argument in
    let ra = refined_at S t0 right.argument in
    let lr : refined_at S t2 c.in_ok-under.under.left ≡ renamed S (binder_view left.binder) z (kind la) (refined_at S t0 left.result) =
    c.in_ok-under.ensures.refined
    ∙ ap₂ (λ a b. renamed S (binder_view left.binder) z (kind a) b) (extends-at S t0.rows.items t1.rows.items left.argument grows c.requires.left_argument)
    (extends-at S t0.rows.items t1.rows.items left.result grows c.requires.left_result) in
    let rr : refined_at S t2 right.result ≡ refined_at S t0 right.result = extends-at S t0.rows.items t2.rows.items right.result both c.requires.right_result in
    on_ok_weaker c.subtypes-2.result
    (λ a. λ g Γ k e.
    let P = setting_of given g in
    let Θ = with_binder z ra Γ in
    let f = e ∙ sym (environment-kept (environment_lists l0) (environment_lists l1) c.args.env c.in_ok-subtypes.ensures.environments c.requires.env) in
    let h = ap (λ u. hypotheses_of S (with_binder z u Γ)) (sym (extends-at S t0.rows.items t1.rows.items right.argument grows c.requires.right_argument))
    ∙ c.in_ok-under.ensures.facts Γ f in
    more-same (implications_of l0) (implications_of l3) (implication_count l0) (implication_count l3) _ _
    (ap₂ (λ xs ys. xs ++ ys) (ap (λ s. tops P o Γ ra la ++ inside P o s Γ ra la) c.requires.arguments)
    (ap₂ (pair P o Θ Θ) lr rr))
    (more-both (implications_of l0) (implications_of l1) (implications_of l2) (implications_of l3) (implication_count l0) (implication_count l1)
    (implication_count l2) (implication_count l3)
    (pair P o Γ Γ ra la) (pair P o Θ Θ (refined_at S t2 c.in_ok-under.under.left) (refined_at S t2 right.result))
    (c.in_ok-subtypes.ensures.added g Γ k e Γ e) c.in_ok-under.ensures.implications c.in_ok-under.ensures.count
    (a g Θ (knows-grown S t0.rows.items t2.rows.items given.fields.now g both c.requires.fields k) h Θ h)))
    c.subtypes-2.ensures.added

pub functions-returns-clause-continues : goal.functions-returns-clause-continues
functions-returns-clause-continues t c =
    let l0 = c.args.list.now in
    let l1 = c.subtypes.new.list in
    let l2 = c.results_under.new.list in
    let l3 = c.subtypes-2.new.list in
    Continues-trans l0 l1 l3 c.in_ok-subtypes.ensures.continues
    (Continues-trans l1 l2 l3 (Continues-same l1 l2 c.in_ok-under.ensures.implications c.in_ok-under.ensures.count) c.subtypes-2.ensures.continues)

-- ---- datatypes

pub datatypes-returns-clause-added : goal.datatypes-returns-clause-added
datatypes-returns-clause-added t c =
    let given = c.args.given.now in
    let S = scopes_of given in
    let o = origin_of given in
    let t0 = c.args.types.now in
    let t1 = c.arguments.new.types in
    let l0 = c.args.list.now in
    let l1 = c.arguments.new.list in
    let l2 = c.cells.new.list in
    let ls = c.args.left.now.arguments.now in
    let m = matrix_view c.args.left.now.matrix.now in
    let n = matrix_view c.args.matrix.now in
    let d = c.args.left.now.name.0 in
    let row = each (types_of S t0) ls in
    let grows = c.in_ok-arguments.ensures.grows in
    on_ok_weaker c.cells.result
    (λ a. λ g Γ k e.
    let P = setting_of given g in
    let f = e ∙ sym (environment-kept (environment_lists l0) (environment_lists l1) c.args.env c.in_ok-arguments.ensures.environments c.requires.env) in
    let first = arguments P o (all_erased (each (types_of S t0) c.args.right.now)) Γ row (each (types_of S t0) c.args.right.now) in
    more-same (implications_of l0) (implications_of l2) (implication_count l0) (implication_count l2) _ _
    (ap (λ ts. first ++ cells P o Γ d ts m n) (each-grown S t0.rows.items t1.rows.items ls grows c.requires.left))
    (more-both (implications_of l0) (implications_of l1) (implications_of l1) (implications_of l2) (implication_count l0) (implication_count l1)
    (implication_count l1) (implication_count l2)
    first (cells P o Γ d (each (types_of S t1) ls) m n)
    (c.in_ok-arguments.ensures.added g Γ k e) refl refl
    (a g Γ (knows-grown S t0.rows.items t1.rows.items given.fields.now g grows c.requires.fields k) f)))
    c.cells.ensures.added

-- ---- arguments in a row

pub arguments-loop-at-init : goal.arguments-loop-at-init
arguments-loop-at-init t c = record {
  added = λ g Γ k e. appends-none c.args.list.now;
  environments = HasMore-refl (environment_lists c.args.list.now);
  continues = Continues-refl c.args.list.now;
  grows = Extends-refl c.args.types.now.rows.items;
}

pub arguments-loop-at-preserved : goal.arguments-loop-at-preserved
arguments-loop-at-preserved t c =
    let given = c.args.given.now in
    let S = scopes_of given in
    let o = origin_of given in
    let t0 = c.args.types.now in
    let t1 = c.loop-at.types in
    let t2 = c.subtypes.new.types in
    let all = types_of S t0 in
    let l0 = c.args.list.now in
    let l1 = c.loop-at.list in
    let l2 = c.subtypes.new.list in
    let ls = c.args.left.now in
    let rs = c.args.right.now in
    let i = c.loop-at.at in
    let h : i < length ls = c.loop-at-test.true in
    let n : length ls ≡ length rs = same-length all ls rs c.requires.same in
    let j : i < length rs = omega arith in
    let x = get_or ls i 0 in
    let y = get_or rs i 0 in
    let grows = c.loop-at.invariant.grows in
    let envs = c.loop-at.invariant.environments in
    record {
      added = λ g Γ k e.
          let P = setting_of given g in
          let f = e ∙ sym (environment-kept (environment_lists l0) (environment_lists l1) c.args.env envs c.requires.env) in
          more-same (implications_of l0) (implications_of l2) (implication_count l0) (implication_count l2) _ _
          (arguments-more P o all ls rs i (refined_at S t1 x) (refined_at S t1 y) h j
          (extends-at S t0.rows.items t1.rows.items x grows (c.requires.left i 0 h))
          (extends-at S t0.rows.items t1.rows.items y grows (c.requires.right i 0 j)) Γ)
          (more-both (implications_of l0) (implications_of l1) (implications_of l1) (implications_of l2) (implication_count l0) (implication_count l1)
          (implication_count l1) (implication_count l2)
          (arguments P o (all_erased (each all (take i rs))) Γ (each all (take i ls)) (each all (take i rs)))
          (pair P o Γ Γ (refined_at S t1 x) (refined_at S t1 y))
          (c.loop-at.invariant.added g Γ k e) refl refl
          (c.in_ok-subtypes.ensures.added g Γ (knows-grown S t0.rows.items t1.rows.items given.fields.now g grows c.requires.fields k) f Γ f));
      environments = HasMore-trans (environment_lists l0) (environment_lists l1) (environment_lists l2) envs c.in_ok-subtypes.ensures.environments;
      continues = Continues-trans l0 l1 l2 c.loop-at.invariant.continues c.in_ok-subtypes.ensures.continues;
      grows = Extends-trans t0.rows.items t1.rows.items t2.rows.items grows c.in_ok-subtypes.ensures.grows;
    }

pub arguments-returns-clause-added : goal.arguments-returns-clause-added
arguments-returns-clause-added t c =
    let given = c.args.given.now in
    let all = types_of (scopes_of given) c.args.types.now in
    let l0 = c.args.list.now in
    let l1 = c.loop-at.list in
    let ls = c.args.left.now in
    let rs = c.args.right.now in
    let i = c.loop-at.at in
    let h : length ls ≤ i = c.loop-at-test.false in
    let n : length ls ≡ length rs = same-length all ls rs c.requires.same in
    λ g Γ k e.
    more-same (implications_of l0) (implications_of l1) (implication_count l0) (implication_count l1) _ _
    (ap₂ (λ xs ys. arguments (setting_of given g) (origin_of given) (all_erased (each all ys)) Γ (each all xs) (each all ys))
    (take_all i ls h) (take_all i rs (omega arith)))
    (c.loop-at.invariant.added g Γ k e)

-- ---- components

pub components-loop-at-init : goal.components-loop-at-init
components-loop-at-init t c = record {
  added = λ g Γ k e. appends-none c.args.list.now;
  position = refl;
  facts = λ Γ e. e;
  there = c.requires.env;
  environments = HasMore-refl (environment_lists c.args.list.now);
  continues = Continues-refl c.args.list.now;
  grows = Extends-refl c.args.types.now.rows.items;
}

pub components-loop-at-preserved : goal.components-loop-at-preserved
components-loop-at-preserved t c =
    let given = c.args.given.now in
    let S = scopes_of given in
    let o = origin_of given in
    let t0 = c.args.types.now in
    let t1 = c.loop-at.types in
    let t2 = c.subtypes.new.types in
    let t3 = c.with_name.new.types in
    let all = types_of S t0 in
    let l0 = c.args.list.now in
    let l1 = c.loop-at.list in
    let l2 = c.subtypes.new.list in
    let l3 = c.with_name.new.list in
    let e0 = environment_lists l0 in
    let e1 = environment_lists l1 in
    let e2 = environment_lists l2 in
    let e3 = environment_lists l3 in
    let ls = c.args.left.now in
    let rs = c.args.right.now in
    let i = c.loop-at.at in
    let h : i < length ls = c.loop-at-test.true in
    let n : length ls ≡ length rs = same-length all ls rs c.requires.same in
    let j : i < length rs = omega arith in
    let x = get_or ls i 0 in
    let y = get_or rs i 0 in
    let grows = c.loop-at.invariant.grows in
    let envs = c.loop-at.invariant.environments in
    let added = c.in_ok-subtypes.ensures.environments in
    let both = Extends-trans t0.rows.items t1.rows.items t2.rows.items grows c.in_ok-subtypes.ensures.grows in
    let there : x < count_of t0 = c.requires.left i 0 h in
    let next : c.in_ok-position.position ≡ suc i = c.in_ok-position.ensures ∙ ap suc c.loop-at.invariant.position in
    record {
      added = λ g Γ k e.
          let P = setting_of given g in
          let Δ = with_fields 0 (each all (take i ls)) Γ in
          let f = e ∙ sym (environment-kept e0 e1 c.args.env envs c.requires.env) in
          more-same (implications_of l0) (implications_of l3) (implication_count l0) (implication_count l3) _ _
          (components-more P o all ls rs i (refined_at S t1 x) (refined_at S t1 y) h j
          (extends-at S t0.rows.items t1.rows.items x grows there)
          (extends-at S t0.rows.items t1.rows.items y grows (c.requires.right i 0 j)) Γ)
          (more-then (implications_of l0) (implications_of l1) (implications_of l2) (implications_of l3) (implication_count l0) (implication_count l1)
          (implication_count l2) (implication_count l3)
          (components P o (all_erased (each all (take i rs))) Γ Γ 0 (each all (take i ls)) (each all (take i rs)))
          (pair P o Γ Δ (refined_at S t1 x) (refined_at S t1 y))
          (c.loop-at.invariant.added g Γ k e)
          (c.in_ok-subtypes.ensures.added g Γ (knows-grown S t0.rows.items t1.rows.items given.fields.now g grows c.requires.fields k) f Δ
          (c.loop-at.invariant.facts Γ e)) c.with_name.ensures.implications c.with_name.ensures.count);
      position = next ∙ sym (add-one i);
      facts = λ Γ e.
          let Δ = with_fields 0 (each all (take i ls)) Γ in
          ap (hypotheses_of S) (fields-more all ls i 0 Γ h)
          ∙ ap₂ (λ m u. hypotheses_of S (name (Position m) u ∷ Δ)) (sym next) (sym (extends-at S t0.rows.items t2.rows.items x both there))
          ∙ c.in_ok-outer.ensures.facts Δ (c.loop-at.invariant.facts Γ e
          ∙ sym (environment-kept e1 e2 c.loop-at.outer added c.loop-at.invariant.there));
      there = c.in_ok-outer.ensures.there;
      environments = HasMore-trans e0 e2 e3 (HasMore-trans e0 e1 e2 envs added) c.with_name.ensures.environments;
      continues = Continues-trans l0 l1 l3 c.loop-at.invariant.continues (Continues-trans l1 l2 l3 c.in_ok-subtypes.ensures.continues
          (Continues-same l2 l3 c.with_name.ensures.implications c.with_name.ensures.count));
      grows = Extends-trans t0.rows.items t2.rows.items t3.rows.items both c.with_name.ensures.grows;
    }

pub components-returns-clause-added : goal.components-returns-clause-added
components-returns-clause-added t c =
    let given = c.args.given.now in
    let all = types_of (scopes_of given) c.args.types.now in
    let l0 = c.args.list.now in
    let l1 = c.loop-at.list in
    let ls = c.args.left.now in
    let rs = c.args.right.now in
    let i = c.loop-at.at in
    let h : length ls ≤ i = c.loop-at-test.false in
    let n : length ls ≡ length rs = same-length all ls rs c.requires.same in
    λ g Γ k e.
    more-same (implications_of l0) (implications_of l1) (implication_count l0) (implication_count l1) _ _
    (ap₂ (λ xs ys. components (setting_of given g) (origin_of given) (all_erased (each all ys)) Γ Γ 0 (each all xs) (each all ys))
    (take_all i ls h) (take_all i rs (omega arith)))
    (c.loop-at.invariant.added g Γ k e)

pub components-returns-in_err-outer-clause-continues : goal.components-returns-in_err-outer-clause-continues
components-returns-in_err-outer-clause-continues t c =
    let l0 = c.args.list.now in
    let l1 = c.loop-at.list in
    let l2 = c.subtypes.new.list in
    let l3 = c.with_name.new.list in
    Continues-trans l0 l1 l3 c.loop-at.invariant.continues
    (Continues-trans l1 l2 l3 c.in_ok-subtypes.ensures.continues (Continues-same l2 l3 c.with_name.ensures.implications c.with_name.ensures.count))

-- ---- what calls ask

pub both_ways-subtypes-requires-2 : goal.both_ways-subtypes-requires-2
both_ways-subtypes-requires-2 t c =
    let given = c.args.given.now in
    let S = scopes_of given in
    let t0 = c.args.types.now in
    let t1 = c.subtypes.new.types in
    let x = c.args.elements.0 in
    let y = c.args.elements.1 in
    let grows = c.in_ok-subtypes.ensures.grows in
    let e0 = environment_lists c.args.list.now in
    let e1 = environment_lists c.subtypes.new.list in
    let left : erased (refined_at S t1 y) ≡ erased (refined_at S t0 y) = ap erased (extends-at S t0.rows.items t1.rows.items y grows c.requires.right) in
    let right : erased (refined_at S t1 x) ≡ erased (refined_at S t0 x) = ap erased (extends-at S t0.rows.items t1.rows.items x grows c.requires.left) in
    let small : size (erased (refined_at S t1 x)) ≡ size (erased (refined_at S t0 y)) = ap size (right ∙ c.requires.same) in
    let m : 4 * size (erased (refined_at S t0 y)) + 2 ≡ t = c.decreases in
    let env = environment-there e0 e1 c.args.env c.in_ok-subtypes.ensures.environments c.requires.env in (
      omega arith,
      (
        env,
        (
          env,
          (
            extends-there t0.rows.items t1.rows.items y grows c.requires.right,
            (
              extends-there t0.rows.items t1.rows.items x grows c.requires.left,
              (there-grown t0.rows.items t1.rows.items given.fields.now grows c.requires.fields, left ∙ sym c.requires.same ∙ sym right),
            ),
          ),
        ),
      ),
    )

pub functions-subtypes-requires-2 : goal.functions-subtypes-requires-2
functions-subtypes-requires-2 t c =
    let given = c.args.given.now in
    let S = scopes_of given in
    let t0 = c.args.types.now in
    let t1 = c.subtypes.new.types in
    let t2 = c.results_under.new.types in
    let left = c.args.left in
    let right = c.args.right in
    let z = shared (binder_view left.binder) (binder_view right.binder) in
    let grows = c.in_ok-subtypes.ensures.grows in
    let both = Extends-trans t0.rows.items t1.rows.items t2.rows.items grows c.in_ok-under.ensures.grows in
    let la = refined_at S t1 left.argument in
    let lr : erased (refined_at S t2 c.in_ok-under.under.left) ≡ erased (refined_at S t0 left.result) =
    ap erased c.in_ok-under.ensures.refined
    ∙ erased-renamed S (binder_view left.binder) z (kind la) (refined_at S t1 left.result)
    ∙ ap erased (extends-at S t0.rows.items t1.rows.items left.result grows c.requires.left_result) in
    let rr : erased (refined_at S t2 right.result) ≡ erased (refined_at S t0 right.result) =
    ap erased (extends-at S t0.rows.items t2.rows.items right.result both c.requires.right_result) in
    let small : size (erased (refined_at S t2 right.result)) ≡ size (erased (refined_at S t0 right.result)) = ap size rr in
    let m : 4 * (size (erased (refined_at S t0 right.argument)) + size (erased (refined_at S t0 right.result))) + 3 ≡ t = c.decreases in (
      omega arith,
      (
        c.in_ok-under.ensures.env,
        (
          c.in_ok-under.ensures.env,
          (
            c.in_ok-under.ensures.there,
            (
              extends-there t0.rows.items t2.rows.items right.result both c.requires.right_result,
              (there-grown t0.rows.items t2.rows.items given.fields.now both c.requires.fields, lr ∙ c.requires.results ∙ sym rr),
            ),
          ),
        ),
      ),
    )

pub arguments-subtypes-requires : goal.arguments-subtypes-requires
arguments-subtypes-requires t c =
    let given = c.args.given.now in
    let S = scopes_of given in
    let t0 = c.args.types.now in
    let t1 = c.loop-at.types in
    let all = types_of S t0 in
    let e0 = environment_lists c.args.list.now in
    let e1 = environment_lists c.loop-at.list in
    let ls = c.args.left.now in
    let rs = c.args.right.now in
    let i = c.loop-at.at in
    let h : i < length ls = c.loop-at-test.true in
    let n : length ls ≡ length rs = same-length all ls rs c.requires.same in
    let j : i < length rs = omega arith in
    let x = get_or ls i 0 in
    let y = get_or rs i 0 in
    let grows = c.loop-at.invariant.grows in
    let left : erased (refined_at S t1 x) ≡ erased (refined_at S t0 x) = ap erased (extends-at S t0.rows.items t1.rows.items x grows (c.requires.left i 0 h)) in
    let right : erased (refined_at S t1 y) ≡ erased (refined_at S t0 y) = ap erased (extends-at S t0.rows.items t1.rows.items y grows (c.requires.right i 0 j)) in
    let same : size (erased (refined_at S t1 y)) ≡ size (erased (refined_at S t0 y)) = ap size right in
    let low : size (erased (refined_at S t0 y)) < row_size (all_erased (each all rs)) = size-inside all rs i 0 j in
    let m : 4 * row_size (all_erased (each all rs)) ≡ t = c.decreases in
    let env = environment-there e0 e1 c.args.env c.loop-at.invariant.environments c.requires.env in (
      omega arith,
      (
        env,
        (
          env,
          (
            extends-there t0.rows.items t1.rows.items x grows (c.requires.left i 0 h),
            (
              extends-there t0.rows.items t1.rows.items y grows (c.requires.right i 0 j),
              (there-grown t0.rows.items t1.rows.items given.fields.now grows c.requires.fields, left ∙ same-at all ls rs i 0 c.requires.same h ∙ sym right),
            ),
          ),
        ),
      ),
    )

pub components-subtypes-requires : goal.components-subtypes-requires
components-subtypes-requires t c =
    let given = c.args.given.now in
    let S = scopes_of given in
    let t0 = c.args.types.now in
    let t1 = c.loop-at.types in
    let all = types_of S t0 in
    let e0 = environment_lists c.args.list.now in
    let e1 = environment_lists c.loop-at.list in
    let ls = c.args.left.now in
    let rs = c.args.right.now in
    let i = c.loop-at.at in
    let h : i < length ls = c.loop-at-test.true in
    let n : length ls ≡ length rs = same-length all ls rs c.requires.same in
    let j : i < length rs = omega arith in
    let x = get_or ls i 0 in
    let y = get_or rs i 0 in
    let grows = c.loop-at.invariant.grows in
    let left : erased (refined_at S t1 x) ≡ erased (refined_at S t0 x) = ap erased (extends-at S t0.rows.items t1.rows.items x grows (c.requires.left i 0 h)) in
    let right : erased (refined_at S t1 y) ≡ erased (refined_at S t0 y) = ap erased (extends-at S t0.rows.items t1.rows.items y grows (c.requires.right i 0 j)) in
    let same : size (erased (refined_at S t1 y)) ≡ size (erased (refined_at S t0 y)) = ap size right in
    let low : size (erased (refined_at S t0 y)) < row_size (all_erased (each all rs)) = size-inside all rs i 0 j in
    let m : 4 * row_size (all_erased (each all rs)) ≡ t = c.decreases in
    let env = environment-there e0 e1 c.args.env c.loop-at.invariant.environments c.requires.env in (
      omega arith,
      (
        env,
        (
          c.loop-at.invariant.there,
          (
            extends-there t0.rows.items t1.rows.items x grows (c.requires.left i 0 h),
            (
              extends-there t0.rows.items t1.rows.items y grows (c.requires.right i 0 j),
              (there-grown t0.rows.items t1.rows.items given.fields.now grows c.requires.fields, left ∙ same-at all ls rs i 0 c.requires.same h ∙ sym right),
            ),
          ),
        ),
      ),
    )

pub arguments-bounds-right-at : goal.arguments-bounds-right-at
arguments-bounds-right-at t c =
    let n = same-length (types_of (scopes_of c.args.given.now) c.args.types.now) c.args.left.now c.args.right.now c.requires.same in
    let h = c.loop-at-test.true in
    omega arith

pub components-bounds-right-at : goal.components-bounds-right-at
components-bounds-right-at t c =
    let n = same-length (types_of (scopes_of c.args.given.now) c.args.types.now) c.args.left.now c.args.right.now c.requires.same in
    let h = c.loop-at-test.true in
    omega arith

pub inside-returns-in-Tuple-Tuple-clause-added : goal.inside-returns-in-Tuple-Tuple-clause-added
inside-returns-in-Tuple-Tuple-clause-added t c =
    let given = c.args.given.now in
    let o = origin_of given in
    let all = types_of (scopes_of given) c.args.types.now in
    let l0 = c.args.list.now in
    let l1 = c.components.new.list in
    on_ok_weaker c.components.result
    (λ a. λ g Γ k e p q.
    let P = setting_of given g in
    more-same (implications_of l0) (implications_of l1) (implication_count l0) (implication_count l1) _ _
    (ap₂ (λ xs ys. components P o (all_erased (each all ys)) Γ Γ 0 (each all xs) (each all ys)) c.deref.ensures.value c.deref-in-Tuple-Tuple.ensures.value
    ∙ sym (ap₂ (λ x y. inside P o (erased (form_type all y q)) Γ (form_type all x p) (form_type all y q)) c.in-Tuple-Tuple.is-0 c.in-Tuple-Tuple.is-1))
    (a g Γ k e))
    c.components.ensures.added

pub inside-returns-in-Data-Data-clause-added : goal.inside-returns-in-Data-Data-clause-added
inside-returns-in-Data-Data-clause-added t c =
    let given = c.args.given.now in
    let o = origin_of given in
    let all = types_of (scopes_of given) c.args.types.now in
    let l0 = c.args.list.now in
    let l1 = c.datatypes.new.list in
    let ls = c.in-Data-Data.ls.items in
    let rs = c.in-Data-Data.rs.items in
    let m = matrix_view c.in-Data-Data.m in
    let n = matrix_view c.in-Data-Data.n in
    let name : c.in-Data-Data.name.0 ≡ c.in-Data-Data.field-0-1.0 =
    same-name c.in-Data-Data.name.0 c.in-Data-Data.field-0-1.0 (all_erased (each all ls)) (all_erased (each all rs))
    (sym (ap (λ x. erased (form_type all x [])) c.in-Data-Data.is-0) ∙ c.requires.same ∙ ap (λ x. erased (form_type all x [])) c.in-Data-Data.is-1) in
    on_ok_weaker c.datatypes.result
    (λ a. λ g Γ k e p q.
    let P = setting_of given g in
    more-same (implications_of l0) (implications_of l1) (implication_count l0) (implication_count l1) _ _
    (ap₂ (λ xs ys. arguments P o (all_erased (each all ys)) Γ (each all xs) (each all ys)
    ++ cells P o Γ c.in-Data-Data.name.0 (each all xs) m n) c.deref-in-Data-Data.ensures.value c.deref-in-Data-Data-2.ensures.value
    ∙ ap (λ d. arguments P o (all_erased (each all rs)) Γ (each all ls) (each all rs) ++ cells P o Γ d (each all ls) m n) name
    ∙ sym (ap₂ (λ x y. inside P o (erased (form_type all y q)) Γ (form_type all x p) (form_type all y q)) c.in-Data-Data.is-0 c.in-Data-Data.is-1))
    (a g Γ k e))
    c.datatypes.ensures.added

pub inside-returns-in_default-6-clause-added : goal.inside-returns-in_default-6-clause-added
inside-returns-in_default-6-clause-added t c =
    let given = c.args.given.now in
    let all = types_of (scopes_of given) c.args.types.now in
    let l0 = c.args.list.now in
    λ g Γ k e p q.
    more-same (implications_of l0) (implications_of l0) (implication_count l0) (implication_count l0) _ _
    (sym (nothing-inside (setting_of given g) (origin_of given) Γ all c.args.left.now c.args.right.now p q c.requires.same
    c.in_default.not-Function-0 c.in_default.not-Tuple-0 c.in_default.not-Array-0 c.in_default.not-Data-0 c.in_default.not-Map-0))
    (appends-none l0)
