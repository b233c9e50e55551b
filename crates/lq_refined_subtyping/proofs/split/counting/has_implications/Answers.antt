use Rattle.std.proofs.Common.{◌≡◌, ◌++◌, ◌-◌, ◌^◌, [], List, ◌∷◌, length, min, refl, sym, ap, ap₂, ◌∙◌, arith}
use Rattle.lq_refined_types.specs.Types.Refined.{erased}
use Rattle.lq_refined_subtyping.specs.Table.Growing.{extends-at}
use Rattle.lq_refined_subtyping.specs.Table.Whole.{refined_at}
use Rattle.lq_refined_substitution.specs.Substitution.Views.{scopes_view}
use Rattle.lq_refined_types.specs.Subtyping.Implication.{Implication}
use Rattle.lq_refined_types.specs.Subtyping.Splitting.{split}
use Rattle.lq_refined_subtyping.proofs.split.counting.has_implications.Goals as goal

no-implications : (is : List Implication) → min (length is) (2 ^ 64 - 1) ≡ 0 → is ≡ []
no-implications [] e = refl
no-implications (i ∷ is) e = absurd (omega arith)

pub returns-clause-none : goal.returns-clause-none
returns-clause-none c =
    let S = scopes_view c.args.scopes.now in
    let t0 = c.args.types.now in
    let t1 = c.implication_count.new.types in
    let x = c.args.sides.0 in
    let y = c.args.sides.1 in
    let grows = c.in_ok-there.ensures.grows in
    λ e P o Γ.
    let there = c.in_ok-there.ensures.count P o Γ in
    let back = c.in_ok-back.ensures.count P o Γ in
    let first : min (length (split P o Γ (refined_at S t0 x) (refined_at S t0 y))) (2 ^ 64 - 1) ≡ 0 = omega arith in
    let second : min (length (split P o Γ (refined_at S t1 y) (refined_at S t1 x))) (2 ^ 64 - 1) ≡ 0 = grind arith in
    ap₂ (λ xs ys. xs ++ ys) (no-implications _ first)
    (ap₂ (split P o Γ) (sym (extends-at S t0.rows.items t1.rows.items y grows c.requires.right))
    (sym (extends-at S t0.rows.items t1.rows.items x grows c.requires.left)) ∙ no-implications _ second)

pub implication_count-requires-2-clause-same : goal.implication_count-requires-2-clause-same
implication_count-requires-2-clause-same c =
    let S = scopes_view c.args.scopes.now in
    let t0 = c.args.types.now in
    let t1 = c.implication_count.new.types in
    let grows = c.in_ok-there.ensures.grows in
    ap erased (extends-at S t0.rows.items t1.rows.items c.args.sides.1 grows c.requires.right) ∙ sym c.requires.same
    ∙ sym (ap erased (extends-at S t0.rows.items t1.rows.items c.args.sides.0 grows c.requires.left))
