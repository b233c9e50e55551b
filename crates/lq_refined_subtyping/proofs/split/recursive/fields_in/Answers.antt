use Rattle.std.proofs.Common.{◌≡◌, ◌<◌, ◌++◌, ◌∷◌, [], All, get_or, map, sym, ap, ap₂, subst, ◌∙◌}
use Rattle.std.proofs.lemmas.List.{map_push, take_all, take_more}
use Rattle.std.proofs.lemmas.List.Elements.{All-map}
use Rattle.lq_refined_subtyping.specs.Table.Growing.{extends-at, Extends-trans}
use Rattle.lq_refined_subtyping.specs.Table.Unfolding.{AreFields}
use Rattle.lq_refined_subtyping.specs.Table.Whole.{count_of, refined_at, types_of}
use Rattle.lq_refined_substitution.specs.Substitution.Views.{scopes_view}
use Rattle.lq_refined_subtyping.specs.Split.Recursive.{again}
use Rattle.lq_refined_subtyping.proofs.SplitLemmas.Again.{are-fields, field_at}
use Rattle.lq_refined_subtyping.proofs.SplitLemmas.Rows.{each-grown}
use Rattle.lq_refined_subtyping.specs.Split.Growing.{all-grown}
use Rattle.lq_refined_subtyping.proofs.split.recursive.fields_in.Goals as goal

pub loop-row-preserved : goal.loop-row-preserved
loop-row-preserved c =
    let init = c.args.types.now in
    let now = c.loop-row.types in
    let new = c.is_again.new.types in
    let S = scopes_view c.args.scopes.now in
    let d = c.args.datatype.0 in
    let n = c.args.count in
    let i = c.loop-row.row-index in
    let rows = c.args.rows.now in
    let F = field_at (types_of S init) d n in
    let there : get_or rows i 0 < count_of init = c.requires i 0 c.loop-row-test.true in
    let is : c.in_ok-is_again.is_again ≡ again d n (refined_at S init (get_or rows i 0)) =
    c.in_ok-is_again.ensures.is ∙ ap (again d n) (extends-at S init.rows.items now.rows.items (get_or rows i 0) c.loop-row.invariant.grows there) in
    record {
      made = c.in_ok-push.ensures.items
          ∙ ap₂ (λ l b. l ++ record { plain = get_or rows i 0; is_again = b } ∷ []) c.loop-row.invariant.made is
          ∙ sym (ap (map F) (take_more rows i 0 c.loop-row-test.true) ∙ map_push F _ (get_or rows i 0));
      grows = Extends-trans init.rows.items now.rows.items new.rows.items c.loop-row.invariant.grows c.is_again.ensures.grows;
    }

pub returns-clause-fields : goal.returns-clause-fields
returns-clause-fields c =
    let init = c.args.types.now in
    let now = c.loop-row.types in
    let S = scopes_view c.args.scopes.now in
    let F = field_at (types_of S init) c.args.datatype.0 c.args.count in
    let rows = c.args.rows.now in
    let whole : c.loop-row.made.items ≡ map F rows = c.loop-row.invariant.made ∙ ap (map F) (take_all c.loop-row.row-index rows c.loop-row-test.false) in
    λ fields h. subst (λ made. AreFields (types_of S now) c.args.datatype.0 c.args.count made fields) (sym whole)
    (are-fields (types_of S init) (types_of S now) c.args.datatype.0 c.args.count rows fields h
    (each-grown S init.rows.items now.rows.items rows c.loop-row.invariant.grows c.requires ∙ h))

pub returns-clause-there : goal.returns-clause-there
returns-clause-there c =
    let init = c.args.types.now in
    let now = c.loop-row.types in
    let S = scopes_view c.args.scopes.now in
    let F = field_at (types_of S init) c.args.datatype.0 c.args.count in
    let rows = c.args.rows.now in
    let whole : c.loop-row.made.items ≡ map F rows = c.loop-row.invariant.made ∙ ap (map F) (take_all c.loop-row.row-index rows c.loop-row-test.false) in
    subst (All (λ f. f.plain < count_of now)) (sym whole)
    (All-map (λ f. f.plain < count_of now) F rows (all-grown init.rows.items now.rows.items rows c.loop-row.invariant.grows c.requires))
