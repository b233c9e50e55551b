use Rattle.std.proofs.Common.{◌≡◌, ◌<◌, ◌++◌, ◌∷◌, [], All, drop, get_or, length, map, sym, ap, subst, ◌∙◌, arith}
use Rattle.std.proofs.lemmas.List.{length-append, map_push}
use Rattle.std.proofs.lemmas.List.Elements.{All-push, All-weaker}
use Rattle.lq_refined_subtyping.specs.Table.Forms.{matrix_view, row_of}
use Rattle.lq_refined_subtyping.specs.Table.Growing.{extends-at, extends-there, Extends-trans}
use Rattle.lq_refined_subtyping.specs.Table.Whole.{count_of, refined_at, types_of}
use Rattle.lq_refined_substitution.specs.Substitution.Views.{scopes_view, subst_view}
use Rattle.lq_refined_subtyping.proofs.TableLemmas.Entries.{map-grown}
use Rattle.lq_refined_types.specs.Parts.Part.{parts_by}
use Rattle.lq_refined_types.specs.Types.Refined.{strengthened}
use Rattle.lq_refined_types.specs.Types.Unfolding.{cell}
use Rattle.lq_refined_subtyping.specs.Table.Unfolding.{numbered_from, pushed_type}
use Rattle.lq_refined_subtyping.proofs.TableLemmas.Fields.{arguments-pushed, numbered-step, numbered-end}
use Rattle.lq_refined_subtyping.proofs.table.table.RefinedTypes.pushed.Goals as goal

pub loop-at-preserved : goal.loop-at-preserved
loop-at-preserved c =
    let init = c.args.self.now in
    let now = c.loop-at.self in
    let new = c.pushed_one.new.self in
    let u = c.args.of.now in
    let S = scopes_view c.args.scopes.now in
    let F = pushed_type S u (types_of S init) c.args.constructor.0 c.args.field in
    let args = u.arguments.now in
    let i = c.loop-at.at-index in
    let made = c.loop-at.made.items in
    record {
      refined = numbered-step F (map (refined_at S new) made) (map (refined_at S new) c.push.new.self.items) (numbered_from F 0 args) args i
          c.len.result (refined_at S new c.in_ok-pushed_one.field-0) 0
          (c.len.ensures ∙ c.loop-at.made.ok.0 ∙ c.loop-at.invariant.count)
          c.loop-at-test.true
          (ap (λ l. l ++ numbered_from F i (drop i args)) (map-grown S now.rows.items new.rows.items made c.pushed_one.ensures.grows c.loop-at.invariant.there)
          ∙ c.loop-at.invariant.refined)
          (ap (map (refined_at S new)) c.in_ok-push.ensures.items ∙ map_push (refined_at S new) made c.in_ok-pushed_one.field-0)
          (c.in_ok-pushed_one.ensures.refined
          ∙ ap (strengthened (parts_by S (subst_view u.by.now) (cell (matrix_view u.matrix.now) c.args.constructor.0 c.args.field c.len.result)))
          (extends-at S init.rows.items now.rows.items (get_or args i 0) c.loop-at.invariant.grows (c.requires i 0 c.loop-at-test.true)));
      count = let e : length c.push.new.self.items ≡ length (c.loop-at.made.items ++ c.in_ok-pushed_one.field-0 ∷ []) = ap length c.in_ok-push.ensures.items in
          let k = length-append c.loop-at.made.items (c.in_ok-pushed_one.field-0 ∷ []) in
          let n : length c.loop-at.made.items ≡ i = c.loop-at.invariant.count in omega arith;
      there = subst (All (λ p. p < count_of new)) (sym c.in_ok-push.ensures.items)
          (All-push (λ p. p < count_of new) c.loop-at.made.items c.in_ok-pushed_one.field-0
          (All-weaker (λ p. p < count_of now) (λ p. p < count_of new)
          (λ p l. extends-there now.rows.items new.rows.items p c.pushed_one.ensures.grows l) c.loop-at.made.items c.loop-at.invariant.there)
          c.in_ok-pushed_one.ensures.there);
      grows = Extends-trans init.rows.items now.rows.items new.rows.items c.loop-at.invariant.grows c.pushed_one.ensures.grows;
    }

pub returns-clause-refined : goal.returns-clause-refined
returns-clause-refined c =
    let init = c.args.self.now in
    let u = c.args.of.now in
    let S = scopes_view c.args.scopes.now in
    let F = pushed_type S u (types_of S init) c.args.constructor.0 c.args.field in
    ap row_of (numbered-end F (map (refined_at S c.loop-at.self) c.loop-at.made.items) (numbered_from F 0 u.arguments.now) u.arguments.now
    c.loop-at.at-index c.loop-at-test.false c.loop-at.invariant.refined)
    ∙ arguments-pushed S u (types_of S init) c.args.constructor.0 c.args.field 0 u.arguments.now
