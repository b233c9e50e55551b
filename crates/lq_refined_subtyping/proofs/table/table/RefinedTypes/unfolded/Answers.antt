use Rattle.std.proofs.Common.{◌≡◌, ◌<◌, ◌++◌, ◌∷◌, [], All, drop, length, map, sym, ap, subst, ◌∙◌, arith}
use Rattle.std.proofs.lemmas.List.{length-append, map_push}
use Rattle.std.proofs.lemmas.List.Elements.{All-push, All-weaker}
use Rattle.lq_refined_subtyping.specs.Table.Forms.{row_of}
use Rattle.lq_refined_subtyping.specs.Table.Growing.{extends-there, Extends-trans}
use Rattle.lq_refined_subtyping.specs.Table.Whole.{count_of, refined_at, types_of}
use Rattle.lq_refined_substitution.specs.Substitution.Views.{scopes_view}
use Rattle.lq_refined_subtyping.proofs.TableLemmas.Entries.{map-grown}
use Rattle.lq_refined_subtyping.specs.Table.Unfolding.{field_type, numbered_from}
use Rattle.lq_refined_subtyping.proofs.TableLemmas.Fields.{field_type-grown, fields-unfolded, numbered-step, numbered-end}
use Rattle.lq_refined_subtyping.proofs.table.table.RefinedTypes.unfolded.Goals as goal

pub loop-field-preserved : goal.loop-field-preserved
loop-field-preserved c =
    let init = c.args.self.now in
    let now = c.loop-field.self in
    let new = c.field_type.new.self in
    let u = c.args.of.now in
    let S = scopes_view c.args.scopes.now in
    let F = field_type S u (types_of S init) c.args.constructor.0 in
    let fields = c.args.fields.now in
    let i = c.loop-field.field-index in
    let made = c.loop-field.made.items in
    record {
      refined = numbered-step F (map (refined_at S new) made) (map (refined_at S new) c.push.new.self.items) (numbered_from F 0 fields) fields i
          c.len-at.result (refined_at S new c.in_ok-field_type.field-0) _
          (c.len-at.ensures ∙ c.loop-field.made.ok.0 ∙ c.loop-field.invariant.count)
          c.loop-field-test.true
          (ap (λ l. l ++ numbered_from F i (drop i fields)) (map-grown S now.rows.items new.rows.items made c.field_type.ensures.grows c.loop-field.invariant.there)
          ∙ c.loop-field.invariant.refined)
          (ap (map (refined_at S new)) c.in_ok-push.ensures.items ∙ map_push (refined_at S new) made c.in_ok-field_type.field-0)
          (c.in_ok-field_type.ensures.refined
          ∙ field_type-grown S u init.rows.items now.rows.items c.args.constructor.0 c.len-at.result _ c.loop-field.invariant.grows
          c.requires.arguments (c.requires.fields i _ c.loop-field-test.true));
      count = let e : length c.push.new.self.items ≡ length (c.loop-field.made.items ++ c.in_ok-field_type.field-0 ∷ []) = ap length c.in_ok-push.ensures.items in
          let k = length-append c.loop-field.made.items (c.in_ok-field_type.field-0 ∷ []) in
          let n : length c.loop-field.made.items ≡ i = c.loop-field.invariant.count in omega arith;
      there = subst (All (λ p. p < count_of new)) (sym c.in_ok-push.ensures.items)
          (All-push (λ p. p < count_of new) c.loop-field.made.items c.in_ok-field_type.field-0
          (All-weaker (λ p. p < count_of now) (λ p. p < count_of new)
          (λ p l. extends-there now.rows.items new.rows.items p c.field_type.ensures.grows l) c.loop-field.made.items c.loop-field.invariant.there)
          c.in_ok-field_type.ensures.there);
      grows = Extends-trans init.rows.items now.rows.items new.rows.items c.loop-field.invariant.grows c.field_type.ensures.grows;
    }

pub returns-clause-refined : goal.returns-clause-refined
returns-clause-refined c =
    let init = c.args.self.now in
    let u = c.args.of.now in
    let S = scopes_view c.args.scopes.now in
    let F = field_type S u (types_of S init) c.args.constructor.0 in
    let fields = c.args.fields.now in
    λ types h. ap row_of (numbered-end F (map (refined_at S c.loop-field.self) c.loop-field.made.items) (numbered_from F 0 fields) fields
    c.loop-field.field-index c.loop-field-test.false c.loop-field.invariant.refined)
    ∙ fields-unfolded S u (types_of S init) c.args.constructor.0 0 fields types h
