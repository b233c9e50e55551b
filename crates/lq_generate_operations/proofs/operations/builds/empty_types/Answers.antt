use Rattle.std.proofs.Common.{◌<◌, [], ◌∷◌, ◌++◌, get_or, map, sym, ap, ◌∙◌}
use Rattle.std.proofs.lemmas.List.{take_all}
use Rattle.std.proofs.lemmas.List.Elements.{All-push, All-same}
use Rattle.lq_refined_rules.specs.Checks.Operation.{empty_type}
use Rattle.lq_refined_subtyping.specs.Table.Forms.{row_of}
use Rattle.lq_refined_subtyping.specs.Table.Growing.{extends-at, extends-there, Extends-trans}
use Rattle.lq_refined_subtyping.specs.Table.Whole.{count_of, refined_at, types_of}
use Rattle.lq_refined_subtyping.proofs.TableLemmas.Entries.{made-more, map-grown}
use Rattle.lq_refined_subtyping.specs.Split.Growing.{all-grown}
use Rattle.lq_refined_substitution.specs.Substitution.Views.{scopes_view}
use Rattle.lq_generate_operations.proofs.OperationsLemmas.Rows.{empty-each}
use Rattle.lq_generate_operations.proofs.operations.builds.empty_types.Goals as goal

pub empty_type-requires : goal.empty_type-requires
empty_type-requires c =
    let init = c.args.types.now in
    let now = c.loop-at.types in
    extends-there init.rows.items now.rows.items (get_or c.args.row.now c.loop-at.at-index 0) c.loop-at.invariant.grows
    (c.requires c.loop-at.at-index 0 c.loop-at-test.true)

pub loop-at-preserved : goal.loop-at-preserved
loop-at-preserved c =
    let init = c.args.types.now in
    let now = c.loop-at.types in
    let new = c.empty_type.new.types in
    let S = scopes_view c.args.scopes.now in
    let row = c.args.row.now in
    let i = c.loop-at.at-index in
    let made = c.loop-at.made.items in
    let r = c.in_ok-empty_type.field-0 in
    let g = c.empty_type.ensures.grows in
    record {
      refined = made-more (λ p. empty_type (refined_at S init p)) (types_of S new) made c.push.new.self.items row i r 0
          (map-grown S now.rows.items new.rows.items made g c.loop-at.invariant.there ∙ c.loop-at.invariant.refined)
          c.in_ok-push.ensures.items
          (c.in_ok-empty_type.ensures.refined
          ∙ ap empty_type (extends-at S init.rows.items now.rows.items (get_or row i 0) c.loop-at.invariant.grows (c.requires i 0 c.loop-at-test.true)))
          c.loop-at-test.true;
      there = All-same (λ p. p < count_of new) c.push.new.self.items (made ++ r ∷ []) c.in_ok-push.ensures.items
          (All-push (λ p. p < count_of new) made r (all-grown now.rows.items new.rows.items made g c.loop-at.invariant.there)
          c.in_ok-empty_type.ensures.there);
      grows = Extends-trans init.rows.items now.rows.items new.rows.items c.loop-at.invariant.grows g;
    }

pub returns-clause-refined : goal.returns-clause-refined
returns-clause-refined c =
    let S = scopes_view c.args.scopes.now in
    let all = types_of S c.args.types.now in
    ap row_of (c.loop-at.invariant.refined
    ∙ ap (map (λ p. empty_type (refined_at S c.args.types.now p))) (take_all c.loop-at.at-index c.args.row.now c.loop-at-test.false))
    ∙ sym (empty-each all c.args.row.now)
