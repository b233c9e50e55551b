use Rattle.std.proofs.Common.{◌≡◌, ◌<◌, ◌∷◌, suc, get_or, take, ap, ap₂, sym, ◌∙◌}
use Rattle.std.proofs.Math.Numerals.{add-one}
use Rattle.lq_refined_substitution.specs.Implications.Views.{environment_lists}
use Rattle.lq_logic_predicates.specs.declared.symbol.Symbol.TheVariants.{Position}
use Rattle.lq_refined_types.specs.Types.Context.{name, hypotheses_of}
use Rattle.lq_refined_subtyping.specs.Table.Forms.{each}
use Rattle.lq_refined_subtyping.specs.Table.Growing.{extends-at, Extends-trans}
use Rattle.lq_refined_subtyping.specs.Table.Whole.{count_of, types_of}
use Rattle.lq_refined_substitution.specs.Substitution.Views.{scopes_view}
use Rattle.lq_refined_types.specs.Subtyping.Subtype.{with_fields}
use Rattle.lq_refined_subtyping.specs.Split.Growing.{HasMore-trans}
use Rattle.lq_refined_subtyping.proofs.SplitLemmas.Contexts.{fields-more}
use Rattle.lq_refined_subtyping.proofs.split.environments.with_fields.Goals as goal

pub loop-field-preserved : goal.loop-field-preserved
loop-field-preserved c =
    let init = c.args.types.now in
    let now = c.loop-field.types in
    let new = c.with_name.new.types in
    let S = scopes_view c.args.scopes.now in
    let all = types_of S init in
    let fields = c.args.fields.now in
    let i = c.loop-field.field-index in
    let at = get_or fields i 0 in
    let there : at < count_of init = c.requires.fields i 0 c.loop-field-test.true in
    let next : c.in_ok-position.position ≡ suc i = c.in_ok-position.ensures ∙ ap suc c.loop-field.invariant.position in
    let e0 = environment_lists c.args.list.now in
    let e1 = environment_lists c.loop-field.list in
    let e2 = environment_lists c.with_name.new.list in
    record {
      position = next ∙ sym (add-one i);
      facts = λ Γ e.
          ap (hypotheses_of S) (fields-more all fields i 0 Γ c.loop-field-test.true)
          ∙ ap₂ (λ k t. hypotheses_of S (name (Position k) t ∷ with_fields 0 (each all (take i fields)) Γ)) (sym next)
          (sym (extends-at S init.rows.items now.rows.items at c.loop-field.invariant.grows there))
          ∙ c.in_ok-at.ensures.facts (with_fields 0 (each all (take i fields)) Γ) (c.loop-field.invariant.facts Γ e);
      there = c.in_ok-at.ensures.there;
      environments = HasMore-trans e0 e1 e2 c.loop-field.invariant.environments c.with_name.ensures.environments;
      implications = c.with_name.ensures.implications ∙ c.loop-field.invariant.implications;
      count = c.with_name.ensures.count ∙ c.loop-field.invariant.count;
      grows = Extends-trans init.rows.items now.rows.items new.rows.items c.loop-field.invariant.grows c.with_name.ensures.grows;
    }
