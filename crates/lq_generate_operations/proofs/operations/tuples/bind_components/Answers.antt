use Rattle.std.proofs.Common.{◌≡◌, suc, [], ◌∷◌, get_or, take, sym, subst, ◌∙◌, ap, ap₂}
use Rattle.std.proofs.Math.Numerals.{add-one}
use Rattle.lq_refined_rules.specs.Checks.Match.{bind_components}
use Rattle.lq_refined_rules.specs.Checks.Operation.{bind}
use Rattle.lq_refined_substitution.specs.Implications.Views.{environment_lists}
use Rattle.lq_refined_types.specs.Parts.Substitution.{swap}
use Rattle.lq_refined_templates.specs.Programs.BlockView.{names_view}
use Rattle.lq_logic_predicates.specs.declared.symbol.Symbol.TheVariants.{Position}
use Rattle.lq_refined_types.specs.Types.Context.{Context}
use Rattle.lq_refined_types.specs.Types.Operations.{atom_of, symbol_of}
use Rattle.lq_refined_types.specs.Types.Refined.{kind, type_at}
use Rattle.lq_refined_subtyping.specs.Table.Forms.{each}
use Rattle.lq_refined_subtyping.specs.Table.Growing.{Extends-trans}
use Rattle.lq_refined_subtyping.specs.Table.Whole.{refined_at, types_of}
use Rattle.lq_refined_subtyping.specs.Split.Growing.{HasMore-refl, HasMore-trans}
use Rattle.lq_generate_operations.specs.Basis.Basis.{scopes_of}
use Rattle.lq_generate_operations.specs.Basis.Growing.{each-grown, longer-trans}
use Rattle.lq_generate_operations.specs.Operations.Growing.{is_context-grown}
use Rattle.lq_generate_operations.specs.Operations.Over.{IsContext}
use Rattle.lq_generate_operations.proofs.OperationsLemmas.Places.{components-more, no_name, put_names, tuple_names-more}
use Rattle.lq_generate_operations.proofs.operations.tuples.bind_components.Goals as goal

pub loop-index-preserved : goal.loop-index-preserved
loop-index-preserved c =
    let t0 = c.args.types.now in
    let t1 = c.loop-index.types in
    let t2 = c.row_at.new.types in
    let t3 = c.bind_component.new.types in
    let b = c.args.basis.now in
    let S = scopes_of b in
    let i = c.loop-index.index in
    let inv = c.loop-index.invariant in
    let rows = c.args.rows.now in
    let ts = each (types_of S t0) rows in
    let ns = c.args.components.now in
    let xs = names_view (take i ns) in
    let x = (get_or ns i no_name).0 in
    let list = c.loop-index.list in
    let e0 = environment_lists c.args.list.now in
    let e1 = environment_lists list in
    let e2 = environment_lists c.bind_component.new.list in
    let next : c.in_ok-position.position ≡ suc i = c.in_ok-position.ensures ∙ ap suc inv.position in
    let t : refined_at S t2 c.in_ok-row.row ≡ type_at ts i =
    c.in_ok-row.ensures.refined S ∙ ap (λ us. type_at us i) (each-grown S t0.rows.items t1.rows.items rows inv.grows c.requires.rows) in
    record {
      position = next ∙ sym (add-one i);
      by = c.in_ok-by.ensures
          ∙ ap₂ (λ s θ. s ∷ θ)
          (ap₂ (λ k a. swap (Position k) a) next
          (c.atom_of-atom.ensures ∙ ap (λ k. atom_of k (symbol_of x)) (c.kind.ensures S ∙ ap kind t)))
          inv.by
          ∙ sym (tuple_names-more ns i c.loop-index-test.true ts);
      context = λ Γ k.
          let Δ : Context = bind_components S [] 0 xs ts Γ in
          subst (λ Θ. IsContext Θ c.bind_component.new.names b t3 c.bind_component.new.list c.in_ok-at.at)
          (ap₂ (λ θ u. bind x (put_names S θ u) Δ) inv.by t ∙ sym (components-more ns i c.loop-index-test.true S ts Γ))
          (c.in_ok-at.ensures.context Δ
          (is_context-grown Δ c.loop-index.names b t1 t2 list list c.loop-index.at c.row_at.ensures.grows
          inv.below (HasMore-refl e1) inv.there (inv.context Γ k)));
      longer = longer-trans c.args.names.now c.loop-index.names c.bind_component.new.names inv.longer c.bind_component.ensures.longer;
      below = c.bind_component.ensures.below;
      there = c.in_ok-at.ensures.there;
      environments = HasMore-trans e0 e1 e2 inv.environments c.bind_component.ensures.environments;
      implications = c.bind_component.ensures.implications ∙ inv.implications;
      count = c.bind_component.ensures.count ∙ inv.count;
      grows = Extends-trans t0.rows.items t2.rows.items t3.rows.items
          (Extends-trans t0.rows.items t1.rows.items t2.rows.items inv.grows c.row_at.ensures.grows) c.bind_component.ensures.grows;
    }

pub returns-in_err-at-clause-longer : goal.returns-in_err-at-clause-longer
returns-in_err-at-clause-longer c =
    longer-trans c.args.names.now c.loop-index.names c.bind_component.new.names c.loop-index.invariant.longer c.bind_component.ensures.longer

pub returns-in_err-by-clause-longer : goal.returns-in_err-by-clause-longer
returns-in_err-by-clause-longer c =
    longer-trans c.args.names.now c.loop-index.names c.bind_component.new.names c.loop-index.invariant.longer c.bind_component.ensures.longer
