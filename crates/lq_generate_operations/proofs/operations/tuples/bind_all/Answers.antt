use Rattle.std.proofs.Common.{◌≡◌, get_or, take, sym, subst, ◌∙◌, ap}
use Rattle.lq_refined_rules.specs.Checks.Match.{bind_all}
use Rattle.lq_refined_rules.specs.Checks.Operation.{bind}
use Rattle.lq_refined_substitution.specs.Implications.Views.{environment_lists}
use Rattle.lq_refined_templates.specs.Programs.BlockView.{names_view}
use Rattle.lq_refined_types.specs.Types.Refined.{type_at}
use Rattle.lq_refined_subtyping.specs.Table.Forms.{each}
use Rattle.lq_refined_subtyping.specs.Table.Growing.{Extends-trans}
use Rattle.lq_refined_subtyping.specs.Table.Whole.{refined_at, types_of}
use Rattle.lq_refined_subtyping.specs.Split.Growing.{HasMore-refl, HasMore-trans}
use Rattle.lq_generate_operations.specs.Basis.Basis.{scopes_of}
use Rattle.lq_generate_operations.specs.Basis.Growing.{each-grown, longer-trans}
use Rattle.lq_generate_operations.specs.Operations.Growing.{is_context-grown}
use Rattle.lq_generate_operations.specs.Operations.Over.{IsContext}
use Rattle.lq_generate_operations.proofs.OperationsLemmas.Places.{bind_all-more, no_name}
use Rattle.lq_generate_operations.proofs.operations.tuples.bind_all.Goals as goal

pub loop-index-preserved : goal.loop-index-preserved
loop-index-preserved c =
    let t0 = c.args.types.now in
    let t1 = c.loop-index.types in
    let t2 = c.row_at.new.types in
    let t3 = c.bind.new.types in
    let b = c.args.basis.now in
    let S = scopes_of b in
    let i = c.loop-index.index in
    let inv = c.loop-index.invariant in
    let rows = c.args.rows.now in
    let ts = each (types_of S t0) rows in
    let fields = c.args.fields.now in
    let x = (get_or fields i no_name).0 in
    let list = c.loop-index.list in
    let e0 = environment_lists c.args.list.now in
    let e1 = environment_lists list in
    let e2 = environment_lists c.bind.new.list in
    let t : refined_at S t2 c.in_ok-row.row ≡ type_at ts i =
    c.in_ok-row.ensures.refined S ∙ ap (λ us. type_at us i) (each-grown S t0.rows.items t1.rows.items rows inv.grows c.requires.rows) in
    record {
      context = λ Γ k.
          subst (λ Δ. IsContext Δ c.bind.new.names b t3 c.bind.new.list c.in_ok-at.at)
          (ap (λ u. bind x u (bind_all (names_view (take i fields)) ts Γ)) t ∙ sym (bind_all-more fields i c.loop-index-test.true ts Γ))
          (c.in_ok-at.ensures.context (bind_all (names_view (take i fields)) ts Γ)
          (is_context-grown (bind_all (names_view (take i fields)) ts Γ) c.loop-index.names b t1 t2 list list c.loop-index.at c.row_at.ensures.grows
          inv.below (HasMore-refl e1) inv.there (inv.context Γ k)));
      longer = longer-trans c.args.names.now c.loop-index.names c.bind.new.names inv.longer c.bind.ensures.longer;
      below = c.bind.ensures.below;
      there = c.in_ok-at.ensures.there;
      environments = HasMore-trans e0 e1 e2 inv.environments c.bind.ensures.environments;
      implications = c.bind.ensures.implications ∙ inv.implications;
      count = c.bind.ensures.count ∙ inv.count;
      grows = Extends-trans t0.rows.items t2.rows.items t3.rows.items
          (Extends-trans t0.rows.items t1.rows.items t2.rows.items inv.grows c.row_at.ensures.grows) c.bind.ensures.grows;
    }
