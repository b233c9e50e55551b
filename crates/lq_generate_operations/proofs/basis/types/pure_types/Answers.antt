use Rattle.std.proofs.Common.{◌<◌, All, sym, ap, subst, ◌∙◌}
use Rattle.std.proofs.lemmas.List.Elements.{All-push}
use Rattle.lq_refined_subtyping.specs.Table.Forms.{each}
use Rattle.lq_refined_subtyping.specs.Table.Growing.{Extends-trans}
use Rattle.lq_refined_subtyping.specs.Table.Whole.{count_of}
use Rattle.lq_refined_subtyping.specs.Split.Growing.{all-grown}
use Rattle.lq_generate_operations.specs.Basis.Basis.{scopes_of, types_in}
use Rattle.lq_generate_operations.specs.Basis.Growing.{each-grown, knows-grown, stands-grown}
use Rattle.lq_generate_operations.proofs.BasisLemmas.Rows.{types-more}
use Rattle.lq_generate_operations.proofs.basis.types.pure_types.Goals as goal

pub loop-e-preserved : goal.loop-e-preserved
loop-e-preserved c =
    let init = c.args.types.now in
    let now = c.loop-e.types in
    let new = c.pure_type.new.types in
    let b = c.args.basis.now in
    let made = c.loop-e.made.items in
    let r = c.in_ok-pure_type.field-0 in
    let i = c.loop-e.invariant in
    let g = c.in_ok-pure_type.ensures.grows in
    record {
      refined = λ P Γ s k.
          ap (each (types_in b new)) c.in_ok-push.ensures.items
          ∙ types-more P Γ (types_in b new) made r c.args.es.now c.loop-e.e-index c.e-item.result c.loop-e-test.true c.e-item.is
          (each-grown (scopes_of b) now.rows.items new.rows.items made g i.there ∙ i.refined P Γ s k)
          (c.in_ok-pure_type.ensures.refined P Γ (stands-grown P b init now i.grows c.requires.there s)
          (knows-grown Γ c.args.names.now b init now i.grows c.requires.names k));
      there = subst (All (λ p. p < count_of new)) (sym c.in_ok-push.ensures.items)
          (All-push (λ p. p < count_of new) made r (all-grown now.rows.items new.rows.items made g i.there) c.in_ok-pure_type.ensures.there);
      grows = Extends-trans init.rows.items now.rows.items new.rows.items i.grows g;
    }
