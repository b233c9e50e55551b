use Rattle.std.proofs.Common.{◌≡◌, ap, ap₂, sym, ◌∙◌}
use Rattle.lq_refined_types.specs.Types.Context.{hypotheses_of}
use Rattle.lq_refined_types.specs.Types.Refined.{top, type_at}
use Rattle.lq_refined_subtyping.specs.Table.Forms.{each}
use Rattle.lq_refined_subtyping.specs.Table.Growing.{Extends-trans}
use Rattle.lq_refined_subtyping.specs.Table.Whole.{types_of}
use Rattle.lq_refined_types.specs.Subtyping.Subtype.{with_fields, with_guards}
use Rattle.lq_refined_subtyping.specs.Split.Given.{scopes_of}
use Rattle.lq_refined_subtyping.proofs.SplitLemmas.Rows.{each-grown}
use Rattle.lq_refined_subtyping.proofs.split.matrices.with_cell.Goals as goal

pub returns-clause-facts : goal.returns-clause-facts
returns-clause-facts c =
    let t0 = c.args.types.now in
    let t1 = c.left_fields.new.types in
    let t2 = c.with_fields.new.types in
    let S = scopes_of c.args.given.now in
    let args = c.args.left.now.arguments.now in
    let n = c.args.cell.now.parameter in
    let row = c.deref.result.now in
    let grown = Extends-trans t0.rows.items t1.rows.items t2.rows.items c.in_ok-fields.ensures.grows c.in_ok-inner.ensures.grows in
    λ g Γ k f.
    let rows : each (types_of S t1) row ≡ each (types_of S t1) c.in_ok-fields.fields.items = ap (each (types_of S t1)) c.deref.ensures.value in
    ap₂ (λ us ts. hypotheses_of S (with_guards (top (type_at ts n)) (with_fields 0 us Γ)))
    (sym (rows ∙ c.in_ok-fields.ensures.refined g k)) (sym (each-grown S t0.rows.items t2.rows.items args grown c.requires.arguments))
    ∙ c.in_ok-at.ensures.facts (with_fields 0 (each (types_of S t1) row) Γ) (c.in_ok-inner.ensures.facts Γ f)
