use Rattle.std.proofs.Common.{◌≡◌, length, ap, ap₂, subst, sym, ◌∙◌}
use Rattle.lq_refined_types.specs.Types.Unfolding.{unfolded}
use Rattle.lq_refined_subtyping.specs.Table.Forms.{each, matrix_view}
use Rattle.lq_refined_subtyping.specs.Table.Unfolding.{all_plain, AreFields}
use Rattle.lq_refined_subtyping.specs.Table.Whole.{types_of}
use Rattle.lq_refined_types.specs.Subtyping.Subtype.{fields_of}
use Rattle.lq_refined_subtyping.specs.Split.Given.{scopes_of}
use Rattle.lq_refined_subtyping.proofs.SplitLemmas.Rows.{each-grown}
use Rattle.lq_refined_subtyping.proofs.split.matrices.left_fields.Goals as goal

pub returns-clause-refined : goal.returns-clause-refined
returns-clause-refined c =
    let init = c.args.types.now in
    let now = c.fields_in.new.types in
    let S = scopes_of c.args.given.now in
    let args = c.args.left.now.arguments.now in
    let m = matrix_view c.args.left.now.matrix.now in
    let d = c.args.left.now.name.0 in
    let k = c.args.constructor.0 in
    λ g h.
    let fs = fields_of (g k) in
    let rows : each (types_of S init) c.get-rows.result.now ≡ all_plain fs = ap (each (types_of S init)) c.get-rows.ensures ∙ h.are k in
    let are = c.in_ok-fields.ensures.fields fs rows in
    c.in_ok-made.ensures.refined fs (subst (λ xs. AreFields (types_of S now) d (length args) xs fs) (sym c.deref.ensures.value) are)
    ∙ ap₂ (λ θ ts. unfolded S θ d ts m k fs) c.new-by.ensures (each-grown S init.rows.items now.rows.items args c.in_ok-fields.ensures.grows c.requires.arguments)
