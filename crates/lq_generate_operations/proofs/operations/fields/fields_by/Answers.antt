use Rattle.std.proofs.Common.{◌≡◌, length, ap, subst, sym, ◌∙◌}
use Rattle.lq_refined_types.specs.Types.Unfolding.{unfolded}
use Rattle.lq_refined_subtyping.specs.Table.Forms.{each, matrix_view}
use Rattle.lq_refined_subtyping.specs.Table.Unfolding.{all_plain, AreFields}
use Rattle.lq_refined_subtyping.specs.Table.Whole.{types_of}
use Rattle.lq_refined_substitution.specs.Substitution.Views.{subst_view}
use Rattle.lq_refined_types.specs.Subtyping.Subtype.{fields_of}
use Rattle.lq_generate_operations.specs.Basis.Basis.{scopes_of}
use Rattle.lq_generate_operations.specs.Basis.Growing.{each-grown}
use Rattle.lq_generate_operations.proofs.operations.fields.fields_by.Goals as goal

pub returns-clause-refined : goal.returns-clause-refined
returns-clause-refined c =
    let init = c.args.types.now in
    let now = c.fields_in.new.types in
    let S = scopes_of c.args.basis.now in
    let args = c.args.of.now.arguments.items in
    let m = matrix_view c.args.of.now.matrix in
    let d = c.args.of.now.name.0 in
    let k = c.args.constructor.0 in
    let count : c.len-count.result ≡ length c.deref.result.now =
    c.len-count.ensures ∙ c.args.of.now.arguments.ok.0 ∙ ap length (sym c.deref.ensures.value) in
    λ P s.
    let fs = fields_of (P.setting.constructors k) in
    let rows : each (types_of S init) c.get-rows.result.now ≡ all_plain fs = ap (each (types_of S init)) c.get-rows.ensures ∙ s.fields.are k in
    let are = c.in_ok-fields.ensures.fields fs rows in
    let long = subst (λ n. AreFields (types_of S now) d n c.in_ok-fields.fields.items fs) count are in
    c.in_ok-made.ensures.refined fs (subst (λ xs. AreFields (types_of S now) d (length c.deref.result.now) xs fs) (sym c.deref-2.ensures.value) long)
    ∙ ap (λ ts. unfolded S (subst_view c.args.by.now) d ts m k fs)
    (ap (each (types_of S now)) c.deref.ensures.value
    ∙ each-grown S init.rows.items now.rows.items args c.in_ok-fields.ensures.grows c.requires.arguments)
