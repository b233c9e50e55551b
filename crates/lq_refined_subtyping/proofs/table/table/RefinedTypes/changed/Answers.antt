use Rattle.std.proofs.Common.{sym, ap, ◌∙◌}
use Rattle.lq_refined_subtyping.specs.Table.Changes.{replaced}
use Rattle.lq_refined_subtyping.specs.Table.Whole.{types_of}
use Rattle.lq_refined_subtyping.proofs.TableLemmas.Changing.{replaced-form}
use Rattle.lq_refined_substitution.specs.Substitution.Views.{parts_view, scopes_view}
use Rattle.lq_refined_subtyping.proofs.table.table.RefinedTypes.changed.Goals as goal

pub changed_form-requires-clause-outside : goal.changed_form-requires-clause-outside
changed_form-requires-clause-outside c =
    let S = scopes_view c.args.scopes.now in
    let all = types_of S c.args.self.now in
    let change = c.args.change.now.value in
    let top = parts_view c.node-node.result.now.top in
    λ scopes p. replaced-form change (types_of scopes c.args.self.now) all c.in_ok-form.form p top
    ∙ ap (replaced change) (c.in_ok-form.ensures.same all top) ∙ ap (replaced change) (sym (c.node-node.ensures.refined S)) ∙ c.requires.outside
