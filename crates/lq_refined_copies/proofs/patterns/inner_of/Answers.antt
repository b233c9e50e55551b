use Rattle.std.proofs.Common.{◌≡◌, false, All, subst}
use Rattle.lq_refined_instances.specs.Views.{scopes_view}
use Rattle.lq_refined_instances.specs.declared.unknowns.Unknown.{Unknown}
use Rattle.lq_text_qualifiers.specs.Sorting.Views.{qualifier_view, shape_view}
use Rattle.lq_text_qualifiers.specs.Faults.Shapes.{is_same}
use Rattle.lq_refined_copies.proofs.Summed.{none_counted}
use Rattle.lq_refined_copies.proofs.patterns.inner_of.Goals as goal

pub returns : goal.returns
returns c =
    let us = c.args.pattern.now.unknowns.items in
    let q = qualifier_view c.args.qualifier.now in
    record {
      columns = λ e. absurd (cc);
      marks = λ e. absurd (cc);
      groups = λ e. absurd (cc);
      nothing = λ _ Γ. none_counted q Γ (scopes_view c.args.pattern.now.scopes) us
          (subst (All (λ (u : Unknown). is_same (shape_view u.shape) q.shape ≡ false)) c.deref.ensures.value (c.has_shape-is_asked.ensures c.if-is_asked.false));
    }
