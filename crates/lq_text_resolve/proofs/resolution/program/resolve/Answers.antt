use Rattle.std.proofs.Common.{inr, refl, sym, ap, ◌∙◌}
use Rattle.lq_text_scope.specs.Views.{complaint_view, found_view}
use Rattle.lq_text_resolve.specs.Resolution.Resolution.{refused}
use Rattle.lq_text_resolve.proofs.resolution.program.resolve.Goals as goal

pub returns-in-Some-clause-told : goal.returns-in-Some-clause-told
returns-in-Some-clause-told c =
    inr (refused (complaint_view c.in-Some.complaint), refl, sym c.in_ok-complaint.ensures ∙ ap found_view c.in-Some.is)
