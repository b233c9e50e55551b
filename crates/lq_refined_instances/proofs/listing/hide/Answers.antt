use Rattle.std.proofs.Common.{Option, sym, ap, ◌∙◌}
use Rattle.lq_refined_instances.specs.Listed.{with_hidden}
use Rattle.lq_refined_instances.specs.Seen.{hidden_view}
use Rattle.lq_refined_instances.specs.declared.scope.Visible.{Visible}
use Rattle.lq_refined_instances.proofs.Walking.{hidden-put}
use Rattle.lq_refined_instances.proofs.listing.hide.Goals as goal

pub returns-in_ok-insert-in-Some : goal.returns-in_ok-insert-in-Some
returns-in_ok-insert-in-Some c =
    let xs = c.args.hidden.now.keys in
    hidden-put xs c.insert.new.self.keys c.in-Some.visible.symbol c.in_ok-insert-in-Some.ensures.keys
    ∙ ap (λ (more : Option Visible). with_hidden xs (hidden_view more)) (sym c.in-Some.is)
