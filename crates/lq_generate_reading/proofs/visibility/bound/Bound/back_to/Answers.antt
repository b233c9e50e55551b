use Rattle.std.proofs.Common.{◌∙◌, [], ap, take}
use Rattle.lq_generate_reading.specs.Visibility.Stack.{stacked}
use Rattle.lq_generate_reading.proofs.VisibilityLemmas.Names.{stacked_kept}
use Rattle.lq_generate_reading.proofs.visibility.bound.Bound.back_to.Goals as goal

pub returns-clause-left : goal.returns-clause-left
returns-clause-left c =
    ap (stacked []) (c.truncate.ensures.items ∙ ap (λ e. take c.args.len e.items) c.loop-self.invariant.kept)
    ∙ stacked_kept c.args.self.now.entries.items c.args.len
