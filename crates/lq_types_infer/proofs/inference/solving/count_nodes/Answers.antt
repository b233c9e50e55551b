use Rattle.std.proofs.Common.{ap}
use Rattle.lq_base_names.specs.declared.name.Binder.{Binder}
use Rattle.lq_text_walk.specs.Scoped.Whole.{scoped_view}
use Rattle.lq_text_tree.specs.Items.{items_view}
use Rattle.lq_text_walk.specs.Walk.Visits.{visits_of_items}
use Rattle.lq_types_infer.proofs.InferenceLemmas.Scoped.{nodes_are}
use Rattle.lq_types_infer.proofs.inference.solving.count_nodes.Goals as goal

pub returns : goal.returns
returns c =
    nodes_are (scoped_view c.args.program.now) (visits_of_items (items_view Binder (λ b. b.0) c.items.result.now)) c.in_ok-counts.counts.nodes
    (ap visits_of_items c.items.ensures.items) c.in_ok-counts.ensures.nodes
