use Rattle.lq_refined_rules.specs.Checks.Listing.{from}
use Rattle.lq_refined_rules.specs.Checks.Operation.{in_range}
use Rattle.lq_refined_templates.specs.Programs.PureView.{pure_view, use_view}
use Rattle.lq_refined_types.specs.Subtyping.Implication.{of_index}
use Rattle.lq_generate_implications.proofs.ObligationsLemmas.Stating.{on-ok}
use Rattle.lq_generate_implications.proofs.WalkLemmas.Walks.{demands}
use Rattle.lq_generate_implications.proofs.walk.walk.Walk.fetch.Goals as goal

pub returns : goal.returns
returns c =
    on-ok c.demand.result c.demand.ensures (λ a t.
    demands c.args.basis.now c.args.self.now c.demand.new.self c.args.env _ (in_range (use_view c.args.used) (pure_view c.args.index.now))
    (from c.args.place of_index) c.in_ok-in_range.ensures a)
