use Rattle.lq_refined_rules.specs.Checks.Listing.{from}
use Rattle.lq_refined_rules.specs.Checks.Pure.{formula_of}
use Rattle.lq_refined_templates.specs.Programs.PureView.{pure_view}
use Rattle.lq_refined_types.specs.Subtyping.Implication.{of_assertion}
use Rattle.lq_generate_implications.proofs.ObligationsLemmas.Stating.{on-ok}
use Rattle.lq_generate_implications.proofs.WalkLemmas.Walks.{demands}
use Rattle.lq_generate_implications.proofs.walk.walk.Walk.assert.Goals as goal

pub returns : goal.returns
returns c =
    on-ok c.demand.result c.demand.ensures (λ a t.
    demands c.args.basis.now c.args.self.now c.demand.new.self c.args.env _ (formula_of (pure_view c.args.asserted.now))
    (from c.args.place of_assertion) c.in_ok-formula.ensures a)
