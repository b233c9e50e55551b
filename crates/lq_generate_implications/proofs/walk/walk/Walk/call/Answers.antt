use Rattle.lq_refined_rules.specs.Checks.Listing.{from}
use Rattle.lq_refined_rules.specs.Checks.Pure.{pure_type}
use Rattle.lq_refined_rules.specs.Obligations.Obligations.{subtyping}
use Rattle.lq_refined_templates.specs.Programs.PureView.{pure_view}
use Rattle.lq_refined_types.specs.Types.Refined.{argument_of}
use Rattle.lq_refined_types.specs.Subtyping.Implication.{of_argument}
use Rattle.lq_generate_implications.proofs.ObligationsLemmas.Stating.{on-ok}
use Rattle.lq_generate_implications.proofs.WalkLemmas.Walks.{finds-both}
use Rattle.lq_generate_implications.proofs.walk.walk.Walk.call.Goals as goal

pub returns : goal.returns
returns c =
    on-ok c.fits.result c.fits.ensures (λ a t.
    finds-both c.args.basis.now c.args.self.now c.args.env c.requires c.operand.new.self c.argument.new.self c.fits.new.self
    c.in_ok-left.left c.in_ok-right.right (λ P Γ. pure_type P Γ (pure_view c.args.operand.now))
    (λ P Γ. argument_of (pure_type P Γ (pure_view c.args.function.now))) (λ P Γ l r. subtyping P Γ l r (from c.args.place of_argument))
    c.in_ok-left.ensures c.in_ok-right.ensures a)
