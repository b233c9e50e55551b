use Rattle.lq_refined_rules.specs.Checks.Listing.{from}
use Rattle.lq_refined_rules.specs.Checks.Operation.{not_negative}
use Rattle.lq_refined_rules.specs.Checks.Pure.{pure_type}
use Rattle.lq_refined_rules.specs.Obligations.Obligations.{demand, subtyping}
use Rattle.lq_refined_templates.specs.Programs.PureView.{pure_view}
use Rattle.lq_refined_types.specs.Subtyping.Implication.{of_argument, of_length}
use Rattle.lq_generate_implications.proofs.ObligationsLemmas.Stating.{on-ok}
use Rattle.lq_generate_implications.proofs.WalkLemmas.Walks.{asks-trans, demands, finds-both}
use Rattle.lq_generate_implications.proofs.walk.walk.Walk.make.Goals as goal

pub returns : goal.returns
returns c =
    let b = c.args.basis.now in
    let env = c.args.env in
    on-ok c.fits.result c.fits.ensures (λ a t.
    asks-trans b c.args.self.now env c.requires c.demand.new.self c.fits.new.self
    (λ P Γ. demand P Γ (not_negative (pure_view c.args.length.now)) (from c.args.place of_length))
    (λ P Γ. subtyping P Γ (pure_type P Γ (pure_view c.args.element.now)) (P.template c.args.point) (from c.args.place of_argument))
    (demands b c.args.self.now c.demand.new.self env _ (not_negative (pure_view c.args.length.now)) (from c.args.place of_length)
    c.in_ok-not_negative.ensures c.in_ok-demand.ensures)
    (finds-both b c.demand.new.self env c.in_ok-demand.ensures.moves.sound c.operand.new.self c.template.new.self c.fits.new.self
    c.in_ok-left.left c.in_ok-right.right (λ P Γ. pure_type P Γ (pure_view c.args.element.now)) (λ P Γ. P.template c.args.point)
    (λ P Γ l r. subtyping P Γ l r (from c.args.place of_argument)) c.in_ok-left.ensures c.in_ok-right.ensures a))
