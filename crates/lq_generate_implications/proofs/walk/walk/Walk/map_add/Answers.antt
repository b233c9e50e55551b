use Rattle.lq_refined_rules.specs.Checks.Listing.{from}
use Rattle.lq_refined_rules.specs.Checks.Operation.{element_at}
use Rattle.lq_refined_rules.specs.Checks.Pure.{pure_type}
use Rattle.lq_refined_rules.specs.Obligations.Obligations.{subtyping}
use Rattle.lq_refined_templates.specs.Programs.PureView.{pure_view}
use Rattle.lq_refined_types.specs.Subtyping.Implication.{of_argument}
use Rattle.lq_generate_implications.proofs.ObligationsLemmas.Stating.{on-ok}
use Rattle.lq_generate_implications.proofs.WalkLemmas.Walks.{asks-trans, finds-both}
use Rattle.lq_generate_implications.proofs.walk.walk.Walk.map_add.Goals as goal

pub returns : goal.returns
returns c =
    let b = c.args.basis.now in
    let env = c.args.env in
    let o = from c.args.place of_argument in
    let w1 = c.fits.new.self in
    let w2 = c.fits-2.new.self in
    on-ok c.fits-2.result c.fits-2.ensures (λ a t.
    asks-trans b c.args.self.now env c.requires w1 w2
    (λ P Γ. subtyping P Γ (pure_type P Γ (pure_view c.args.element.now)) (element_at P.setting.scopes (pure_view c.args.key.now) (P.template c.args.point)) o)
    (λ P Γ. subtyping P Γ (pure_type P Γ (pure_view c.args.map.now)) (P.template c.args.point) o)
    (finds-both b c.args.self.now env c.requires c.operand.new.self c.keyed.new.self w1 c.in_ok-left.left c.in_ok-right.right
    (λ P Γ. pure_type P Γ (pure_view c.args.element.now)) (λ P Γ. element_at P.setting.scopes (pure_view c.args.key.now) (P.template c.args.point))
    (λ P Γ l r. subtyping P Γ l r o) c.in_ok-left.ensures c.in_ok-right.ensures c.in_ok-fits.ensures)
    (finds-both b w1 env c.in_ok-fits.ensures.moves.sound c.operand-2.new.self c.template.new.self w2 c.in_ok-left-2.left c.in_ok-right-2.right
    (λ P Γ. pure_type P Γ (pure_view c.args.map.now)) (λ P Γ. P.template c.args.point)
    (λ P Γ l r. subtyping P Γ l r o) c.in_ok-left-2.ensures c.in_ok-right-2.ensures a))
