use Rattle.lq_refined_rules.specs.Checks.Pure.{pure_type}
use Rattle.lq_refined_templates.specs.Programs.PureView.{pure_view}
use Rattle.lq_generate_implications.proofs.WalkLemmas.Walks.{finds-types}
use Rattle.lq_generate_implications.proofs.walk.walk.Walk.operand.Goals as goal

pub returns : goal.returns
returns c =
    finds-types c.args.basis.now c.args.self.now c.args.env c.requires c.pure_type.new.types c.in_ok-made.made (λ P Γ. pure_type P Γ (pure_view c.args.operand.now))
    c.in_ok-made.ensures.grows c.in_ok-made.ensures.there c.in_ok-made.ensures.refined
