use Rattle.lq_refined_rules.specs.Checks.Operation.{type_of}
use Rattle.lq_refined_templates.specs.Programs.BlockView.{operation_view}
use Rattle.lq_generate_implications.proofs.WalkLemmas.Walks.{finds-types}
use Rattle.lq_generate_implications.proofs.walk.walk.Walk.given.Goals as goal

pub returns : goal.returns
returns c =
    finds-types c.args.basis.now c.args.self.now c.args.env c.requires c.type_of.new.types c.in_ok-made.made
    (λ P Γ. type_of P Γ (operation_view c.args.operation.now)) c.type_of.ensures.grows c.in_ok-made.ensures.there c.in_ok-made.ensures.refined
