use Rattle.lq_refined_types.specs.Types.Refined.{unit_type}
use Rattle.lq_generate_operations.specs.Basis.Basis.{scopes_of}
use Rattle.lq_generate_implications.proofs.WalkLemmas.Walks.{finds-types}
use Rattle.lq_generate_implications.proofs.walk.walk.Walk.unit.Goals as goal

pub returns : goal.returns
returns c =
    finds-types c.args.basis.now c.args.self.now c.args.env c.requires c.push.new.self c.in_ok-made.made (λ P Γ. unit_type) c.push.ensures.grows
    c.in_ok-made.ensures.there (λ P Γ s k. c.in_ok-made.ensures.refined (scopes_of c.args.basis.now))
