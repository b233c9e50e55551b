use Rattle.lq_generate_implications.proofs.WalkLemmas.Walks.{finds-types}
use Rattle.lq_generate_implications.proofs.walk.walk.Walk.template.Goals as goal

pub returns : goal.returns
returns c =
    finds-types c.args.basis.now c.args.self.now c.args.env c.requires c.template.new.types c.in_ok-made.made (λ P Γ. P.template c.args.point)
    c.template.ensures.grows c.in_ok-made.ensures.there (λ P Γ s k. c.in_ok-made.ensures.refined P s)
