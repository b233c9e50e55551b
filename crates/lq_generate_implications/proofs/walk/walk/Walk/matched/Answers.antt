use Rattle.lq_generate_implications.proofs.WalkLemmas.Walks.{types-alone}
use Rattle.lq_generate_implications.proofs.walk.walk.Walk.matched.Goals as goal

pub returns : goal.returns
returns c =
    let b = c.args.basis.now in
    let w = c.args.self.now in
    record {
      asks = types-alone b w c.args.env c.requires c.matched.new.types c.matched.ensures.grows;
      matched = λ P Γ h. c.in_ok-found.ensures.found P Γ h.0 h.1.knows;
    }
