use Rattle.std.proofs.Common.{refl}
use Rattle.lq_refined_rules.specs.Checks.Match.{in_arm}
use Rattle.lq_refined_templates.specs.Programs.BlockView.{pattern_view}
use Rattle.lq_refined_templates.specs.Programs.PureView.{use_view}
use Rattle.lq_generate_implications.specs.declared.walk.walk.Walk.{Walk}
use Rattle.lq_generate_implications.proofs.WalkLemmas.Opening.{enters-with}
use Rattle.lq_generate_implications.proofs.walk.walk.Walk.enter_arm.Goals as goal

pub returns : goal.returns
returns c =
    let b = c.args.basis.now in
    let w = c.args.self.now in
    let v : Walk = record { types = c.in_arm.new.types; list = c.in_arm.new.list; names = c.in_arm.new.names; asked = w.asked } in
    enters-with b w v c.args.env c.in_ok-inner.inner (λ P Γ. in_arm P Γ (use_view c.args.used) (pattern_view c.args.pattern.now)) c.requires
    (record { types = c.in_arm.ensures.grows; environments = c.in_arm.ensures.environments; implications = c.in_arm.ensures.implications; count = c.in_arm.ensures.count })
    c.in_arm.ensures.longer c.in_arm.ensures.below refl c.in_ok-inner.ensures.there (λ P Γ h. c.in_ok-inner.ensures.context P Γ h.0 h.1)
