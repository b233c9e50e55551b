use Rattle.std.proofs.Common.{refl}
use Rattle.lq_refined_rules.specs.Checks.Operation.{bind}
use Rattle.lq_refined_subtyping.specs.Table.Whole.{refined_at}
use Rattle.lq_generate_operations.specs.Basis.Basis.{scopes_of}
use Rattle.lq_generate_implications.specs.declared.walk.walk.Walk.{Walk}
use Rattle.lq_generate_implications.proofs.WalkLemmas.Opening.{enters-with}
use Rattle.lq_generate_implications.proofs.walk.walk.Walk.enter_name.Goals as goal

pub returns : goal.returns
returns c =
    let b = c.args.basis.now in
    let w = c.args.self.now in
    let v : Walk = record { types = c.bind.new.types; list = c.bind.new.list; names = c.bind.new.names; asked = w.asked } in
    enters-with b w v c.args.env c.in_ok-inner.inner (λ P Γ. bind c.args.name.0 (refined_at (scopes_of b) w.types c.args.row) Γ) c.requires.sound
    (record { types = c.bind.ensures.grows; environments = c.bind.ensures.environments; implications = c.bind.ensures.implications; count = c.bind.ensures.count })
    c.bind.ensures.longer c.bind.ensures.below refl c.in_ok-inner.ensures.there (λ P Γ h. c.in_ok-inner.ensures.context Γ h.1)
