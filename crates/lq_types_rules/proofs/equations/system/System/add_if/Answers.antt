use Rattle.std.proofs.Common.{◌≡◌}
use Rattle.lq_text_tree.specs.MlType as ml
use Rattle.lq_text_tree.specs.MlType.{MlType, MlTypes}
use Rattle.lq_types_rules.specs.Equations.Adding.{count_of}
use Rattle.lq_types_rules.proofs.EquationsLemmas.Composing.{after, adds_as, depends_alike}
use Rattle.lq_types_rules.proofs.equations.system.System.add_if.Goals as goal

pub returns : goal.returns
returns c =
    let n = count_of c.args.self.now in
    adds_as c.args.self.now c.same-2.new.self (λ t. ((t c.args.a ≡ ml.bool) × (t c.args.b ≡ t c.args.at)) × (t c.args.c ≡ t c.args.at))
    (λ t. (t c.args.a ≡ ml.bool) × (t c.args.b ≡ t c.args.at) × (t c.args.c ≡ t c.args.at))
    (after c.args.self.now c.same.new.self c.same-2.new.self (λ t. (t c.args.a ≡ ml.bool) × (t c.args.b ≡ t c.args.at)) (λ t. t c.args.c ≡ t c.args.at)
    (after c.args.self.now c.is.new.self c.same.new.self (λ t. t c.args.a ≡ ml.bool) (λ t. t c.args.b ≡ t c.args.at) c.in_ok-is.ensures c.in_ok-same.ensures
    (depends_alike n c.args.b c.args.at c.requires.second c.requires.at))
    c.in_ok-same-2.ensures (depends_alike n c.args.c c.args.at c.requires.third c.requires.at))
    (λ t e. (e.0.0, e.0.1, e.1)) (λ t e. ((e.0, e.1), e.2))
