use Rattle.std.proofs.Common.{◌≡◌, ◌∙◌}
use Rattle.lq_text_tree.specs.MlType as ml
use Rattle.lq_text_tree.specs.MlType.{MlType, MlTypes}
use Rattle.lq_types_rules.specs.Equations.Solutions.{made}
use Rattle.lq_types_rules.proofs.EquationsLemmas.Composing.{after, adds_as}
use Rattle.lq_types_rules.proofs.equations.system.System.all_plain.Goals as goal

pub returns : goal.returns
returns c =
    let x = made c.args.operand ml.no_types in
    let y = made c.args.answer ml.no_types in
    adds_as c.args.self.now c.are_plain.new.self (λ t. (t c.args.a ≡ x) × ((t c.args.b ≡ x) × (t c.args.c ≡ y))) (λ t. (t c.args.a ≡ x) × (t c.args.b ≡ x) × (t c.args.c ≡ y))
    (after c.args.self.now c.is.new.self c.are_plain.new.self (λ t. t c.args.a ≡ x) (λ t. (t c.args.b ≡ x) × (t c.args.c ≡ y)) c.in_ok-is.ensures c.in_ok-are_plain.ensures
    (λ t later g e. (g c.args.b c.requires.second ∙ e.0, g c.args.c c.requires.third ∙ e.1)))
    (λ t e. (e.0, e.1.0, e.1.1)) (λ t e. (e.0, (e.1, e.2)))
