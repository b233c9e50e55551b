use Rattle.std.proofs.Common.{◌≡◌, ◌∙◌}
use Rattle.lq_text_tree.specs.MlType as ml
use Rattle.lq_text_tree.specs.MlType.{MlType, MlTypes}
use Rattle.lq_types_rules.proofs.EquationsLemmas.Composing.{after, adds_as}
use Rattle.lq_types_rules.proofs.equations.system.System.add_store.Goals as goal

pub returns : goal.returns
returns c =
    adds_as c.args.self.now c.are_plain.new.self (λ t. (t c.args.a ≡ ml.array (t c.args.c)) × ((t c.args.b ≡ ml.int) × (t c.args.at ≡ ml.unit)))
    (λ t. (t c.args.a ≡ ml.array (t c.args.c)) × (t c.args.b ≡ ml.int) × (t c.args.at ≡ ml.unit))
    (after c.args.self.now c.is.new.self c.are_plain.new.self (λ t. t c.args.a ≡ ml.array (t c.args.c)) (λ t. (t c.args.b ≡ ml.int) × (t c.args.at ≡ ml.unit)) c.in_ok-is.ensures c.in_ok-are_plain.ensures
    (λ t later g e. (g c.args.b c.requires.second ∙ e.0, g c.args.at c.requires.at ∙ e.1)))
    (λ t e. (e.0, e.1.0, e.1.1)) (λ t e. (e.0, (e.1, e.2)))
