use Rattle.std.proofs.Common.{◌≡◌, sym, ap, ◌∙◌}
use Rattle.lq_text_tree.specs.MlType as ml
use Rattle.lq_text_tree.specs.MlType.{MlType, MlTypes}
use Rattle.lq_types_rules.proofs.EquationsLemmas.Composing.{after}
use Rattle.lq_types_rules.proofs.equations.system.System.add_make.Goals as goal

pub returns : goal.returns
returns c =
    after c.args.self.now c.is.new.self c.is-2.new.self (λ t. t c.args.a ≡ ml.int) (λ t. t c.args.at ≡ ml.array (t c.args.b)) c.in_ok-is.ensures c.in_ok-is-2.ensures
    (λ t later g e. g c.args.at c.requires.at ∙ e ∙ ap ml.array (sym (g c.args.b c.requires.second)))
