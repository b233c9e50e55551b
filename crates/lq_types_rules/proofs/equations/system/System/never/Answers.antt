use Rattle.std.proofs.Common.{◌≡◌}
use Rattle.lq_text_tree.specs.MlType as ml
use Rattle.lq_text_tree.specs.MlType.{MlType, MlTypes}
use Rattle.lq_types_rules.specs.Equations.Adding.{count_of}
use Rattle.lq_types_rules.proofs.EquationsLemmas.Composing.{after, adds_as, depends_plain}
use Rattle.lq_types_rules.proofs.equations.system.System.never.Goals as goal

pub returns : goal.returns
returns c =
    adds_as c.args.self.now c.is-2.new.self (λ t. (t c.args.slot ≡ ml.int) × (t c.args.slot ≡ ml.bool)) (λ t. ⊥)
    (after c.args.self.now c.is.new.self c.is-2.new.self (λ t. t c.args.slot ≡ ml.int) (λ t. t c.args.slot ≡ ml.bool) c.in_ok-is.ensures c.in_ok-is-2.ensures
    (depends_plain (count_of c.args.self.now) c.args.slot ml.bool c.requires.slot))
    (λ t e. let x = e.0 in let y = e.1 in cc) (λ t e. absurd e)
