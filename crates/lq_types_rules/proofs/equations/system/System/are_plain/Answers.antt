use Rattle.std.proofs.Common.{◌≡◌}
use Rattle.lq_text_tree.specs.MlType as ml
use Rattle.lq_text_tree.specs.MlType.{MlType, MlTypes}
use Rattle.lq_types_rules.specs.Equations.Solutions.{made}
use Rattle.lq_types_rules.specs.Equations.Adding.{count_of}
use Rattle.lq_types_rules.proofs.EquationsLemmas.Composing.{after, depends_plain}
use Rattle.lq_types_rules.proofs.equations.system.System.are_plain.Goals as goal

pub returns : goal.returns
returns c =
    after c.args.self.now c.is.new.self c.is-2.new.self (λ t. t c.args.a ≡ made c.args.x ml.no_types) (λ t. t c.args.b ≡ made c.args.y ml.no_types) c.in_ok-is.ensures c.in_ok-is-2.ensures
    (depends_plain (count_of c.args.self.now) c.args.b (made c.args.y ml.no_types) c.requires.second)
