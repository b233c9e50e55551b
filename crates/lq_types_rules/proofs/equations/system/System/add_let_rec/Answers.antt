use Rattle.std.proofs.Common.{◌≡◌}
use Rattle.lq_types_rules.specs.Equations.Adding.{count_of}
use Rattle.lq_types_rules.proofs.EquationsLemmas.Composing.{after, depends_alike}
use Rattle.lq_types_rules.proofs.equations.system.System.add_let_rec.Goals as goal

pub returns : goal.returns
returns c =
    after c.args.self.now c.same.new.self c.same-2.new.self (λ t. t c.args.at ≡ t c.args.body) (λ t. t c.args.function ≡ t c.args.name) c.in_ok-same.ensures c.in_ok-same-2.ensures
    (depends_alike (count_of c.args.self.now) c.args.function c.args.name c.requires.function c.requires.name)
