use Rattle.lq_types_rules.proofs.EquationsLemmas.RuleGoals.{node_rule}
use Rattle.lq_types_rules.proofs.equations.system.System.with_node.Goals as goal

pub returns-clause-rule : goal.returns-clause-rule
returns-clause-rule c = λ g h. node_rule g c.args.nodes c.args.self c.add_shape.new.self c.args.node.now _ c.shape_of.ensures (c.in_ok-add_shape.ensures.adds g h)
