use Rattle.std.proofs.Common.{◌+◌, ◌<◌, sym, subst, arith}
use Rattle.lq_text_tree.specs.TypingRules.{ItemPatternIs}
use Rattle.lq_types_rules.specs.Equations.Adding.{Adds, count_of}
use Rattle.lq_types_rules.specs.Equations.Rows.{annotation_of}
use Rattle.lq_types_rules.proofs.EquationsLemmas.Composing.{adds_nothing}
use Rattle.lq_types_rules.proofs.EquationsLemmas.Seen.{binder_in, any_seen}
use Rattle.lq_types_rules.proofs.equations.system.System.add_definition.Goals as goal

pub overflow_add-nodes : goal.overflow_add-nodes
overflow_add-nodes c = let x = binder_in c.args.pattern.now c.in-Bind.x (λ x. c.args.nodes + x < count_of c.args.self.now) c.in-Bind.is c.requires.names in let y = c.requires.system.arena.small in omega arith

pub same-requires-clause-left : goal.same-requires-clause-left
same-requires-clause-left c = binder_in c.args.pattern.now c.in-Bind.x (λ x. c.args.nodes + x < count_of c.args.self.now) c.in-Bind.is c.requires.names

pub returns-in-Any : goal.returns-in-Any
returns-in-Any c =
    subst (λ q. Adds c.args.self.now c.args.self.now (λ t. ItemPatternIs (annotation_of c.args.nodes t) q (t c.args.bound))) (sym (any_seen c.args.pattern.now c.in-Any.is)) (adds_nothing c.args.self.now c.requires.system)
