use Rattle.std.proofs.Common.{[], refl, sym, ap, ◌∙◌, arith}
use Rattle.lq_types_unify.specs.declared.arena.Head.TheVariants.{Unit}
use Rattle.lq_types_rules.proofs.ConstructorsLemmas.Placing.{at_upto, past_upto, more_added}
use Rattle.lq_types_rules.proofs.constructors.building.variable.Goals as goal

pub returns-then-variable-parameters-clause-is : goal.returns-then-variable-parameters-clause-is
returns-then-variable-parameters-clause-is c = λ t f. sym (at_upto t 0 c.args.parameters c.args.variable c.if-variable-parameters.true ∙ ap t (omega arith))

pub returns-clause-more : goal.returns-clause-more
returns-clause-more c = more_added c.args.types.now c.made.new.self c.args.parameters c.in_ok-node.node (record { head = Unit; parts = [] }) c.requires c.in_ok-node.ensures.added refl (λ k d h. absurd (omega arith))

pub returns-clause-is : goal.returns-clause-is
returns-clause-is c = λ t fits. fits c.in_ok-node.node (record { head = Unit; parts = [] }) c.in_ok-node.ensures.added.formed ∙ sym (past_upto t 0 c.args.parameters c.args.variable c.if-variable-parameters.false)
