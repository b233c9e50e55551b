use Rattle.std.proofs.Common.{ap, ◌∙◌}
use Rattle.lq_base_names.specs.declared.name.Binder.{Binder}
use Rattle.lq_text_tree.specs.TreeView.{tree_view}
use Rattle.lq_types_rules.specs.Equations.Rows.{number_of}
use Rattle.lq_types_rules.proofs.EquationsLemmas.RuleGoals.{function_rule}
use Rattle.lq_types_rules.proofs.equations.system.System.with_function.Goals as goal

pub returns-clause-rule : goal.returns-clause-rule
returns-clause-rule c = λ g h.
    function_rule g c.args.nodes c.args.self c.add_function.new.self c.args.function.now c.number_of-body.result (c.number_of-body.ensures ∙ ap (λ e. number_of (tree_view Binder (λ b. b.0) e)) c.deref.ensures) (c.in_ok-add_function.ensures.adds g h)
