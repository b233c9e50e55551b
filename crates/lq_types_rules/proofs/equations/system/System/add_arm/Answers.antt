use Rattle.std.proofs.Common.{ap, ◌∙◌}
use Rattle.lq_base_names.specs.declared.name.Binder.{Binder}
use Rattle.lq_text_tree.specs.TreeView.{tree_view}
use Rattle.lq_types_rules.specs.Equations.Rows.{number_of}
use Rattle.lq_types_rules.proofs.EquationsLemmas.ArmGoals.{one_arm}
use Rattle.lq_types_rules.proofs.equations.system.System.add_arm.Goals as goal

pub returns-clause-adds : goal.returns-clause-adds
returns-clause-adds c = λ g h.
    one_arm g c.args.nodes c.args.self.now c.add_pattern.new.self c.same.new.self c.args.arm.now c.args.matched c.args.at c.number_of.result c.requires.arm c.requires.at (c.number_of.ensures ∙ ap (λ e. number_of (tree_view Binder (λ b. b.0) e)) c.deref.ensures) (c.in_ok-add_pattern.ensures.adds g h) c.in_ok-same.ensures
