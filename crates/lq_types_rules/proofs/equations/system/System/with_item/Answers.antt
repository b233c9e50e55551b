use Rattle.std.proofs.Common.{sym, subst}
use Rattle.lq_base_names.specs.declared.name.Binder.{Binder}
use Rattle.lq_text_tree.specs.Items.{item_form_view}
use Rattle.lq_text_tree.specs.PatternView.{pat_view}
use Rattle.lq_text_tree.specs.TreeView.{tree_view}
use Rattle.lq_types_rules.specs.Equations.Adding.{Adds}
use Rattle.lq_types_rules.specs.Equations.Rows.{ItemRule}
use Rattle.lq_types_rules.proofs.EquationsLemmas.Composing.{adds_nothing}
use Rattle.lq_types_rules.proofs.EquationsLemmas.RuleGoals.{let_rule, let_rec_rule}
use Rattle.lq_types_rules.proofs.equations.system.System.with_item.Goals as goal
use Rattle.lq_types_rules.proofs.equations.system.System.with_item.Goals.{in-Type, in-Let+in_ok-add_definition-in-Let, in-LetRec+in_ok-same-in-LetRec}

pub returns-clause-rule : goal.returns-clause-rule
returns-clause-rule c =
    let old = c.args.self in
    elim c.match-item.branch [
      | in-Type w ↦
          subst (λ s. Adds old s (ItemRule c.args.nodes (item_form_view Binder (λ b. b.0) c.args.item.now))) (sym w.self-is)
          (subst (λ i. Adds old old (ItemRule c.args.nodes (item_form_view Binder (λ b. b.0) i))) (sym w.in-Type.is) (adds_nothing old c.requires.system))
      | in-Let+in_ok-add_definition-in-Let w ↦
          subst (λ s. Adds old s (ItemRule c.args.nodes (item_form_view Binder (λ b. b.0) c.args.item.now))) (sym w.self-is)
          (subst (λ i. Adds old w.add_definition.new.self (ItemRule c.args.nodes (item_form_view Binder (λ b. b.0) i))) (sym w.in-Let.is)
          (let_rule c.args.nodes old w.add_definition.new.self (pat_view Binder (λ b. b.0) w.in-Let.pattern) (tree_view Binder (λ b. b.0) w.in-Let.bound) w.number_of.result w.number_of.ensures w.in_ok-add_definition-in-Let.ensures))
      | in-LetRec+in_ok-same-in-LetRec w ↦
          subst (λ s. Adds old s (ItemRule c.args.nodes (item_form_view Binder (λ b. b.0) c.args.item.now))) (sym w.self-is)
          (subst (λ i. Adds old w.same.new.self (ItemRule c.args.nodes (item_form_view Binder (λ b. b.0) i))) (sym w.in-LetRec.is)
          (let_rec_rule c.args.nodes old w.same.new.self w.in-LetRec.name.0 w.in-LetRec.function w.in_ok-same-in-LetRec.ensures))
    ]
