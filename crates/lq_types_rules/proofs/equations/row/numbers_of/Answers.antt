use Rattle.std.proofs.Common.{[], ◌∷◌, ◌++◌, map, sym, ap, ◌∙◌, arith}
use Rattle.lq_base_names.specs.declared.name.Binder.{Binder}
use Rattle.lq_text_tree.specs.TreeView.{tree_view, exprs_items}
use Rattle.lq_types_rules.specs.Equations.Rows.{number_of}
use Rattle.lq_types_rules.proofs.EquationsLemmas.Seen.{exprs_listed, one_more, no_more, past_all, map_map}
use Rattle.lq_types_rules.proofs.equations.row.numbers_of.Goals as goal
use Rattle.lq_types_rules.proofs.equations.row.numbers_of.Goals.{in-Some+in_ok-push, in_default}

pub loop-at-preserved : goal.loop-at-preserved
loop-at-preserved c = elim c.match-get.branch [
  | in-Some+in_ok-push w ↦
      ap (λ v. v.items) w.all-is ∙ w.in_ok-push.ensures.items ∙ ap (λ n. c.loop-at.all.items ++ n ∷ []) w.number_of.ensures
      ∙ one_more (λ e. number_of (tree_view Binder (λ b. b.0) e)) (exprs_items Binder c.args.row.now) c.loop-at.at w.in-Some.node.now c.loop-at.all.items (sym w.in-Some.ensures) c.loop-at.invariant
  | in_default w ↦
      ap (λ v. v.items) w.all-is ∙ no_more (λ e. number_of (tree_view Binder (λ b. b.0) e)) (exprs_items Binder c.args.row.now) c.loop-at.at c.loop-at.all.items (sym w.in_default.ensures) c.loop-at.invariant
]

pub returns : goal.returns
returns c =
    c.loop-at.invariant ∙ ap (map (λ e. number_of (tree_view Binder (λ b. b.0) e))) (past_all (exprs_items Binder c.args.row.now) c.loop-at.at (let a = c.loop-at-test.false in let b = c.len-at-end.ensures in omega arith))
    ∙ sym (map_map (tree_view Binder (λ b. b.0)) number_of (exprs_items Binder c.args.row.now)) ∙ ap (map number_of) (sym (exprs_listed c.args.row.now))
