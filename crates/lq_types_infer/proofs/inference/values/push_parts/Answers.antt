use Rattle.std.proofs.Common.{map, take, refl, sym, ap, ◌∙◌, ◌∷◌, ◌++◌, [], arith, append_assoc}
use Rattle.std.proofs.lemmas.List.{map-append, take_all}
use Rattle.lq_base_names.specs.declared.name.Binder.{Binder}
use Rattle.lq_text_tree.specs.TreeView.{tree_view, exprs_items}
use Rattle.lq_types_rules.proofs.EquationsLemmas.Seen.{one_more, no_more, exprs_listed}
use Rattle.lq_types_infer.specs.Inference.Pending.{pending_view, pending_trees}
use Rattle.lq_types_infer.proofs.inference.values.push_parts.Goals as goal
use Rattle.lq_types_infer.proofs.inference.values.push_parts.Goals.{in-Some+in_ok-push, in_default}

pub loop-at-preserved : goal.loop-at-preserved
loop-at-preserved c =
    let before = pending_trees c.args.pending.now.items in
    let xs = exprs_items Binder c.args.parts.now in
    elim c.match-get.branch [
      | in-Some+in_ok-push w ↦
          ap (λ v. pending_trees v.items) w.pending-is ∙ ap pending_trees w.in_ok-push.ensures.items ∙ map-append pending_view c.loop-at.pending.items _
          ∙ ap (λ l. l ++ tree_view Binder (λ b. b.0) w.in-Some.part.now ∷ []) c.loop-at.invariant ∙ append_assoc before _ _
          ∙ ap (λ l. before ++ l) (one_more (tree_view Binder (λ b. b.0)) xs c.loop-at.at w.in-Some.part.now (map (tree_view Binder (λ b. b.0)) (take c.loop-at.at xs)) (sym w.in-Some.ensures) refl)
      | in_default w ↦ ap (λ v. pending_trees v.items) w.pending-is ∙ c.loop-at.invariant
          ∙ ap (λ l. before ++ l) (no_more (tree_view Binder (λ b. b.0)) xs c.loop-at.at (map (tree_view Binder (λ b. b.0)) (take c.loop-at.at xs)) (sym w.in_default.ensures) refl)
    ]

pub returns : goal.returns
returns c = c.loop-at.invariant
    ∙ ap (λ l. pending_trees c.args.pending.now.items ++ l) (ap (map (tree_view Binder (λ b. b.0))) (take_all c.loop-at.at (exprs_items Binder c.args.parts.now) (omega (arith, c.loop-at-test.false, c.len-at-end.ensures))) ∙ sym (exprs_listed c.args.parts.now))
