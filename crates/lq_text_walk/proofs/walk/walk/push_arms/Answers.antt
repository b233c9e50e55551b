use Rattle.std.proofs.Common.{map, sym, ap, ◌∙◌, [], ◌∷◌, ◌++◌, arith}
use Rattle.lq_text_tree.specs.TreeView.{case_view, arms_items}
use Rattle.lq_text_walk.specs.Walk.Parts.{arm_parts, arms_parts}
use Rattle.lq_text_walk.specs.Walk.Pending.{seen}
use Rattle.lq_text_walk.proofs.WalkLemmas.Listed.{arms_listed}
use Rattle.lq_text_walk.proofs.WalkLemmas.Rows.{one_more, no_more, all_taken, arms_joins}
use Rattle.lq_text_walk.proofs.walk.walk.push_arms.Goals as goal
use Rattle.lq_text_walk.proofs.walk.walk.push_arms.Goals.{in-Some+in_ok-push_arm, in_default}

pub loop-at-preserved : goal.loop-at-preserved
loop-at-preserved g c =
    elim c.match-get.branch [
      | in-Some+in_ok-push_arm w ↦
          one_more (λ l. arms_parts (map (case_view _ g.B.Ident.number) l)) (λ x. arm_parts (case_view _ g.B.Ident.number x)) (arms_joins (case_view _ g.B.Ident.number))
          (arms_items _ c.args.arms.now) c.loop-at.at w.in-Some.arm.now _ _ _ (sym w.in-Some.ensures) c.loop-at.invariant
          (ap (λ v. seen _ g.B.Ident.number v.items) w.parts-is ∙ w.in_ok-push_arm.ensures)
      | in_default w ↦
          ap (λ v. seen _ g.B.Ident.number v.items) w.parts-is
          ∙ no_more (λ l. arms_parts (map (case_view _ g.B.Ident.number) l)) (arms_items _ c.args.arms.now) c.loop-at.at _ _ (sym w.in_default.ensures) c.loop-at.invariant
    ]

pub returns : goal.returns
returns g c = all_taken (λ l. arms_parts (map (case_view _ g.B.Ident.number) l)) (arms_items _ c.args.arms.now) c.loop-at.at _ _ (omega (arith, c.loop-at-test.false, c.len-at-end.ensures)) c.loop-at.invariant
    ∙ ap (λ l. seen _ g.B.Ident.number c.args.parts.now.items ++ arms_parts l) (sym (arms_listed _ g.B.Ident.number c.args.arms.now))
