use Rattle.std.proofs.Common.{sym, ap, ◌∙◌, arith}
use Rattle.lq_text_tree.specs.TreeView.{tree_view, case_view, arms_items}
use Rattle.lq_text_walk.specs.Walk.Parts.{let_case}
use Rattle.lq_text_walk.proofs.WalkLemmas.Lets.{here, not_here, several}
use Rattle.lq_text_walk.proofs.WalkLemmas.Listed.{arms_listed, tree_place, arm_place}
use Rattle.lq_text_walk.proofs.WalkLemmas.Rows.{past}
use Rattle.lq_text_walk.proofs.walk.walk.let_arm.Goals as goal

pub returns-then-len-ne1 : goal.returns-then-len-ne1
returns-then-len-ne1 g c =
    several (case_view _ g.B.Ident.number) (tree_view _ g.B.Ident.number c.args.scrutinee.now) (arms_items _ c.args.arms.now) (λ one. c.if-len-ne1.true (c.len.ensures ∙ one))
    ∙ ap (let_case (tree_view _ g.B.Ident.number c.args.scrutinee.now)) (sym (arms_listed _ g.B.Ident.number c.args.arms.now))

pub returns-then-is_before : goal.returns-then-is_before
returns-then-is_before g c =
    here (case_view _ g.B.Ident.number) (tree_view _ g.B.Ident.number c.args.scrutinee.now) (arms_items _ c.args.arms.now) c.in-Some.arm.now _ _ _ (sym c.len.ensures ∙ c.if-len-ne1.false) (sym c.in-Some.ensures)
    (arm_place _ g.B.Ident.number c.in-Some.arm.now) (tree_place _ g.B.Ident.number c.args.scrutinee.now) c.is_before.ensures c.if-is_before.true
    ∙ ap (let_case (tree_view _ g.B.Ident.number c.args.scrutinee.now)) (sym (arms_listed _ g.B.Ident.number c.args.arms.now))

pub returns-else-is_before : goal.returns-else-is_before
returns-else-is_before g c =
    not_here (case_view _ g.B.Ident.number) (tree_view _ g.B.Ident.number c.args.scrutinee.now) (arms_items _ c.args.arms.now) c.in-Some.arm.now _ _ _ (sym c.len.ensures ∙ c.if-len-ne1.false) (sym c.in-Some.ensures)
    (arm_place _ g.B.Ident.number c.in-Some.arm.now) (tree_place _ g.B.Ident.number c.args.scrutinee.now) c.is_before.ensures c.if-is_before.false
    ∙ ap (let_case (tree_view _ g.B.Ident.number c.args.scrutinee.now)) (sym (arms_listed _ g.B.Ident.number c.args.arms.now))

pub returns-in-None : goal.returns-in-None
returns-in-None g c =
    several (case_view _ g.B.Ident.number) (tree_view _ g.B.Ident.number c.args.scrutinee.now) (arms_items _ c.args.arms.now)
    (λ one. let far = past (arms_items _ c.args.arms.now) 0 (sym c.in-None.ensures) in omega (arith, one, far))
    ∙ ap (let_case (tree_view _ g.B.Ident.number c.args.scrutinee.now)) (sym (arms_listed _ g.B.Ident.number c.args.arms.now))
