use Rattle.std.proofs.Common.{map, sym, ap, ◌∙◌, [], ◌∷◌, ◌++◌, arith}
use Rattle.std.proofs.lemmas.List.{map-append}
use Rattle.lq_text_tree.specs.TreeView.{tree_view, exprs_items}
use Rattle.lq_text_walk.specs.Walk.Parts.{row_parts}
use Rattle.lq_text_walk.specs.Walk.Pending.{visit_view, seen}
use Rattle.lq_text_walk.specs.Walk.Visits.{enter}
use Rattle.lq_text_walk.proofs.WalkLemmas.Listed.{exprs_listed}
use Rattle.lq_text_walk.proofs.WalkLemmas.Rows.{one_more, no_more, all_taken, row_joins}
use Rattle.lq_text_walk.proofs.walk.walk.push_row.Goals as goal
use Rattle.lq_text_walk.proofs.walk.walk.push_row.Goals.{in-Some+in_ok-push, in_default}

pub loop-at-preserved : goal.loop-at-preserved
loop-at-preserved g c =
    elim c.match-get.branch [
      | in-Some+in_ok-push w ↦
          one_more (λ l. row_parts (map (tree_view _ g.B.Ident.number) l)) (λ x. enter (tree_view _ g.B.Ident.number x) ∷ []) (row_joins (tree_view _ g.B.Ident.number))
          (exprs_items _ c.args.exprs.now) c.loop-at.at w.in-Some.part.now _ _ _ (sym w.in-Some.ensures) c.loop-at.invariant
          (ap (λ v. seen _ g.B.Ident.number v.items) w.parts-is ∙ ap (seen _ g.B.Ident.number) w.in_ok-push.ensures.items ∙ map-append (visit_view _ g.B.Ident.number) c.loop-at.parts.items _)
      | in_default w ↦
          ap (λ v. seen _ g.B.Ident.number v.items) w.parts-is
          ∙ no_more (λ l. row_parts (map (tree_view _ g.B.Ident.number) l)) (exprs_items _ c.args.exprs.now) c.loop-at.at _ _ (sym w.in_default.ensures) c.loop-at.invariant
    ]

pub returns : goal.returns
returns g c = all_taken (λ l. row_parts (map (tree_view _ g.B.Ident.number) l)) (exprs_items _ c.args.exprs.now) c.loop-at.at _ _ (omega (arith, c.loop-at-test.false, c.len-at-end.ensures)) c.loop-at.invariant
    ∙ ap (λ l. seen _ g.B.Ident.number c.args.parts.now.items ++ row_parts l) (sym (exprs_listed _ g.B.Ident.number c.args.exprs.now))
