use Rattle.std.proofs.Common.{◌≡◌, ◌-◌, ◌∷◌, ◌++◌, map, sym, ap, ◌∙◌}
use Rattle.lq_text_walk.specs.Walk.Parts.{inside, with_behind}
use Rattle.lq_text_walk.specs.Walk.Pending.{visit_view, seen, left}
use Rattle.lq_text_walk.proofs.WalkLemmas.Nexts.{next_in, extended}
use Rattle.lq_text_walk.proofs.walk.walk.Walk.next.Goals as goal

pub returns-clause-next : goal.returns-clause-next
returns-clause-next g c v is =
    let this : c.index-visit.result.now ≡ v = cc in
    let next =
    next_in (visit_view _ g.B.Ident.number) c.args.self.now.stack.items c.index-visit.result.now (seen _ g.B.Ident.number c.push_inside.new.parts.items)
    (seen _ g.B.Ident.number c.put_behind.new.stack.items) c.len-height.result (let counted = c.args.self.now.stack.ok in let is_length = c.len-height.ensures in cc) c.if-height-eq0.false c.index-visit.ensures
    (c.in_ok-push_inside.ensures ∙ ap (λ l. seen _ g.B.Ident.number l ++ inside (visit_view _ g.B.Ident.number c.index-visit.result.now)) c.clear.ensures.items)
    (c.put_behind.ensures
    ∙ ap (with_behind (visit_view _ g.B.Ident.number c.index-visit.result.now) (c.len-height.result - 1))
    (extended (visit_view _ g.B.Ident.number) c.args.self.now.stack.items c.push_inside.new.parts.items c.deref.result.now _ (c.deref.ensures.value ∙ c.reverse.ensures.items) c.in_ok-extend_from_slice.ensures.items))
    in next ∙ ap (λ w. visit_view _ g.B.Ident.number w ∷ left _ g.B.Ident.number (record { stack = c.put_behind.new.stack; parts = c.reverse.new.self })) this
