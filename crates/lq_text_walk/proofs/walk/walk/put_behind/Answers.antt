use Rattle.std.proofs.Common.{◌≡◌, map, sym, ap, ◌∙◌}
use Rattle.std.proofs.lemmas.List.{map-set, take-map}
use Rattle.lq_text_walk.specs.Walk.Parts.{with_behind}
use Rattle.lq_text_walk.specs.Walk.Pending.{visit_view, seen}
use Rattle.lq_text_walk.specs.declared.walk.walk.Visit.TheVariants.{LeaveItem, Leave}
use Rattle.lq_text_walk.proofs.WalkLemmas.Nexts.{leaves_nothing}
use Rattle.lq_text_walk.proofs.walk.walk.put_behind.Goals as goal

pub returns-in-EnterItem : goal.returns-in-EnterItem
returns-in-EnterItem g c =
    map-set (visit_view _ g.B.Ident.number) c.args.stack.now.items c.args.at (LeaveItem c.in-EnterItem.item)
    ∙ ap (λ v. with_behind (visit_view _ g.B.Ident.number v) c.args.at (seen _ g.B.Ident.number c.args.stack.now.items)) (sym c.in-EnterItem.is)

pub returns-in-Enter : goal.returns-in-Enter
returns-in-Enter g c =
    map-set (visit_view _ g.B.Ident.number) c.args.stack.now.items c.args.at (Leave c.in-Enter.node)
    ∙ ap (λ v. with_behind (visit_view _ g.B.Ident.number v) c.args.at (seen _ g.B.Ident.number c.args.stack.now.items)) (sym c.in-Enter.is)

pub returns-in_default : goal.returns-in_default
returns-in_default g c =
    ap (seen _ g.B.Ident.number) c.truncate.ensures.items
    ∙ sym (take-map (visit_view _ g.B.Ident.number) c.args.at c.args.stack.now.items)
    ∙ leaves_nothing _ g.B.Ident.number c.args.visit c.args.at _ c.in_default.not-EnterItem c.in_default.not-Enter
