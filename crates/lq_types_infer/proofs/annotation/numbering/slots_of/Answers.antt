use Rattle.std.proofs.Common.{◌≡◌, List, [], ◌+◌, ◌++◌, map, sym, ap, ◌∙◌}
use Rattle.lq_base_names.specs.declared.name.Binder.{Binder}
use Rattle.lq_text_tree.specs.Items.{items_view}
use Rattle.lq_text_walk.specs.Walk.Pending.{left}
use Rattle.lq_text_walk.specs.Walk.Visits.{Visit}
use Rattle.lq_text_walk.specs.Scoped.Numbers.{binders_in}
use Rattle.lq_types_rules.specs.Typings.Fronts.{left_in}
use Rattle.lq_types_infer.proofs.AnnotationLemmas.Visited.{in_order_is}
use Rattle.lq_types_infer.proofs.annotation.numbering.slots_of.Goals as goal

pub returns : goal.returns
returns c i one =
    let slots = c.loop-walk.slots.items in
    let binders = c.loop-walk.binders.items in
    let over : left Binder (λ b. b.0) c.loop-walk.walk ≡ [] =
    c.next.ensures.over (let a = c.in_ok-visit.was in let b = c.in_default.is in cc) in
    in_order_is c.args.nodes (items_view Binder (λ b. b.0) c.args.one.now) i slots binders c.extend_from_slice.new.self.items one
    (ap (λ (us : List Visit). slots ++ left_in us) (sym over) ∙ c.loop-walk.invariant.nodes)
    (ap (λ (us : List Visit). binders ++ map (λ x. c.args.nodes + x) (binders_in us)) (sym over) ∙ c.loop-walk.invariant.binders)
    (c.in_ok-extend_from_slice.ensures.items ∙ ap (λ l. slots ++ l) c.deref.ensures.value)
