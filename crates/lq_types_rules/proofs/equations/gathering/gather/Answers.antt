use Rattle.std.proofs.Common.{◌≡◌, suc, ◌<◌, [], ◌∷◌, ◌++◌, length, sym, ap, subst, ◌∙◌, arith}
use Rattle.lq_base_names.specs.declared.name.Binder.{Binder}
use Rattle.lq_text_tree.specs.Items.{items_view}
use Rattle.lq_text_walk.specs.Walk.Pending.{left, visit_view}
use Rattle.lq_text_walk.specs.Walk.Visits.{visits_of_items}
use Rattle.lq_types_rules.specs.Equations.Adding.{count_of}
use Rattle.lq_types_rules.proofs.EquationsLemmas.Widening.{IsGathering, visit_wider, gathering_none, next_in, gathering_more}
use Rattle.lq_types_rules.proofs.equations.gathering.gather.Goals as goal

pub loop-walk-init : goal.loop-walk-init
loop-walk-init c =
    let all = visits_of_items (items_view Binder (λ b. b.0) c.args.items.now) in
    subst (λ es. IsGathering c.args.constructors.now c.args.nodes c.args.slots all (left Binder (λ b. b.0) c.in_ok-walk.walk) es c.in_ok-system.system) (sym c.new-ends.ensures.items)
    (gathering_none c.args.constructors.now c.args.nodes c.args.slots all (left Binder (λ b. b.0) c.in_ok-walk.walk) c.in_ok-system.system c.in_ok-system.ensures c.in_ok-walk.ensures)

pub with_visit-requires-clause-within : goal.with_visit-requires-clause-within
with_visit-requires-clause-within c =
    let all = visits_of_items (items_view Binder (λ b. b.0) c.args.items.now) in
    let v = visit_view Binder (λ b. b.0) c.in-Some.visit in
    let e = c.next.ensures.next c.in-Some.visit (let a = c.in_ok-visit.was in let b = c.in-Some.is in cc) in
    visit_wider c.args.nodes c.args.slots (count_of c.loop-walk.system) c.loop-walk.invariant.longer v
    (next_in c.args.constructors.now c.args.nodes c.args.slots all (left Binder (λ b. b.0) c.loop-walk.walk) (left Binder (λ b. b.0) c.next.new.self) c.loop-walk.ends.items c.loop-walk.system v c.loop-walk.invariant e c.requires.within)

pub loop-walk-smaller : goal.loop-walk-smaller
loop-walk-smaller c =
    let e = c.next.ensures.next c.in-Some.visit (let a = c.in_ok-visit.was in let b = c.in-Some.is in cc) in
    let l : length (left Binder (λ b. b.0) c.loop-walk.walk) ≡ suc (length (left Binder (λ b. b.0) c.next.new.self)) = ap length e in
    let r : length (left Binder (λ b. b.0) c.next.new.self) < length (left Binder (λ b. b.0) c.loop-walk.walk) = omega arith in
    r

pub loop-walk-preserved : goal.loop-walk-preserved
loop-walk-preserved c =
    let all = visits_of_items (items_view Binder (λ b. b.0) c.args.items.now) in
    let e = c.next.ensures.next c.in-Some.visit (let a = c.in_ok-visit.was in let b = c.in-Some.is in cc) in
    gathering_more c.args.constructors.now c.args.nodes c.args.slots all (left Binder (λ b. b.0) c.loop-walk.walk) (left Binder (λ b. b.0) c.next.new.self) c.loop-walk.ends.items c.push.new.self.items c.loop-walk.system
    c.in_ok-system-2.system (visit_view Binder (λ b. b.0) c.in-Some.visit) c.loop-walk.invariant e c.requires.within c.in_ok-system-2.ensures.grows c.in_ok-system-2.ensures.rule
    (c.in_ok-push.ensures.items ∙ ap (λ n. c.loop-walk.ends.items ++ n ∷ []) (let x = c.len.ensures in let r : c.len.result ≡ length c.in_ok-system-2.system.equations.items = omega arith in r))
