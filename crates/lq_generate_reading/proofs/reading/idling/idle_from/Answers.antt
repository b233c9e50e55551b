use Rattle.std.proofs.Common.{◌≡◌, All, length, reverse, sym, subst, arith}
use Rattle.std.proofs.lemmas.List.Elements.{All-drop, All-push, All-take}
use Rattle.lq_generate_reading.specs.Reading.There.{IsThere}
use Rattle.lq_generate_reading.proofs.ReadingLemmas.IdleSteps.{idle_begin, idle_end, idle_next, left_head, left_tail}
use Rattle.lq_generate_reading.proofs.ReadingLemmas.Rows.{nothing_left}
use Rattle.lq_generate_reading.proofs.reading.idling.idle_from.Goals as goal

pub loop-point-init : goal.loop-point-init
loop-point-init c =
    let all = c.args.points.now.items in
    let k = c.args.mark in
    record {
      idled = λ scopes types.
          idle_begin scopes types k all c.taken.new.points.items (reverse c.in_ok-rest.rest.items) c.in_ok-rest.ensures.points c.in_ok-rest.ensures.taken;
      there = λ a b h. subst (All (IsThere a b)) (sym c.in_ok-rest.ensures.points) (All-take (IsThere a b) k all h);
      left = λ a b h. subst (All (IsThere a b)) (sym c.in_ok-rest.ensures.taken) (All-drop (IsThere a b) k all h);
    }

pub loop-point-preserved : goal.loop-point-preserved
loop-point-preserved c =
    let ps = c.loop-point.points.items in
    let rest = c.loop-point.rest.items in
    let left = c.pop.new.self.items in
    let q = c.in-Some.point in
    let r = c.in_ok-idle.idle in
    let popped = c.in-Some.ensures.items in
    let pushed = c.in_ok-push.ensures.items in
    record {
      idled = λ scopes types.
          idle_next scopes types ps c.push.new.self.items rest left q r _ (c.loop-point.invariant.idled scopes types) popped pushed
          (c.in_ok-idle.ensures.idled scopes types);
      there = λ a b h.
          subst (All (IsThere a b)) (sym pushed)
          (All-push (IsThere a b) ps r (c.loop-point.invariant.there a b h)
          (c.in_ok-idle.ensures.there a b (left_head (IsThere a b) rest left q popped (c.loop-point.invariant.left a b h))));
      left = λ a b h. left_tail (IsThere a b) rest left q popped (c.loop-point.invariant.left a b h);
    }

pub returns-clause-idled : goal.returns-clause-idled
returns-clause-idled c scopes types =
    idle_end scopes types c.loop-point.points.items c.loop-point.rest.items _ (c.loop-point.invariant.idled scopes types) (let l : length c.loop-point.rest.items ≡ 0 = (let e = c.loop-point.rest.ok.0 in let z = c.in_default.ensures.cases.0 in omega (arith, e, z)) in nothing_left c.loop-point.rest.items l)
