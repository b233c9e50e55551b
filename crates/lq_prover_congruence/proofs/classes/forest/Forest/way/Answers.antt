-- A hop more, up or down.
use Rattle.std.proofs.Common.{List, sym, subst}
use Rattle.lq_prover_congruence.specs.Classes.Forest.{edges_of}
use Rattle.lq_prover_congruence.specs.declared.classes.tracing.Hop.{Hop}
use Rattle.lq_prover_congruence.proofs.ClassesLemmas.Routes.{Climbing, climbing-first, climbing-up, climbing-down, climbs-meet}
use Rattle.lq_prover_congruence.proofs.classes.forest.Forest.way.Goals as goal

pub loop-hop-init : goal.loop-hop-init
loop-hop-init c =
    let f = edges_of c.args.self.now.toward.items in
    let up = c.in_ok-up.ensures in
    let down = c.in_ok-down.ensures in
    let meets = c.part.ensures f c.args.from c.args.to (climbs-meet f c.args.from c.args.to c.in_ok-up.up.items c.in_ok-down.down.items up.0 down.0 c.requires.joined up.1 up.2 down.1 down.2) in
    let P : List Hop → Type 0 = λ hs. Climbing f c.args.from c.args.to c.new-reasons.result.items hs c.part.new.right.items in
    let Q : List _ → Type 0 = λ rs. Climbing f c.args.from c.args.to rs c.part.new.left.items c.part.new.right.items in
    subst P (sym c.deref-hop-items.ensures.value) (subst Q (sym c.new-reasons.ensures.items) (climbing-first f c.args.from c.args.to c.part.new.left.items c.part.new.right.items meets))

pub loop-hop-preserved : goal.loop-hop-preserved
loop-hop-preserved c =
    climbing-up (edges_of c.args.self.now.toward.items) c.args.from c.args.to c.loop-hop.reasons.items c.push.new.self.items c.deref-hop-items.result.now c.part.new.right.items c.loop-hop.hop-index _ c.loop-hop-test.true c.loop-hop.invariant c.in_ok-push.ensures.items

pub loop-hop-2-preserved : goal.loop-hop-2-preserved
loop-hop-2-preserved c =
    climbing-down (edges_of c.args.self.now.toward.items) c.args.from c.args.to c.loop-hop-2.reasons.items c.push-in-Some.new.self.items c.loop-hop-2.down.items c.pop.new.self.items c.in-Some.hop c.loop-hop-2.invariant c.in-Some.ensures.items c.in_ok-push-2.ensures.items
