use Rattle.std.proofs.Common.{arith}
use Rattle.lq_types_rules.proofs.EquationsLemmas.Opening.{none_more, fresh_system, past_none}
use Rattle.lq_types_rules.proofs.equations.system.System.new.Goals as goal

pub loop-init : goal.loop-init
loop-init c = record { arena = c.new-arena.ensures.arena; long = c.new-arena.ensures.none; empty = λ i. past_none c.new-arena.result i (let z = c.new-arena.ensures.none in omega arith) }

pub loop-preserved : goal.loop-preserved
loop-preserved c = record {
  arena = c.in_ok-open.ensures.added.arena;
  long = let a = c.in_ok-open.ensures.added.count in let b = c.in_ok-open.ensures.added.next in let d = c.loop.invariant.long in omega arith;
  empty = none_more c.loop.arena c.open.new.self c.in_ok-open.field-0 c.in_ok-open.ensures.added c.loop.invariant.empty;
}

pub returns : goal.returns
returns c = fresh_system _ c.args.count c.loop.invariant.arena (let a = c.loop.invariant.long in let b = c.loop-test.false in let d = c.loop.auto.counter-end in omega arith) c.loop.invariant.empty c.new.ensures.items
