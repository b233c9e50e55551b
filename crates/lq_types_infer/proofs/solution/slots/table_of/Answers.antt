use Rattle.std.proofs.Common.{◌<◌, vec_len, arith}
use Rattle.lq_types_rules.specs.Equations.Adding.{count_of}
use Rattle.lq_types_table.specs.Whole.{types_of}
use Rattle.lq_types_infer.proofs.SolutionLemmas.Ordering.{parent_in, slot_more}
use Rattle.lq_types_infer.proofs.solution.slots.table_of.Goals as goal

pub index-requires-in-loop-slot : goal.index-requires-in-loop-slot
index-requires-in-loop-slot c =
    let here : c.loop-slot.slot < count_of c.args.system.now = let s = c.requires.slots in let t = c.loop-slot-test.true in omega arith in
    parent_in c.args.system.now c.args.solution.now c.loop-slot.slot c.index.result.now
    (vec_len c.in_ok-classes.classes.rows) c.in_ok-classes.classes.rows.items
    c.requires.order here c.index.ensures c.in_ok-classes.classes.rows.ok.0 c.in_ok-classes.ensures.long

pub loop-slot-preserved : goal.loop-slot-preserved
loop-slot-preserved c =
    let here : c.loop-slot.slot < count_of c.args.system.now = let s = c.requires.slots in let t = c.loop-slot-test.true in omega arith in
    slot_more c.args.system.now c.args.solution.now
    (types_of c.in_ok-classes.classes.types) c.loop-slot.rows.items c.in_ok-classes.classes.rows.items c.push.new.self.items c.loop-slot.slot
    c.index.result.now c.index-in-loop-slot.result.now c.requires.order here c.in_ok-classes.ensures.long c.in_ok-classes.ensures.placed
    c.index.ensures c.index-in-loop-slot.ensures
    c.in_ok-push.ensures.items c.loop-slot.invariant
