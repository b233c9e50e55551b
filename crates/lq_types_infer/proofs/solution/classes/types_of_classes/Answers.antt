use Rattle.std.proofs.Common.{get_or, ◌∙◌, length-set}
use Rattle.lq_types_table.specs.Whole.{types_of}
use Rattle.lq_types_infer.proofs.SolutionLemmas.Ordering.{parts_placed, class_more, all_placed}
use Rattle.lq_types_infer.proofs.solution.classes.types_of_classes.Goals as goal

pub push_class-requires-clause-placed : goal.push_class-requires-clause-placed
push_class-requires-clause-placed c =
    parts_placed c.args.system.now c.args.solution.now
    (types_of c.loop-class.types) c.loop-class.rows.items c.deref.result.now c.deref-class-items.result.now c.loop-class.class-index
    c.requires.order c.deref-class-items.ensures.value c.deref.ensures.value c.loop-class-test.true c.loop-class.invariant.placed

pub loop-class-preserved : goal.loop-class-preserved
loop-class-preserved c = record {
  long = length-set c.loop-class.rows.items (get_or c.deref-class-items.result.now c.loop-class.class-index 0) c.in_ok-rows-2.field-0
      ∙ c.loop-class.invariant.long;
  placed = class_more c.args.system.now c.args.solution.now (types_of c.loop-class.types)
      (types_of c.push_class.new.types) c.loop-class.rows.items c.deref-class-items.result.now c.loop-class.class-index
      c.in_ok-rows-2.field-0 c.requires.order c.deref-class-items.ensures.value c.loop-class.invariant.long c.loop-class-test.true
      c.in_ok-rows-2.ensures.added c.in_ok-rows-2.ensures.number
      c.loop-class.invariant.placed;
}

pub returns-clause-placed : goal.returns-clause-placed
returns-clause-placed c =
    all_placed c.args.system.now c.args.solution.now
    (types_of c.loop-class.types) c.loop-class.rows.items c.deref-class-items.result.now c.loop-class.class-index
    c.requires.order c.deref-class-items.ensures.value c.loop-class-test.false c.loop-class.invariant.placed
