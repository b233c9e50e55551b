use Rattle.lq_types_rules.specs.Equations.Solved.{types_in}
use Rattle.lq_types_table.specs.Whole.{types_of}
use Rattle.lq_types_infer.specs.Solution.Slots.{AreTypesOf}
use Rattle.lq_types_infer.proofs.solution.slots.table_of.Given as goal

abbrev pub invariant-loop-slot : goal.invariant-loop-slot
invariant-loop-slot l = AreTypesOf (types_of l.classes.types) l.rows.items l.slot (types_in l.system l.solution)
