use Rattle.lq_types_table.specs.Whole.{types_of}
use Rattle.lq_types_infer.proofs.AnnotationLemmas.Naming.{pop_inside}
use Rattle.lq_types_infer.proofs.annotation.numbering.Naming.name_type.Goals as goal

pub enter-requires-clause-inside : goal.enter-requires-clause-inside
enter-requires-clause-inside c =
    pop_inside (types_of c.args.table.now) c.loop-next.pending.items c.pop.new.self.items c.in-Some.next c.in-Some.ensures.items
    c.loop-next.invariant.inside
