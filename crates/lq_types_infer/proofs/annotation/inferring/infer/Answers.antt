use Rattle.std.proofs.Common.{arith, ◌+◌}
use Rattle.lq_text_walk.specs.Scoped.Whole.{scoped_view}
use Rattle.lq_types_table.specs.Whole.{types_of}
use Rattle.lq_types_rules.specs.Equations.Solved.{types_in}
use Rattle.lq_types_infer.proofs.AnnotationLemmas.Answered.{seen_in_table}
use Rattle.lq_types_infer.proofs.annotation.inferring.infer.Goals as goal

pub from_solution-requires-clause-seen : goal.from_solution-requires-clause-seen
from_solution-requires-clause-seen c =
    let found = c.in_ok-inferred.inferred in
    seen_in_table (scoped_view c.args.program) (types_of c.in_ok-solved.solved.types) c.in_ok-solved.solved.rows.items
    (c.in_ok-nodes.nodes + c.binders.result) (types_in found.system found.solution) (omega (arith, c.in_ok-nodes.ensures, c.binders.ensures))
    c.in_ok-solved.ensures found.system c.in_ok-inferred.ensures.solved
