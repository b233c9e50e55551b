use Rattle.std.proofs.Common.{drop, map}
use Rattle.lq_refined_subtyping.specs.Table.Forms.{matrix_view}
use Rattle.lq_generate_fresh.specs.Fresh.Views.{scope_at, shape_if}
use Rattle.lq_generate_fresh.proofs.FreshLemmas.Loops.{ParametersDone}
use Rattle.lq_generate_fresh.proofs.fresh.templates.Templates.add_parameters.Given as goal

abbrev pub invariant-loop-at : goal.invariant-loop-at
invariant-loop-at l =
    ParametersDone l.initial.self l.self (matrix_view l.initial.matrix) (matrix_view l.matrix) (scope_at l.initial.self l.scope) l.constructor.0
    l.field (map shape_if l.shapes) l.at (drop l.at (map shape_if l.shapes))
