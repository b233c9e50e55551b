use Rattle.std.proofs.Common.{drop, map}
use Rattle.lq_refined_subtyping.specs.Table.Forms.{matrix_view}
use Rattle.lq_generate_fresh.specs.Fresh.Views.{constructor_view, shape_if}
use Rattle.lq_generate_fresh.proofs.FreshLemmas.Loops.{ConstructorsDone}
use Rattle.lq_generate_fresh.proofs.fresh.templates.Templates.matrix_of.Given as goal

abbrev pub invariant-loop-constructor : goal.invariant-loop-constructor
invariant-loop-constructor l =
    ConstructorsDone l.initial.self l.self (matrix_view l.matrix) l.datatype.0 (map shape_if l.shapes) (map constructor_view l.constructors)
    (drop l.constructor-index (map constructor_view l.constructors))
