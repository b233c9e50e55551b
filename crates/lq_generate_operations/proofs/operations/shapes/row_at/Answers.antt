use Rattle.std.proofs.Common.{sym, ◌∙◌}
use Rattle.lq_refined_subtyping.specs.Table.Whole.{types_of}
use Rattle.lq_refined_subtyping.proofs.SplitLemmas.Rows.{type_at-each, type_at-end}
use Rattle.lq_generate_operations.proofs.operations.shapes.row_at.Goals as goal

pub returns-then-index-rows-clause-refined : goal.returns-then-index-rows-clause-refined
returns-then-index-rows-clause-refined c =
    λ S. sym (type_at-each (types_of S c.args.types.now) c.args.rows.now c.args.index 0 c.if-index-rows.true)

pub returns-in_ok-made-clause-refined : goal.returns-in_ok-made-clause-refined
returns-in_ok-made-clause-refined c =
    λ S. c.in_ok-made.ensures.refined S ∙ sym (type_at-end (types_of S c.args.types.now) c.args.rows.now c.args.index c.if-index-rows.false)
