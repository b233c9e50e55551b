use Rattle.std.proofs.Common.{sym, ap, ◌∙◌}
use Rattle.lq_refined_types.specs.Types.Refined.{kind}
use Rattle.lq_refined_subtyping.specs.Table.Whole.{types_of}
use Rattle.lq_refined_subtyping.proofs.SplitLemmas.Rows.{type_at-each, type_at-end}
use Rattle.lq_generate_operations.proofs.operations.tuples.kind_at.Goals as goal

pub returns-then-index-rows : goal.returns-then-index-rows
returns-then-index-rows c =
    λ S. c.kind.ensures S ∙ ap kind (sym (type_at-each (types_of S c.args.types.now) c.args.rows.now c.args.index 0 c.if-index-rows.true))

pub returns-else-index-rows : goal.returns-else-index-rows
returns-else-index-rows c =
    λ S. ap kind (sym (type_at-end (types_of S c.args.types.now) c.args.rows.now c.args.index c.if-index-rows.false))
