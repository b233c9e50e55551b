use Rattle.std.proofs.Common.{◌∙◌, arith}
use Rattle.lq_types_table.specs.Whole.{types_of}
use Rattle.lq_generate_reading.proofs.NotesLemmas.Fronts.{one_more}
use Rattle.lq_generate_reading.proofs.notes.copying.copied.Goals as goal

pub loop-row-preserved : goal.loop-row-preserved
loop-row-preserved c =
    let count = c.len-row-end.ensures.count in
    let low = c.loop-row-test.true in
    c.in_ok-push_node.ensures
    ∙ one_more (types_of c.args.table.now) (types_of c.loop-row.copy) c.loop-row.row c.node-node.result (omega (arith, low, count)) c.loop-row.invariant
    c.node-node.ensures.types c.node-node.ensures.earlier
