use Rattle.std.proofs.Common.{ap, ◌∙◌, ◌+◌, length}
use Rattle.std.specs.Prelude.{slice_index_or, false}
use Rattle.std.proofs.lemmas.List.{length_push}
use Rattle.lq_types_table.specs.Whole.{types_of}
use Rattle.lq_types_infer.proofs.AnnotationLemmas.Room.{clear_push, room_with_row}
use Rattle.lq_types_infer.proofs.annotation.numbering.Naming.new.Goals as goal

pub loop-row-preserved : goal.loop-row-preserved
loop-row-preserved c = record {
  none = λ v. c.in_ok-widen.ensures.same v ∙ c.loop-row.invariant.none v;
  long = ap length c.in_ok-push.ensures.items ∙ length_push c.loop-row.done.items false ∙ ap (λ n. n + 1) c.loop-row.invariant.long;
  clear = λ r.
      ap (λ l. slice_index_or l r false) c.in_ok-push.ensures.items ∙ clear_push c.loop-row.done.items c.loop-row.invariant.clear r;
  room = room_with_row (types_of c.args.table.now) c.loop-row.row c.node.result c.variable_in.result c.count_with.result
      (length c.loop-row.names.items) (length c.widen.new.names.items) c.node.ensures.types c.node.ensures.earlier
      (c.variable_in.ensures (types_of c.args.table.now)) c.count_with.ensures c.in_ok-widen.ensures.long c.in_ok-widen.ensures.longer
      c.loop-row.invariant.room;
}
