use Rattle.std.specs.Prelude.{reverse, All}
use Rattle.std.proofs.Common.{◌≡◌, ◌<◌, length}
use Rattle.lq_types_table.specs.Nodes.{at}
use Rattle.lq_types_table.specs.Whole.{types_of}
use Rattle.lq_types_rules.specs.Typings.Principal.{variables_of}
use Rattle.lq_types_infer.specs.Annotation.Numbering.{numbers_of, with_numbers, coming, work}
use Rattle.lq_types_infer.proofs.annotation.numbering.Naming.name_type.Given as goal

abbrev pub invariant-loop-next : goal.invariant-loop-next
invariant-loop-next l = record {
  goes : with_numbers (numbers_of l.self) (coming (types_of l.table) l.pending.items) ≡ with_numbers (numbers_of l.fn.self)
      (variables_of (at (types_of l.table) l.row));
  inside : All (λ p. p < length (types_of l.table)) (reverse l.pending.items);
  long : length l.self.names.items ≡ length l.fn.self.names.items;
  done : l.self.done ≡ l.fn.self.done;
}

abbrev pub decreases-loop-next : goal.decreases-loop-next
decreases-loop-next l = work (types_of l.table) l.pending.items
