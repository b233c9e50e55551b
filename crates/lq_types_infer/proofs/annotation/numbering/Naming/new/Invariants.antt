use Rattle.std.specs.Prelude.{slice_index_or}
use Rattle.std.proofs.Common.{◌≡◌, ◌<◌, ℕ, false, None, length}
use Rattle.lq_types_table.specs.Nodes.{at}
use Rattle.lq_types_table.specs.Whole.{types_of}
use Rattle.lq_types_rules.specs.Typings.Uses.{Each}
use Rattle.lq_types_infer.specs.Annotation.Numbering.{number_in}
use Rattle.lq_types_infer.proofs.annotation.numbering.Naming.new.Given as goal

abbrev pub invariant-loop-row : goal.invariant-loop-row
invariant-loop-row l = record {
  none : (v : ℕ) → number_in l.names.items v ≡ None;
  long : length l.done.items ≡ l.row;
  clear : (r : ℕ) → slice_index_or l.done.items r false ≡ false;
  room : (r : ℕ) → r < l.row → Each (λ v. v < length l.names.items) (at (types_of l.table) r);
}
