use Rattle.std.proofs.Common.{map, take}
use Rattle.lq_refined_subtyping.specs.Contexts.Growing.{HasMore}
use Rattle.lq_refined_substitution.specs.Implications.Growing.{Continues}
use Rattle.lq_refined_substitution.specs.Implications.Views.{environment_lists}
use Rattle.lq_refined_subtyping.specs.Table.Forms.{cell_view, each, matrix_view}
use Rattle.lq_refined_subtyping.specs.Table.Whole.{types_of, Grows}
use Rattle.lq_refined_types.specs.Subtyping.Splitting.{cells}
use Rattle.lq_refined_subtyping.specs.Split.Appending.{Appends}
use Rattle.lq_refined_subtyping.specs.Split.Given.{origin_of, scopes_of, Over}
use Rattle.lq_refined_subtyping.proofs.split.matrices.cells.Given as goal

abbrev pub invariant-loop-entry : goal.invariant-loop-entry
invariant-loop-entry l = record {
  added : Over l.given l.initial.types l.initial.list l.env (λ P Γ. Appends l.initial.list l.list
      (cells P (origin_of l.given) Γ l.left.name.0 (each (types_of (scopes_of l.given) l.initial.types) l.left.arguments.now)
      (matrix_view l.left.matrix.now) (map cell_view (take l.entry-index l.entry-items))));
  environments : HasMore (environment_lists l.initial.list) (environment_lists l.list);
  continues : Continues l.initial.list l.list;
  grows : Grows l.initial.types l.types;
}
