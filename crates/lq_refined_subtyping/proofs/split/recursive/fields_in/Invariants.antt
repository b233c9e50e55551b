use Rattle.std.proofs.Common.{◌≡◌, map, take}
use Rattle.lq_refined_subtyping.specs.Table.Whole.{types_of, Grows}
use Rattle.lq_refined_substitution.specs.Substitution.Views.{scopes_view}
use Rattle.lq_refined_subtyping.proofs.SplitLemmas.Again.{field_at}
use Rattle.lq_refined_subtyping.proofs.split.recursive.fields_in.Given as goal

abbrev pub invariant-loop-row : goal.invariant-loop-row
invariant-loop-row l = record {
  made : l.made.items ≡ map (field_at (types_of (scopes_view l.scopes) l.initial.types) l.datatype.0 l.count) (take l.row-index l.rows);
  grows : Grows l.initial.types l.types;
}
