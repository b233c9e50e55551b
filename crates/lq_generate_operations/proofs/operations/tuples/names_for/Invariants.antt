use Rattle.std.proofs.Common.{◌≡◌, take}
use Rattle.lq_refined_rules.specs.Checks.Match.{names_for}
use Rattle.lq_refined_types.specs.Parts.Part.{Scopes}
use Rattle.lq_refined_templates.specs.Programs.BlockView.{names_view}
use Rattle.lq_refined_subtyping.specs.Table.Forms.{each}
use Rattle.lq_refined_subtyping.specs.Table.Whole.{types_of}
use Rattle.lq_refined_substitution.specs.Substitution.Views.{subst_view}
use Rattle.lq_generate_operations.proofs.operations.tuples.names_for.Given as goal

abbrev pub invariant-loop-index : goal.invariant-loop-index
invariant-loop-index l = record {
  position : l.position ≡ l.index;
  by : (scopes : Scopes) → subst_view l.by ≡ names_for 0 (names_view (take l.index l.names)) (each (types_of scopes l.types) l.rows);
}
