use Rattle.std.proofs.Common.{◌≡◌, take}
use Rattle.lq_refined_rules.specs.Checks.Basis as checks
use Rattle.lq_refined_rules.specs.Checks.Pure.{operands_for}
use Rattle.lq_refined_templates.specs.Programs.PureView.{pures_view}
use Rattle.lq_refined_types.specs.Types.Context.{Context}
use Rattle.lq_refined_subtyping.specs.Table.Whole.{Grows}
use Rattle.lq_refined_substitution.specs.Substitution.Views.{subst_view}
use Rattle.lq_generate_operations.specs.Basis.Basis.{Stands}
use Rattle.lq_generate_operations.specs.Basis.Knowing.{Knows}
use Rattle.lq_generate_operations.proofs.basis.atoms.operands_for.Given as goal

abbrev pub invariant-loop-e : goal.invariant-loop-e
invariant-loop-e l = record {
  position : l.position ≡ l.e-index;
  operands : (P : checks.Basis) (Γ : Context) → Stands P l.basis l.initial.types → Knows Γ l.names l.basis l.initial.types
      → subst_view l.by ≡ operands_for P Γ 0 (pures_view (take l.e-index l.es));
  grows : Grows l.initial.types l.types;
}
