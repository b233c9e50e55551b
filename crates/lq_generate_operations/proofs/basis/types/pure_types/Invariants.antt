use Rattle.std.proofs.Common.{◌≡◌, ◌<◌, All, take}
use Rattle.lq_refined_rules.specs.Checks.Basis as checks
use Rattle.lq_refined_rules.specs.Checks.Pure.{pure_types}
use Rattle.lq_refined_templates.specs.Programs.PureView.{pures_view}
use Rattle.lq_refined_types.specs.Types.Context.{Context}
use Rattle.lq_refined_subtyping.specs.Table.Forms.{each}
use Rattle.lq_refined_subtyping.specs.Table.Whole.{count_of, Grows}
use Rattle.lq_generate_operations.specs.Basis.Basis.{types_in, Stands}
use Rattle.lq_generate_operations.specs.Basis.Knowing.{Knows}
use Rattle.lq_generate_operations.proofs.basis.types.pure_types.Given as goal

abbrev pub invariant-loop-e : goal.invariant-loop-e
invariant-loop-e l = record {
  refined : (P : checks.Basis) (Γ : Context) → Stands P l.basis l.initial.types → Knows Γ l.names l.basis l.initial.types
      → each (types_in l.basis l.types) l.made.items ≡ pure_types P Γ (pures_view (take l.e-index l.es));
  there : All (λ r. r < count_of l.types) l.made.items;
  grows : Grows l.initial.types l.types;
}
