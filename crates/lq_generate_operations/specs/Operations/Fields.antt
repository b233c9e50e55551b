-- The fields of constructors of a datatype in memory.
use Rattle.std.specs.Prelude.{ℕ}
use Rattle.lq_refined_rules.specs.Checks.Basis as checks
use Rattle.lq_refined_types.specs.Parts.Substitution.{Subst}
use Rattle.lq_refined_types.specs.Types.Refined.{Refineds}
use Rattle.lq_refined_types.specs.Types.Unfolding.{unfolded}
use Rattle.lq_refined_subtyping.specs.Table.Forms.{each, matrix_view}
use Rattle.lq_refined_subtyping.specs.declared.table.table.RefinedTypes.{RefinedTypes}
use Rattle.lq_refined_types.specs.Subtyping.Subtype.{fields_of}
use Rattle.lq_generate_operations.specs.Basis.Basis.{scopes_of, types_in}
use Rattle.lq_generate_operations.specs.declared.basis.basis.Basis.{Basis}
use Rattle.lq_generate_operations.specs.declared.operations.shapes.DataType.{DataType}

-- of a constructor whose value has this datatype, with something put for `#1`, `#2`, ..
abbrev pub fields_in : checks.Basis → Basis → RefinedTypes → DataType → ℕ → Subst → Refineds
fields_in P b types d c θ =
    unfolded (scopes_of b) θ d.name.0 (each (types_in b types) d.arguments.items) (matrix_view d.matrix) c (fields_of (P.setting.constructors c))
