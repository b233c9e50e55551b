-- The types that names have in an environment.
use Rattle.std.specs.Prelude.{◌≡◌, ℕ, ◌<◌, List, All, Option, Some, None}
use Rattle.lq_refined_types.specs.Types.Context.{Context, type_in}
use Rattle.lq_refined_types.specs.Types.Operations.{symbol_of}
use Rattle.lq_refined_types.specs.Types.Refined.{Refined, unit_type}
use Rattle.lq_refined_subtyping.specs.Table.Forms.{at}
use Rattle.lq_refined_subtyping.specs.declared.table.table.RefinedTypes.{RefinedTypes}
use Rattle.lq_generate_operations.specs.Basis.Basis.{types_in}
use Rattle.lq_generate_operations.specs.Basis.Names.{bound}
use Rattle.lq_generate_operations.specs.Basis.Undoing.{row_in}
use Rattle.lq_generate_operations.specs.declared.basis.basis.Basis.{Basis}
use Rattle.lq_generate_operations.specs.declared.basis.names.Names.{Names}

-- unit where a name has none
abbrev pub type_by : List Refined → Option ℕ → Refined
type_by all None = unit_type
type_by all (Some r) = at all r

abbrev pub type_named : List Refined → List (ℕ × ℕ) → ℕ → Refined
type_named all ps x = type_by all (row_in ps x)

-- each name has the type that it has in the environment
pub record Knows (Γ : Context) (names : Names) (b : Basis) (types : RefinedTypes) : Type 0 where
  pub are : (x : ℕ) → type_named (types_in b types) (bound names) x ≡ type_in Γ (symbol_of x)

-- the numbers of the types of names are below this one
abbrev pub AreBelow : ℕ → Names → Type 0
AreBelow n names = All (λ p. p.1 < n) (bound names)
