-- What is said of types and of environments that stand in memory.
use Rattle.std.specs.Prelude.{◌≡◌, ℕ}
use Rattle.lq_refined_rules.specs.Checks.Basis as checks
use Rattle.lq_refined_substitution.specs.Implications.Views.{environment_at}
use Rattle.lq_refined_substitution.specs.declared.implications.list.Implications.{Implications}
use Rattle.lq_refined_types.specs.Types.Context.{Context, hypotheses_of}
use Rattle.lq_refined_subtyping.specs.declared.table.table.RefinedTypes.{RefinedTypes}
use Rattle.lq_generate_operations.specs.Basis.Basis.{scopes_of, Stands}
use Rattle.lq_generate_operations.specs.Basis.Knowing.{Knows}
use Rattle.lq_generate_operations.specs.declared.basis.basis.Basis.{Basis}
use Rattle.lq_generate_operations.specs.declared.basis.names.Names.{Names}

-- whatever basis of the rules stands in memory so, and whatever environment has these types of names
abbrev pub Over : Basis → Names → RefinedTypes → (checks.Basis → Context → Type 0) → Type 0
Over b names types F = (P : checks.Basis) (Γ : Context) → Stands P b types → Knows Γ names b types → F P Γ

-- an environment stands in memory so: its names have these types, and its hypotheses are those of this number
pub record IsContext (Γ : Context) (names : Names) (b : Basis) (types : RefinedTypes) (list : Implications) (env : ℕ) : Type 0 where
  pub knows : Knows Γ names b types
  pub facts : hypotheses_of (scopes_of b) Γ ≡ environment_at list env
