-- What a step of the walk makes: tables grow, and obligations come behind the others.
use Rattle.std.specs.Prelude.{◌≡◌, ℕ, ◌<◌, List, [], ◌++◌, All, length, map}
use Rattle.lq_generate_implications.specs.Obligations.Views as asked
use Rattle.lq_generate_implications.specs.Obligations.Views.{Stated, all_stated, stated}
use Rattle.lq_refined_rules.specs.Checks.Basis as checks
use Rattle.lq_refined_subtyping.specs.Contexts.Growing.{HasMore}
use Rattle.lq_refined_substitution.specs.Implications.Views.{count_of as implication_count, environment_lists, implications_of}
use Rattle.lq_refined_rules.specs.Obligations.Obligation.{Obligation}
use Rattle.lq_refined_types.specs.Types.Context.{Context}
use Rattle.lq_refined_types.specs.Types.Refined.{Refined}
use Rattle.lq_refined_subtyping.specs.Table.Whole.{count_of, refined_at, Grows}
use Rattle.lq_generate_operations.specs.Basis.Basis.{scopes_of, types_in, IsThere, Stands}
use Rattle.lq_generate_operations.specs.Basis.Knowing.{AreBelow}
use Rattle.lq_generate_operations.specs.Basis.Names.{bound}
use Rattle.lq_generate_operations.specs.declared.basis.basis.Basis.{Basis}
use Rattle.lq_generate_operations.specs.Operations.Over.{IsContext}
use Rattle.lq_generate_implications.specs.declared.walk.walk.Walk.{Walk}

-- what the numbers of a walk name is there
pub record IsSound (b : Basis) (w : Walk) (env : ℕ) : Type 0 where
  pub there : IsThere (count_of w.types) b
  pub names : AreBelow (count_of w.types) w.names
  pub asked : All (asked.IsThere (length (environment_lists w.list)) (count_of w.types)) w.asked.items
  pub inside : env < length (environment_lists w.list)

-- tables only grow, and the names are those that they were
pub record Moves (b : Basis) (old new : Walk) (env : ℕ) : Type 0 where
  pub types : Grows old.types new.types
  pub environments : HasMore (environment_lists old.list) (environment_lists new.list)
  -- the walk makes no implication
  pub implications : implications_of new.list ≡ implications_of old.list
  pub count : implication_count new.list ≡ implication_count old.list
  pub names : bound new.names ≡ bound old.names
  pub sound : IsSound b new env

-- an environment of the rules stands in memory under a number
abbrev pub InContext : checks.Basis → Context → Basis → Walk → ℕ → Type 0
InContext P Γ b w env = Stands P b w.types × IsContext Γ w.names b w.types w.list env

abbrev pub stated_in : Basis → Walk → List Stated
stated_in b w = all_stated (environment_lists w.list) (types_in b w.types) w.asked.items

-- what a list of obligations states came behind what there was
abbrev pub Adds : checks.Basis → Basis → Walk → Walk → List Obligation → Type 0
Adds P b old new os = stated_in b new ≡ stated_in b old ++ map (stated P) os

-- these obligations came, for each basis and environment of the rules that stand in memory so
pub record Asks (b : Basis) (old new : Walk) (env : ℕ) (os : checks.Basis → Context → List Obligation) : Type 0 where
  pub moves : Moves b old new env
  pub added : (P : checks.Basis) (Γ : Context) → InContext P Γ b old env → Adds P b old new (os P Γ)

-- no obligation came, and the type of a number is this one
pub record Finds (b : Basis) (old new : Walk) (env row : ℕ) (t : checks.Basis → Context → Refined) : Type 0 where
  pub moves : Moves b old new env
  pub there : row < count_of new.types
  pub added : (P : checks.Basis) → Adds P b old new []
  pub refined : (P : checks.Basis) (Γ : Context) → InContext P Γ b old env → refined_at (scopes_of b) new.types row ≡ t P Γ
