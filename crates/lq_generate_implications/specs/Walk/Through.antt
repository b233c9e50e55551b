-- What bindings, blocks and items ask for, and the environments behind them.
use Rattle.std.specs.Prelude.{◌≡◌, ℕ, ◌<◌, List, ◌++◌}
use Rattle.lq_refined_rules.specs.Checks.Basis as checks
use Rattle.lq_refined_rules.specs.Checks.Operation.{last_context, last_type}
use Rattle.lq_refined_rules.specs.Checks.Tree as t
use Rattle.lq_refined_rules.specs.Checks.Tree.{last_operation}
use Rattle.lq_refined_subtyping.specs.Contexts.Growing.{HasMore}
use Rattle.lq_refined_substitution.specs.Implications.Views.{count_of as implication_count, environment_lists, implications_of}
use Rattle.lq_refined_rules.specs.Obligations.Obligation.{Obligation}
use Rattle.lq_refined_rules.specs.Obligations.Obligations.{obligations_of, of_block, of_given}
use Rattle.lq_refined_types.specs.Types.Context.{Context}
use Rattle.lq_refined_types.specs.Types.Refined.{Refined}
use Rattle.lq_refined_subtyping.specs.Table.Whole.{count_of, refined_at, Grows}
use Rattle.lq_generate_operations.specs.Basis.Basis.{scopes_of}
use Rattle.lq_generate_operations.specs.Basis.Names.{IsLonger}
use Rattle.lq_generate_operations.specs.declared.basis.basis.Basis.{Basis}
use Rattle.lq_generate_operations.specs.Operations.Over.{IsContext}
use Rattle.lq_generate_implications.specs.Walk.Asking.{Adds, InContext, IsSound}
use Rattle.lq_generate_implications.specs.declared.walk.walk.Walk.{Walk}

-- tables only grow, and names are bound behind those that there were
pub record Opens (b : Basis) (old new : Walk) (env : ℕ) : Type 0 where
  pub types : Grows old.types new.types
  pub environments : HasMore (environment_lists old.list) (environment_lists new.list)
  pub implications : implications_of new.list ≡ implications_of old.list
  pub count : implication_count new.list ≡ implication_count old.list
  pub names : IsLonger old.names new.names
  pub sound : IsSound b new env

-- the environment of the rules, as it stands in memory
abbrev pub StandsAs : Context → Basis → Walk → ℕ → Type 0
StandsAs Γ b w env = IsContext Γ w.names b w.types w.list env

-- names were bound: these obligations came, and what stands behind them is this environment
pub record Enters (b : Basis) (old new : Walk) (from env : ℕ) (within : checks.Basis → Context → Context) (os : checks.Basis → Context → List Obligation) : Type 0 where
  pub opens : Opens b old new env
  pub added : (P : checks.Basis) (Γ : Context) → InContext P Γ b old from → Adds P b old new (os P Γ)
  pub stands : (P : checks.Basis) (Γ : Context) → InContext P Γ b old from → StandsAs (within P Γ) b new env

-- bindings ask for these in one environment, and what is behind them stands in another one, whatever block that is
pub record Binds (P : checks.Basis) (Γ Δ : Context) (bs : t.Block → t.Block) (os : List Obligation) : Type 0 where
  pub against : (b : t.Block) (s : Refined) → of_block P Γ (bs b) s ≡ os ++ of_block P Δ b s
  pub given : (b : t.Block) → of_given P Γ (bs b) ≡ os ++ of_given P Δ b
  pub context : (b : t.Block) → last_context P Γ (bs b) ≡ last_context P Δ b
  pub last : (b : t.Block) → last_operation (bs b) ≡ last_operation b

-- they were gone through from one environment
pub record Bound (P : checks.Basis) (Γ : Context) (b : Basis) (old new : Walk) (env : ℕ) (bs : t.Block → t.Block) : Type 0 where
  pub context : Context
  pub obligations : List Obligation
  pub binds : Binds P Γ context bs obligations
  pub adds : Adds P b old new obligations
  pub stands : StandsAs context b new env

pub record Passes (b : Basis) (old new : Walk) (from env : ℕ) (bs : t.Block → t.Block) : Type 0 where
  pub opens : Opens b old new env
  pub bound : (P : checks.Basis) (Γ : Context) → InContext P Γ b old from → Bound P Γ b old new env bs

-- a block was gone through of which no type is expected: its last environment, and its type
pub record Ended (P : checks.Basis) (Γ : Context) (b : Basis) (old new : Walk) (env row : ℕ) (block : t.Block) : Type 0 where
  pub stands : StandsAs (last_context P Γ block) b new env
  pub refined : refined_at (scopes_of b) new.types row ≡ last_type P Γ block
  pub adds : Adds P b old new (of_given P Γ block)

pub record Ends (b : Basis) (old new : Walk) (from env row : ℕ) (block : t.Block) : Type 0 where
  pub opens : Opens b old new env
  pub there : row < count_of new.types
  pub ended : (P : checks.Basis) (Γ : Context) → InContext P Γ b old from → Ended P Γ b old new env row block

-- items were gone through from one environment
pub record Stepped (P : checks.Basis) (Γ : Context) (b : Basis) (old new : Walk) (env : ℕ) (is : t.Program → t.Program) : Type 0 where
  pub context : Context
  pub obligations : List Obligation
  pub steps : (rest : t.Program) → obligations_of P Γ (is rest) ≡ obligations ++ obligations_of P context rest
  pub adds : Adds P b old new obligations
  pub stands : StandsAs context b new env

pub record Steps (b : Basis) (old new : Walk) (from env : ℕ) (is : t.Program → t.Program) : Type 0 where
  pub opens : Opens b old new env
  pub stepped : (P : checks.Basis) (Γ : Context) → InContext P Γ b old from → Stepped P Γ b old new env is
