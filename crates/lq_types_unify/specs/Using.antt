-- What a copy of a definition's type is to the type, whatever is known later.
use Rattle.std.specs.Prelude.{◌≡◌, ℕ, ◌<◌, ◌≤◌, Bool, false, not, List, Option, Some, All, slice_index_or}
use Rattle.lq_types_unify.specs.declared.arena.Equation.{Equation}
use Rattle.lq_types_unify.specs.Simple.{Simple, variable, replaced}
use Rattle.lq_types_unify.specs.Nodes.{Form}
use Rattle.lq_types_unify.specs.Solution.{Fits, IsSolution}
use Rattle.lq_types_unify.specs.Variables.{Each}
use Rattle.lq_types_unify.specs.Classes.{IsDown, IsKnown}
use Rattle.lq_types_unify.specs.Value.{value, IsRanked}
use Rattle.lq_types_unify.specs.Later.{IsPublic, IsCopied}
use Rattle.lq_types_unify.specs.Reaching.{IsFixed}
use Rattle.lq_types_unify.specs.Copying.{IsCopy}

-- a variable that isn't weak is generalised
abbrev pub is_general : List Bool → ℕ → Bool
is_general weak v = not (slice_index_or weak v false)

-- In types of all nodes, also of those that come later, the use has the type that the definition had, with other types for the
-- variables that were generalised.
abbrev pub CopiesAreInstances : Type 0
CopiesAreInstances = (old new : ℕ → Option Form) (count total : ℕ) (parents shapes : List ℕ) (weak : List Bool) (definition used bound : ℕ) (last : ℕ → Simple)
    → IsCopy old new count total parents shapes weak definition used → IsDown parents → IsRanked old parents shapes bound → Fits new last
    → IsCopied (value bound old parents shapes) last (is_general weak) definition used

-- what is copied names no variable that was generalised, but in copies
abbrev pub CopiesArePublic : Type 0
CopiesArePublic = (old new : ℕ → Option Form) (count total : ℕ) (parents shapes : List ℕ) (weak : List Bool) (definition used bound : ℕ)
    → IsCopy old new count total parents shapes weak definition used → IsDown parents
    → ((q : ℕ) (f : Form) → count ≤ q → new q ≡ Some f → All (IsPublic count (is_general weak) (value bound old parents shapes)) f.parts)
    × IsPublic count (is_general weak) (value bound old parents shapes) used

-- types of the nodes with the copy, by which the use has the definition's type with other types for variables
pub record IsUsed (new : ℕ → Option Form) (count : ℕ) (types by : ℕ → Simple) (definition used : ℕ) : Type 0 where
  pub more : ℕ → Simple
  pub fits : Fits new more
  pub same : (i : ℕ) → i < count → more i ≡ types i
  pub used_as : more used ≡ replaced by (types definition)

-- Types of the nodes that there were, by which the equations are met, are types of the copy too, with any other types for variables
-- that stand in no weak class.
abbrev pub TypesExtendToUses : Type 0
TypesExtendToUses = (old new : ℕ → Option Form) (count total : ℕ) (parents shapes : List ℕ) (found equations : List Equation) (weak : List Bool) (definition used : ℕ) (types by : ℕ → Simple)
    → IsCopy old new count total parents shapes weak definition used → IsKnown old count parents shapes found equations → IsSolution old equations types → definition < count
    → ((i : ℕ) (f : Form) → old i ≡ Some f → All (λ p. p < count) f.parts)
    → ((r : ℕ) → IsFixed old shapes weak r → Each (λ v. by v ≡ variable v) (types r)) → IsUsed new count types by definition used
