-- Two types side by side, of which the second is the first with other types for its variables, and what is noted of these.
use Rattle.std.specs.Prelude.{◌≡◌, ℕ, ◌<◌, ◌≤◌, List, All, map, length, slice_index_or}
use Rattle.lq_text_tree.specs.MlType.{MlType}
use Rattle.lq_text_tree.specs.Types.{put}
use Rattle.lq_types_table.specs.Nodes.{at}
use Rattle.lq_types_rules.specs.Typings.Principal.{is_open}
use Rattle.lq_types_rules.specs.Typings.Uses.{Each}
use Rattle.lq_types_infer.specs.declared.instantiation.matching.Matching.{Matching}

-- the one type of the table is the other with these for its variables
abbrev pub Becomes : List MlType → (ℕ → MlType) → ℕ → ℕ → Type 0
Becomes all by definition used = at all used ≡ put by (at all definition)

-- of the variable a type of the table is noted that is what stands for it
abbrev pub IsNoted : List MlType → (ℕ → MlType) → List ℕ → ℕ → Type 0
IsNoted all by found v = at all (slice_index_or found v 0) ≡ by v

-- each variable of the types that were met in this turn is noted
abbrev pub AreMet : List MlType → (ℕ → MlType) → Matching → Type 0
AreMet all by m =
    (d : ℕ) → d < length m.stamps.items → slice_index_or m.stamps.items d 0 ≡ m.turn → Each (IsNoted all by m.found.items) (at all d)

-- the tables are those of the types, and no turn is past this one
pub record IsMatching (all : List MlType) (m : Matching) : Type 0 where
  pub opens : m.with_variables.items ≡ map is_open all
  pub long : length m.stamps.items ≡ length all
  pub past : All (λ s. s ≤ m.turn) m.stamps.items
  pub inside : All (λ r. r < length all) m.found.items

-- the walk goes on in the same turn, with room for as many variables
pub record IsSameTurn (old new : Matching) : Type 0 where
  pub turn : new.turn ≡ old.turn
  pub room : length new.found.items ≡ length old.found.items

-- what has been met stays noted, and what is noted stays right
pub record StaysNoted (all : List MlType) (by : ℕ → MlType) (old new : Matching) : Type 0 where
  pub met : AreMet all by new
  pub kept : (v : ℕ) → IsNoted all by old.found.items v → IsNoted all by new.found.items v

-- the same, and each variable of the type is noted
abbrev pub IsWalked : List MlType → (ℕ → MlType) → Matching → Matching → ℕ → Type 0
IsWalked all by old new d = StaysNoted all by old new × Each (IsNoted all by new.found.items) (at all d)
