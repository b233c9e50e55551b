-- Types of a table that are those of nodes.
use Rattle.std.specs.Prelude.{◌≡◌, ℕ, ◌<◌, List, All, length, slice_index_or}
use Rattle.lq_text_tree.specs.MlType.{MlType}
use Rattle.lq_types_unify.specs.declared.solver.Solution.{Solution}
use Rattle.lq_types_unify.specs.Solved.{HasOrder}
use Rattle.lq_types_rules.specs.declared.equations.system.System.{System}
use Rattle.lq_types_rules.specs.Equations.Solutions.{Fits}
use Rattle.lq_types_rules.specs.Equations.Adding.{IsSystem, forms_of}
use Rattle.lq_types_rules.specs.Equations.Solved.{types_in}
use Rattle.lq_types_table.specs.Nodes.{at}

-- Each slot's number is that of a type of the table, which is the type of the slot.
pub record AreTypesOf (all : List MlType) (rows : List ℕ) (slots : ℕ) (types : ℕ → MlType) : Type 0 where
  pub long : length rows ≡ slots
  pub inside : All (λ r. r < length all) rows
  pub same : (i : ℕ) → i < slots → at all (slice_index_or rows i 0) ≡ types i

-- the solution gives types to the nodes, by their forms, and has its classes in order
pub record IsSettled (s : System) (found : Solution) : Type 0 where
  pub system : IsSystem s
  pub order : HasOrder s.arena found
  pub fits : Fits (forms_of s) (types_in s found)

-- the node's number is that of its type
abbrev pub IsPlaced : List MlType → List ℕ → (ℕ → MlType) → ℕ → Type 0
IsPlaced all rows types r = (slice_index_or rows r 0 < length all) × (at all (slice_index_or rows r 0) ≡ types r)
