-- The types of slots, by their numbers in a table.
use Rattle.std.specs.Prelude.{◌≡◌, ℕ, ◌<◌, List, All, length, slice_index_or}
use Rattle.lq_text_tree.specs.MlType.{MlType}
use Rattle.lq_types_table.specs.Nodes.{at}

abbrev pub slot_types : List MlType → List ℕ → ℕ → MlType
slot_types all rows i = at all (slice_index_or rows i 0)

-- so many slots have types of the table
pub record AreRows (all : List MlType) (rows : List ℕ) (slots : ℕ) : Type 0 where
  pub long : length rows ≡ slots
  pub inside : All (λ r. r < length all) rows
