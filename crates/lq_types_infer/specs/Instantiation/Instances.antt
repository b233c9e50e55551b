-- The types that instantiate uses, node by node in one row.
use Rattle.std.specs.Prelude.{◌≡◌, ℕ, suc, ◌-◌, ◌<◌, ◌≤◌, List, [], All, length, take, drop, slice_index_or}
use Rattle.lq_text_tree.specs.MlType.{MlType}
use Rattle.lq_types_rules.specs.Typings.Uses.{GeneralUse}
use Rattle.lq_types_infer.specs.Instantiation.Uses.{IsCounted, Instantiates}

-- where those of a node begin
abbrev pub start_of : List ℕ → ℕ → ℕ
start_of starts i = slice_index_or starts i 0

-- those of a node, up to those of the next one
abbrev pub rows_of : List ℕ → List ℕ → ℕ → List ℕ
rows_of rows starts i = take (start_of starts (suc i) - start_of starts i) (drop (start_of starts i) rows)

-- so many nodes have parts of the row, one behind the other up to its end
pub record AreParts (rows starts : List ℕ) (count : ℕ) : Type 0 where
  pub long : length starts ≡ suc count
  pub rising : (i : ℕ) → i < count → start_of starts i ≤ start_of starts (suc i)
  pub inside : (i : ℕ) → i ≤ count → start_of starts i ≤ length rows
  pub last : start_of starts count ≡ length rows

-- a node that is none of the uses has none
abbrev pub AreUnused : List GeneralUse → List ℕ → List ℕ → ℕ → Type 0
AreUnused uses rows starts count = (i : ℕ) → i < count → All (λ u. u.node ≡ i → ⊥) uses → rows_of rows starts i ≡ []

-- a use is among the first so many nodes, and has the types that instantiate it
pub record HasInstance (all : List MlType) (nodes : ℕ) (types : ℕ → MlType) (rows starts : List ℕ) (count : ℕ) (u : GeneralUse)
    : Type 0 where
  pub low : u.node < count
  pub counted : IsCounted nodes types u (rows_of rows starts u.node)
  pub instance : Instantiates all nodes types u (rows_of rows starts u.node)

-- what has been found of the first so many nodes, of which these are uses
pub record AreFound (all : List MlType) (nodes : ℕ) (types : ℕ → MlType) (uses : List GeneralUse) (rows starts : List ℕ) (count : ℕ)
    : Type 0 where
  pub parts : AreParts rows starts count
  pub inside : All (λ r. r < length all) rows
  pub used : All (HasInstance all nodes types rows starts count) uses
  pub unused : AreUnused uses rows starts count
