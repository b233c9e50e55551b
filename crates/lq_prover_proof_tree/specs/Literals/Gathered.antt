-- Which implications can be gathered, the first predicate that can't, and the sizes of constants.
use Rattle.std.specs.Prelude.{◌≡◌, ◌+◌, ℕ, List, [], ◌∷◌, ◌++◌, All, unsigned_abs}
use Rattle.lq_logic_predicates.specs.Comparison.{Comparison, CanGather, row_constant}
use Rattle.lq_logic_predicates.specs.ClosedImplication.{ClosedImplication}
use Rattle.lq_logic_predicates.specs.Formula.{Formula}
use Rattle.lq_logic_predicates.specs.Literals.{each_literals, implication_literals, literals_of, negative}
use Rattle.lq_prover_proof_tree.specs.Literals.Sources.{Source}

-- each literal of the implication can be gathered
abbrev pub CanBeGathered : ClosedImplication → Type 0
CanBeGathered i = All CanGather (implication_literals i)

-- each literal of the hypotheses and of the negated goal can be gathered, whatever the rows for applications
abbrev pub PredicatesGather : ClosedImplication → Type 0
PredicatesGather i = All CanGather (each_literals i.hypotheses ++ literals_of negative i.goal)

-- each literal of each of these predicates can be gathered
abbrev pub AllGathered : List Source → Type 0
AllGathered ss = All (λ s. All CanGather s.literals) ss

-- The first of these predicates with a literal that can't be gathered.
pub record IsFirstPast (ss : List Source) (p : Formula) : Type 0 where
  pub earlier : List Source
  pub literals : List Comparison
  pub later : List Source
  pub at : ss ≡ earlier ++ (record { formula = p; literals = literals } ∷ later)
  pub gathered : AllGathered earlier
  pub past : All CanGather literals → ⊥

-- the sizes of the constants of the rows, in all
abbrev pub sizes : List Comparison → ℕ
sizes [] = 0
sizes (c ∷ cs) = unsigned_abs (row_constant c) + sizes cs

-- the sizes of the constants of the implication's literals, in all
abbrev pub sizes_of : ClosedImplication → ℕ
sizes_of i = sizes (implication_literals i)
