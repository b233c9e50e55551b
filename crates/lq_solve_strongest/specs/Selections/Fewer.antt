-- Implications under fewer instances of their unknowns: what there is of literals and terms is there under more.
use Rattle.std.specs.Prelude.{◌≡◌, ◌⊎◌, ℕ, ◌<◌, ◌≤◌, true, List, length, Contains}
use Rattle.lq_prover_proof_tree.specs.Literals.Gathered.{CanBeGathered, sizes_of}
use Rattle.lq_refined_types.specs.Parts.Constraint.{Constraint}
use Rattle.lq_refined_types.specs.Parts.Flowing.{Selection, assigned}
use Rattle.lq_logic_predicates.specs.ClosedImplication.{ClosedImplication, terms_in}
use Rattle.lq_logic_predicates.specs.Comparison.{Comparison}
use Rattle.lq_logic_predicates.specs.Literals.{equal_row, implication_literals}
use Rattle.lq_logic_predicates.specs.Sum.{Sum}
use Rattle.lq_logic_predicates.specs.Table.{has_term}
use Rattle.lq_solve_fixpoint.specs.Questions.Assigned.{closed_under}
use Rattle.lq_solve_fixpoint.specs.Weakening.Judging.{Instances}

-- each instance is chosen
abbrev pub HasAll : Instances → Selection → Type 0
HasAll I c = (u k : ℕ) → k < length (I u) → c u k ≡ true

-- one comparison, or an equation and the one with its sides exchanged
abbrev pub IsAlike : Comparison → Comparison → Type 0
IsAlike c d = (c ≡ d) ⊎ ((a b : Sum) × (c ≡ equal_row a b) × (d ≡ equal_row b a))

abbrev pub HasAlike : List Comparison → Comparison → Type 0
HasAlike cs c = (d : Comparison) × Contains cs d × IsAlike c d

-- Each literal of the one is one of the other, up to the sides of an equation, and each of its terms one of its terms. Both number their
-- terms by their first appearance, so in orders that may differ: two applications may stand the other way round.
pub record AreFewer (i j : ClosedImplication) : Type 0 where
  pub literals : (c : Comparison) → Contains (implication_literals i) c → HasAlike (implication_literals j) c
  pub terms : (t : Sum) → has_term (terms_in i) t ≡ true → has_term (terms_in j) t ≡ true

-- an implication under some of its instances and the one with all in place
abbrev pub SomeAreFewer : Type 0
SomeAreFewer = (I : Instances) (c : Selection) (k : Constraint) → AreFewer (closed_under (assigned I c) k) (closed_under I k)

-- what can be gathered with all instances in place can be gathered with some of them
abbrev pub SomeGather : Type 0
SomeGather = (I : Instances) (c : Selection) (k : Constraint) → CanBeGathered (closed_under I k) → CanBeGathered (closed_under (assigned I c) k)

-- the sizes of the literals' constants, each as often as it comes, sum to no more under some of the instances
abbrev pub SizesAreFewer : Type 0
SizesAreFewer = (I : Instances) (c : Selection) (k : Constraint) → sizes_of (closed_under (assigned I c) k) ≤ sizes_of (closed_under I k)
