-- What parts are under an assignment of instances to unknowns.
use Rattle.std.specs.Prelude.{ℕ, List, [], ◌∷◌, ◌++◌, map}
use Rattle.lq_logic_predicates.specs.ClosedImplication.{IsValid}
use Rattle.lq_logic_predicates.specs.Formula.{Formula, truth, conjunction}
use Rattle.lq_refined_types.specs.Parts.Names.{AreOver}
use Rattle.lq_refined_types.specs.Parts.Part.{Part, known, unknown, Parts, Scopes}
use Rattle.lq_refined_types.specs.Parts.Substitution.{formula_by}

-- for each unknown the instances that it stands for
abbrev pub Assignment : Type 0
Assignment = ℕ → List Formula

-- the instances of each unknown speak of names of its scope alone
abbrev pub IsScoped : Scopes → Assignment → Type 0
IsScoped scopes A = (u : ℕ) → AreOver (scopes u) (A u)

-- as a hypothesis: one for each instance
abbrev pub part_under : Assignment → Part → List Formula
part_under A (known p) = p ∷ []
part_under A (unknown u σ) = map (formula_by σ) (A u)

abbrev pub parts_under : Assignment → Parts → List Formula
parts_under A [] = []
parts_under A (q ∷ qs) = part_under A q ++ parts_under A qs

-- the conjunction of a list, nested to the left
abbrev pub joined : Formula → List Formula → Formula
joined p [] = p
joined p (q ∷ qs) = joined (conjunction p q) qs

abbrev pub all_joined : List Formula → Formula
all_joined [] = truth
all_joined (p ∷ ps) = joined p ps

-- as a goal: the conjunction of its instances
abbrev pub goal_under : Assignment → Part → Formula
goal_under A (known p) = p
goal_under A (unknown u σ) = all_joined (map (formula_by σ) (A u))

-- the hypotheses imply the goal under the assignment
abbrev pub Implied : Assignment → Parts → Part → Type 0
Implied A ps q = IsValid record { hypotheses = parts_under A ps; goal = goal_under A q }
