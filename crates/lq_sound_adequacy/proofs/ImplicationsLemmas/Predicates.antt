-- The predicates of well sorted implications under well sorted instances.
use Rattle.std.proofs.Common.{List, [], ◌∷◌, ◌++◌, map}
use Rattle.lq_refined_types.specs.Parts.Assignment.{Assignment, all_joined, goal_under, joined, part_under}
use Rattle.lq_refined_types.specs.Parts.Part.{Part, known, unknown}
use Rattle.lq_refined_types.specs.Parts.Substitution.{formula_by}
use Rattle.lq_logic_predicates.specs.Formula.{Formula, conjunction}
use Rattle.lq_sound_scope.specs.Sorts.Laws.{PartsAreSorted}
use Rattle.lq_sound_scope.specs.Sorts.Sorts.{AreWellSorted, IsWellSorted, Sorts}
use Rattle.lq_sound_adequacy.specs.Implications.Laws.{PredicatesAreSorted}
use Rattle.lq_sound_adequacy.specs.Implications.Sorted.{sorts_and_value}

joined_sorted : (N : Sorts) (p : Formula) (qs : List Formula) → IsWellSorted N p → AreWellSorted N qs → IsWellSorted N (joined p qs)
joined_sorted N p [] h w = h
joined_sorted N p (q ∷ qs) h w = joined_sorted N (conjunction p q) qs (h, w.0) w.1

all_sorted : (N : Sorts) (ps : List Formula) → AreWellSorted N ps → IsWellSorted N (all_joined ps)
all_sorted N [] h = tt
all_sorted N (p ∷ ps) h = joined_sorted N p ps h.0 h.1

first_of : (N : Sorts) (ps : List Formula) → AreWellSorted N (ps ++ []) → AreWellSorted N ps
first_of N [] h = tt
first_of N (p ∷ ps) h = (h.0, first_of N ps h.1)

goal_sorted : (N : Sorts) (A : Assignment) (q : Part) → AreWellSorted N (part_under A q) → IsWellSorted N (goal_under A q)
goal_sorted N A (known p) h = h.0
goal_sorted N A (unknown u σ) h = all_sorted N (map (formula_by σ) (A u)) h

pub predicates_sorted : PartsAreSorted → PredicatesAreSorted
predicates_sorted parts P unknowns A sorted Γ k i h =
    let N = sorts_and_value Γ k in
    record {
      hypotheses = parts unknowns A sorted N i.hypotheses h.hypotheses;
      left = parts unknowns A sorted N i.left h.left;
      goal = goal_sorted N A i.goal (first_of N (part_under A i.goal) (parts unknowns A sorted N (i.goal ∷ []) (h.goal, tt)));
    }
