-- What a part of the code stands for.
use Rattle.std.proofs.Common.{◌≡◌, ◌∙◌, ℕ, List, [], ◌∷◌, Some, map, ap, subst}
use Rattle.lq_refined_types.specs.Parts.Assignment.{Assignment, all_joined, goal_under, part_under}
use Rattle.lq_refined_types.specs.Parts.Flowing.{Selection, assigned, picked}
use Rattle.lq_refined_types.specs.Parts.Substitution.{formula_by}
use Rattle.lq_logic_predicates.specs.Formula.{Formula}
use Rattle.lq_logic_predicates.specs.PredView.{formula_of}
use Rattle.lq_logic_predicates.specs.declared.pred.Pred.{Pred}
use Rattle.lq_refined_substitution.specs.Substitution.Views.{part_view, subst_view}
use Rattle.lq_refined_substitution.specs.declared.substitution.parts.Part.{Part}
use Rattle.lq_refined_substitution.specs.declared.substitution.parts.Part.TheVariants as part
use Rattle.lq_refined_substitution.specs.declared.substitution.substs.Subst.{Subst}
use Rattle.lq_solve_facts.specs.Store.Places.{StandsAt}
use Rattle.lq_solve_facts.specs.Store.Reads.{StandUnder}
use Rattle.lq_solve_facts.specs.Store.Store.{Standing}
use Rattle.lq_solve_facts.specs.declared.store.store.PartPlace.{PartPlace}

-- ---- one that is known

pub known_stands : (F : Standing) (I : Assignment) (place : PartPlace) (q : Part) (p : Pred) → q ≡ part.Known p → StandsAt F I place (part_view q) → F place 0 ≡ Some (formula_of p)
known_stands F I place q p e s = (subst (λ (x : Part). StandsAt F I place (part_view x)) e s) 0

pub known_under : (A : Assignment) (q : Part) (p : Pred) → q ≡ part.Known p → part_under A (part_view q) ≡ formula_of p ∷ []
known_under A q p e = ap (λ (x : Part). part_under A (part_view x)) e

pub known_goal : (A : Assignment) (q : Part) (p : Pred) → q ≡ part.Known p → goal_under A (part_view q) ≡ formula_of p
known_goal A q p e = ap (λ (x : Part). goal_under A (part_view x)) e

-- ---- an unknown with these instances

pub unknown_stands : (F : Standing) (I : Assignment) (place : PartPlace) (q : Part) (u : ℕ) (by : Subst) (qs : List Formula) → q ≡ part.Unknown u by → I u ≡ qs → StandsAt F I place (part_view q)
    → StandUnder F place (subst_view by) qs
unknown_stands F I place q u by qs e f s = subst (λ x. StandUnder F place (subst_view by) x) f (subst (λ (x : Part). StandsAt F I place (part_view x)) e s)

pub unknown_under : (I : Assignment) (c : Selection) (q : Part) (u : ℕ) (by : Subst) (qs : List Formula) → q ≡ part.Unknown u by → I u ≡ qs
    → part_under (assigned I c) (part_view q) ≡ map (formula_by (subst_view by)) (picked (c u) 0 qs)
unknown_under I c q u by qs e f = ap (λ (x : Part). part_under (assigned I c) (part_view x)) e ∙ ap (λ x. map (formula_by (subst_view by)) (picked (c u) 0 x)) f

pub unknown_goal : (I : Assignment) (c : Selection) (q : Part) (u : ℕ) (by : Subst) (qs : List Formula) → q ≡ part.Unknown u by → I u ≡ qs
    → goal_under (assigned I c) (part_view q) ≡ all_joined (map (formula_by (subst_view by)) (picked (c u) 0 qs))
unknown_goal I c q u by qs e f = ap (λ (x : Part). goal_under (assigned I c) (part_view x)) e ∙ ap (λ x. all_joined (map (formula_by (subst_view by)) (picked (c u) 0 x))) f
