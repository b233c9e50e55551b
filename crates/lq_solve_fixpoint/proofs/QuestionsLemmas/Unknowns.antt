-- The goals of the first so many implications.
use Rattle.std.proofs.Common.{◌≡◌, ℕ, zero, suc, ◌+◌, ◌≤◌, length, slice_get, take, arith, List, [], ◌∷◌, ◌++◌, map, Option, Some, None, refl, sym, ap, subst}
use Rattle.std.proofs.lemmas.List.{take_all}
use Rattle.lq_refined_substitution.specs.Implications.Views.{implication_view}
use Rattle.lq_refined_substitution.specs.declared.implications.implication.Implication.{Implication}
use Rattle.lq_refined_types.specs.Parts.Constraint.{Constraint}
use Rattle.lq_refined_types.specs.Parts.Part.{Parts}
use Rattle.lq_refined_types.specs.Subtyping.Implication.{constraint_of}
use Rattle.lq_refined_substitution.specs.Substitution.Views.{part_view}
use Rattle.lq_solve_fixpoint.specs.Weakening.Index.{AreGoals, goal_unknown}

abbrev pub constraint_in : List Parts → Implication → Constraint
constraint_in es i = constraint_of (implication_view es i)

the : {X : Type 0} → X → Option X → X
the a None = a
the a (Some x) = x

some_is : {X : Type 0} (a b : X) → Some a ≡ Some b → a ≡ b
unfolding the
some_is a b h = ap (the a) h

-- one implication more
pub goals_next : (es : List Parts) (is : List Implication) (at : ℕ) (i : Implication) (gs : List (Option ℕ)) → Some i ≡ slice_get is at
    → AreGoals (map (constraint_in es) (take at is)) gs → AreGoals (map (constraint_in es) (take (at + 1) is)) (gs ++ goal_unknown (part_view i.goal) ∷ [])
goals_next es [] at i gs e h = absurd (cc)
goals_next es (x ∷ is) zero i [] e h = (ap (λ y. goal_unknown (part_view y.goal)) (some_is x i (sym e)), tt)
goals_next es (x ∷ is) zero i (g ∷ gs) e h = absurd h
goals_next es (x ∷ is) (suc at) i [] e h = absurd h
goals_next es (x ∷ is) (suc at) i (g ∷ gs) e h =
    subst (λ n. AreGoals (map (constraint_in es) (take n (x ∷ is))) ((g ∷ gs) ++ goal_unknown (part_view i.goal) ∷ [])) next (h.0, goals_next es is at i gs e h.1)
  where
    next : suc (at + 1) ≡ suc at + 1
    next = omega arith

pub map_map : (es : List Parts) (is : List Implication) → map constraint_of (map (implication_view es) is) ≡ map (constraint_in es) is
map_map es [] = refl
map_map es (i ∷ is) = ap (λ l. constraint_in es i ∷ l) (map_map es is)

pub goals_all : (es : List Parts) (is : List Implication) (at : ℕ) (gs : List (Option ℕ)) → length is ≤ at → AreGoals (map (constraint_in es) (take at is)) gs
    → AreGoals (map constraint_of (map (implication_view es) is)) gs
goals_all es is at gs l h =
    subst (λ cs. AreGoals cs gs) (sym (map_map es is)) (subst (λ xs. AreGoals (map (constraint_in es) xs) gs) (take_all at is l) h)
