-- The hypotheses of environments that name their parents.
use Rattle.std.specs.Prelude.{◌≡◌, ℕ, zero, suc, ◌≤◌, List, [], ◌∷◌, ◌++◌, slice_get, Some}
use Rattle.lq_refined_substitution.specs.declared.environments.environments.Environment.{Environment}

abbrev pub at : List (List ℕ) → ℕ → List ℕ
at [] i = []
at (x ∷ xs) zero = x
at (x ∷ xs) (suc i) = at xs i

-- each entry adds the hypotheses of its parent and its own: a fold from the left, so that no recursion goes up the
-- parents and a further entry changes nothing before it
abbrev pub grown : List (List ℕ) → List Environment → List (List ℕ)
grown all [] = all
grown all (e ∷ es) = grown (all ++ (at all e.parent ++ e.part ∷ []) ∷ []) es

-- each entry's parent is an earlier environment
abbrev pub AreBelow : List Environment → Type 0
AreBelow es = (k : ℕ) (e : Environment) → slice_get es k ≡ Some e → e.parent ≤ k
