-- The instances of qualifiers at a scope and a shape, and how many replacements of placeholders there are.
use Rattle.std.specs.Prelude.{ℕ, ◌+◌, ◌-◌, ◌^◌, min, List, [], ◌∷◌, ◌++◌, map, filter, length, if◌then◌else◌, Bool}
use Rattle.std.specs.List.{flat_map, list_any}
use Rattle.lq_logic_predicates.specs.declared.symbol.Symbol.{Symbol}
use Rattle.lq_logic_predicates.specs.Formula.{Formula}
use Rattle.lq_text_qualifiers.specs.Faults.Shapes.{Shape, is_same}
use Rattle.lq_text_qualifiers.specs.Sorting.Sorted.{Qualifier}
use Rattle.lq_refined_instances.specs.Scopes.{Scope, symbols_of}
use Rattle.lq_refined_instances.specs.Made.{instance_by}
use Rattle.lq_refined_instances.specs.Same.{same_formula}

-- all lists of symbols of these shapes, the first symbol varying slowest
abbrev pub replacements : Scope → List Shape → List (List Symbol)
replacements Γ [] = [] ∷ []
replacements Γ (s ∷ ss) = flat_map (λ x. map (λ xs. x ∷ xs) (replacements Γ ss)) (symbols_of Γ s)

-- the qualifiers of a shape, in the order of the file
abbrev pub of_shape : List Qualifier → Shape → List Qualifier
of_shape qs s = filter (λ q. is_same s q.shape) qs

-- a qualifier's predicate by each of its replacements
abbrev pub made_of : List ℕ → Scope → Qualifier → List Formula
made_of ms Γ q = map (λ xs. instance_by ms xs q.predicate) (replacements Γ q.placeholders)

abbrev pub has_formula : List Formula → Formula → Bool
has_formula ps p = list_any (same_formula p) ps

-- those that are neither among some that were before them nor among one another, each where it stands first
abbrev pub firsts : List Formula → List Formula → List Formula
firsts before [] = []
firsts before (p ∷ ps) = if has_formula before p then firsts before ps else p ∷ firsts (before ++ p ∷ []) ps

abbrev pub first_occurrences : List Formula → List Formula
first_occurrences = firsts []

-- the instances, where measures have these names
abbrev pub instances_of : List ℕ → List Qualifier → Scope → Shape → List Formula
instances_of ms qs Γ s = first_occurrences (flat_map (made_of ms Γ) (of_shape qs s))

-- how many replacements there are, before equal instances are dropped
abbrev pub replacement_count : List Qualifier → Scope → Shape → ℕ
replacement_count qs Γ s = length (flat_map (λ q. replacements Γ q.placeholders) (of_shape qs s))

-- the same over unknowns, each a scope and a shape
abbrev pub total_count : List Qualifier → List (Scope × Shape) → ℕ
total_count qs [] = 0
total_count qs (u ∷ us) = replacement_count qs u.0 u.1 + total_count qs us

-- the instances of each unknown
abbrev pub all_instances_of : List ℕ → List Qualifier → List (Scope × Shape) → List (List Formula)
all_instances_of ms qs us = map (λ u. instances_of ms qs u.0 u.1) us

-- a count as it is told: no more than 64 bits hold
abbrev pub told : ℕ → ℕ
told n = min n (2 ^ 64 - 1)
