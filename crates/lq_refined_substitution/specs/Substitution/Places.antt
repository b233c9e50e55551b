-- Where the symbols of unknowns stand, in scopes by their numbers. Some unknowns are given alone; between them are copies of patterns.
use Rattle.std.specs.Prelude.{◌≡◌, ℕ, suc, ◌+◌, ◌-◌, ◌<◌, ◌≤◌, List, [], ◌∷◌, ◌++◌, All, Option, Some, None, drop, length, ltb, map, option_map, slice_get, slice_index_or, slice_range, if◌then◌else◌}
use Rattle.std.proofs.Props.{props}
use Rattle.lq_refined_substitution.specs.declared.substitution.places.Copies.{Copies}
use Rattle.lq_refined_substitution.specs.declared.substitution.places.Inner.{Inner}
use Rattle.lq_refined_substitution.specs.declared.substitution.places.Place.{Place}
use Rattle.lq_refined_substitution.specs.declared.substitution.places.Place.TheVariants.{Alone, Behind}

-- an unknown of a pattern, where the pattern is used at this scope
abbrev pub inner_place : ℕ → Inner → Place
inner_place s inner = if inner.is_behind then Behind s inner.scope else Alone inner.scope

-- a pattern by its number; past the last one it has no unknowns
abbrev pub pattern_at : List (List Inner) → ℕ → List Inner
pattern_at patterns i = slice_index_or patterns i []

-- a copy of each unknown of a pattern
abbrev pub copied : List (List Inner) → Copies → List Place
copied patterns c = map (inner_place c.scope) (pattern_at patterns c.pattern)

-- the unknowns given alone but for the first k, and among them the copies, each behind those that were given alone before it
abbrev pub mixed : List (List Inner) → List ℕ → ℕ → List Copies → List Place
mixed patterns alone k [] = map Alone (drop k alone)
mixed patterns alone k (c ∷ cs) = map Alone (slice_range alone k c.before) ++ (copied patterns c ++ mixed patterns alone c.before cs)

-- the copies' patterns are there, and each has the number of its first unknown, where k given alone of m, and n unknowns in all, stand before
abbrev pub ArePlaced : List (List Inner) → ℕ → ℕ → ℕ → List Copies → Type 0
ArePlaced patterns m k n [] = k ≤ m
ArePlaced patterns m k n (c ∷ cs) =
    (k ≤ c.before) × (c.first + k ≡ n + c.before) × (c.pattern < length patterns)
    × ArePlaced patterns m c.before (c.first + length (pattern_at patterns c.pattern)) cs

all-four : {A B C D : Type 0} → IsProp A → IsProp B → IsProp C → IsProp D → IsProp (A × B × C × D)
all-four h k l m u v = λ i. (h u.0 v.0 i, k u.1 v.1 i, l u.2 v.2 i, m u.3 v.3 i)

pub placed-prop : (patterns : List (List Inner)) (m k n : ℕ) (cs : List Copies) → IsProp (ArePlaced patterns m k n cs)
placed-prop patterns m k n [] = Prim.hlevel props
placed-prop patterns m k n (c ∷ cs) =
    all-four (Prim.hlevel props) (Prim.hlevel props) (Prim.hlevel props)
    (placed-prop patterns m c.before (c.first + length (pattern_at patterns c.pattern)) cs)

-- the scopes of a place
abbrev pub scopes_of : Place → List ℕ
scopes_of (Alone s) = s ∷ []
scopes_of (Behind s t) = s ∷ t ∷ []

-- they are of so many scopes
abbrev pub IsThere : ℕ → Place → Type 0
IsThere n p = All (λ s. s < n) (scopes_of p)

-- the scopes of a pattern's unknowns are there
abbrev pub AreInner : ℕ → List Inner → Type 0
AreInner n is = All (λ (i : Inner). i.scope < n) is

-- the place of an unknown by its number from the first of these copies on, where no others begin before it
abbrev pub place_from : List (List Inner) → List ℕ → Copies → ℕ → Option Place
place_from patterns alone c i =
    if ltb i (length (pattern_at patterns c.pattern)) then slice_get (copied patterns c) i
    else option_map Alone (slice_get alone (c.before + (i - length (pattern_at patterns c.pattern))))

-- the last copies that begin at this number or before it, where the numbers rise
abbrev pub IsLast : List Copies → ℕ → Option Copies → Type 0
IsLast cs u None = (c : Copies) → slice_get cs 0 ≡ Some c → u < c.first
IsLast cs u (Some c) = (j : ℕ) × (slice_get cs j ≡ Some c) × (c.first ≤ u) × ((d : Copies) → slice_get cs (suc j) ≡ Some d → u < d.first)
