-- Scopes of which each but the first, which is empty, names an earlier one: what it adds to that one's symbols, and what it hides of them.
use Rattle.std.specs.Prelude.{◌≡◌, ℕ, ◌+◌, ◌<◌, ◌≤◌, Bool, true, false, not, List, [], ◌∷◌, ◌++◌, All, filter, slice_get, slice_index_or, Option, Some, None}
use Rattle.lq_refined_types.specs.Parts.Substitution.{is_in}
use Rattle.lq_logic_predicates.specs.Sum.{same_symbol}
use Rattle.lq_logic_predicates.specs.declared.symbol.Symbol.{Symbol}
use Rattle.lq_logic_predicates.specs.declared.symbol.Symbol.TheVariants.{Value, Bound, Position}
use Rattle.lq_refined_substitution.specs.declared.substitution.tables.Entry.{Entry}

-- symbols without this one
abbrev pub without : Symbol → List Symbol → List Symbol
without h xs = filter (λ y. not (same_symbol h y)) xs

-- what is left where this one is hidden, if any
abbrev pub left : Option Symbol → List Symbol → List Symbol
left None xs = xs
left (Some h) xs = without h xs

-- a scope whose parent has these symbols
abbrev pub shown : Entry → List Symbol → List Symbol
shown e up = left e.hidden up ++ e.symbol ∷ []

-- a scope by its number; past the last one it has no symbols
abbrev pub list_at : List (List Symbol) → ℕ → List Symbol
list_at all i = slice_index_or all i []

-- a fold from the left, so that no recursion goes up the parents and a further scope changes nothing before it
abbrev pub grown : List (List Symbol) → List Entry → List (List Symbol)
grown all [] = all
grown all (e ∷ es) = grown (all ++ shown e (list_at all e.parent) ∷ []) es

-- the parent of each is an earlier scope
abbrev pub AreBelow : List Entry → Type 0
AreBelow es = (k : ℕ) (e : Entry) → slice_get es k ≡ Some e → e.parent ≤ k

-- a number for each symbol: that of a binder, and higher ones for positions
abbrev pub rank : Symbol → ℕ
rank Value = 0
rank (Bound x) = x.0
rank (Position i) = i + 4294967296

-- no symbol has a higher number
abbrev pub IsWithin : ℕ → List Symbol → Type 0
IsWithin n xs = All (λ y. rank y ≤ n) xs

-- each scope keeps a number that is as high as those of its symbols
abbrev pub AreWithin : List Entry → Type 0
AreWithin es = (k : ℕ) (e : Entry) → slice_get es k ≡ Some e → IsWithin e.highest (shown e (list_at (grown ([] ∷ []) es) e.parent))

-- they have the same symbols below this number
abbrev pub AgreeBelow : ℕ → List Symbol → List Symbol → Type 0
AgreeBelow n xs ys = (x : Symbol) → rank x < n → is_in xs x ≡ is_in ys x

-- each scope keeps an earlier scope that has the same symbols below a number that it keeps too
abbrev pub AreJumps : List Entry → Type 0
AreJumps es = (k : ℕ) (e : Entry) → slice_get es k ≡ Some e
    → (e.jump.to ≤ k) × AgreeBelow e.jump.lowest (shown e (list_at (grown ([] ∷ []) es) e.parent)) (list_at (grown ([] ∷ []) es) e.jump.to)

-- each ranks between these
abbrev pub AreBetween : ℕ → ℕ → List Symbol → Type 0
AreBetween low high xs = All (λ x. (low ≤ rank x) × (rank x ≤ high)) xs

-- the symbols of an unknown of a pattern, where the pattern is used at a scope with these symbols: behind them, or alone
abbrev pub inner_list : List Symbol → Bool × List Symbol → List Symbol
inner_list Γ (true, Δ) = Γ ++ Δ
inner_list Γ (false, Δ) = Δ
