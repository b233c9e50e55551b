-- Counts of replacements, as they are told.
use Rattle.std.specs.Prelude.{ℕ, ◌+◌, ◌-◌, ◌^◌, min, List, [], ◌∷◌, length, Option, Some, None, if◌then◌else◌}
use Rattle.lq_text_qualifiers.specs.Faults.Shapes.{Shape, is_same}
use Rattle.lq_text_qualifiers.specs.Sorting.Sorted.{Qualifier}
use Rattle.lq_refined_instances.specs.Scopes.{Visible, Scope, symbols_of, hidden_count}
use Rattle.lq_refined_instances.specs.Instances.{replacements, told}

-- how many symbols of a shape there are
abbrev pub symbol_count : Shape → Scope → ℕ
symbol_count s Γ = told (length (symbols_of Γ s))

-- how many there are after some were hidden and one was added, where there were so many
abbrev pub count_after : Shape → ℕ → Option Visible → Visible → ℕ
count_after s n h v = min ((n - hidden_count s h) + (if is_same s v.1 then 1 else 0)) (2 ^ 64 - 1)

-- how many replacements of placeholders of these shapes there are
abbrev pub replaced_count : List Shape → Scope → ℕ
replaced_count ss Γ = told (length (replacements Γ ss))

-- how many of a qualifier there are over unknowns
abbrev pub count_of : Qualifier → List (Scope × Shape) → ℕ
count_of q [] = 0
count_of q (u ∷ us) = (if is_same u.1 q.shape then length (replacements u.0 q.placeholders) else 0) + count_of q us

-- the item at a number, the first where there is none
abbrev pub or_first : Option ℕ → List ℕ → ℕ
or_first (Some n) ns = n
or_first None [] = 0
or_first None (n ∷ ns) = n
