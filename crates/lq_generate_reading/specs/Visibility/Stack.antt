-- The names that are bound, as they stand in memory.
use Rattle.std.specs.Prelude.{ℕ, List, [], ◌∷◌, map}
use Rattle.lq_base_names.specs.declared.name.Binder.{Binder}
use Rattle.lq_refined_templates.specs.Points.Seen.{Seen}
use Rattle.lq_generate_reading.specs.declared.visibility.bound.Bound.{Bound}
use Rattle.lq_generate_reading.specs.declared.visibility.bound.Entry.{Entry}

abbrev pub names_view : List Binder → List ℕ
names_view = map (λ x. x.0)

abbrev pub entry_view : Entry → Seen
entry_view e = record { name = e.name.0; until = e.until }

-- these names on top of others, each on those before it
abbrev pub stacked : List Seen → List Entry → List Seen
stacked Δ [] = Δ
stacked Δ (e ∷ es) = stacked (entry_view e ∷ Δ) es

-- the names that are bound, the last one first
abbrev pub seen_view : Bound → List Seen
seen_view b = stacked [] b.entries.items
