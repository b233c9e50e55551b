-- Names that are taken from the last one on.
use Rattle.std.specs.Prelude.{ℕ, Bool, false, ◌==◌, not, List, [], ◌∷◌, ◌++◌, Option, Some, None, if◌then◌else◌}
use Rattle.std.specs.List.{list_any}
use Rattle.lq_base_names.specs.declared.name.Name.{Name}

-- whether a text is among some
abbrev pub is_among : List Name → ℕ → Bool
is_among ts s = list_any (λ t. s == t.0) ts

-- a name with a text that isn't among these; a made one has none
abbrev pub has_new_text : List Name → Option ℕ → Bool
has_new_text ts None = false
has_new_text ts (Some s) = not (is_among ts s)

-- these texts with one more, unless it is among them
abbrev pub walked_texts : List Name → Option ℕ → List Name
walked_texts ts None = ts
walked_texts ts (Some s) = if is_among ts s then ts else ts ++ record { 0 = s } ∷ []
