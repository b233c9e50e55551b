-- What is remembered of the first names that are bound.
use Rattle.std.specs.Prelude.{◌≡◌, ℕ, ◌<◌, List, [], ◌∷◌, filter, length, Option, Some, None}
use Rattle.lq_refined_instances.specs.Scopes.{Scope, scope_in}
use Rattle.lq_refined_templates.specs.Points.Annotation.{Annotation, is_text}
use Rattle.lq_refined_templates.specs.Points.Seen.{Seen, names_at, symbols_of}
use Rattle.lq_generate_reading.specs.Visibility.Latest.{changed, if_any, name_number, text_number}
use Rattle.lq_generate_reading.specs.Visibility.Spans.{IsIn}
use Rattle.lq_generate_reading.specs.declared.visibility.level.Level.{Level}

-- Of these names, the last one first, the same are visible at all nodes of the level, with its scope, and these are the visible ones by
-- their texts.
pub record IsLevel (n : Annotation) (all : List Scope) (Δ : List Seen) (latest : ℕ → Option ℕ) (l : Level) : Type 0 where
  pub names : List ℕ
  pub are : (i : ℕ) → IsIn l.span i → names_at n Δ i ≡ names
  pub there : l.scope < length all
  pub is : scope_in all l.scope ≡ symbols_of n names
  pub latest_are : (t : ℕ) → filter (λ y. is_text t (n.text y)) names ≡ if_any (latest t)

-- the last name is the visible one of the text
abbrev pub IsSet : Option ℕ → ℕ → (ℕ → Option ℕ) → Type 0
IsSet None x f = Unit {0}
IsSet (Some t) x f = f t ≡ Some x

-- a level for each name, the last one first; those below a level are right of what was visible before it
abbrev pub AreLevels : Annotation → List Scope → List Level → List Seen → (ℕ → Option ℕ) → Type 0
AreLevels n all [] [] f = (t : ℕ) → f t ≡ None
AreLevels n all (l ∷ ls) (s ∷ Δ) f = IsLevel n all (s ∷ Δ) f l × IsSet (text_number l.text) s.name f
    × AreLevels n all ls Δ (changed (text_number l.text) (name_number l.hides) f)
AreLevels n all [] (s ∷ Δ) f = ⊥
AreLevels n all (l ∷ ls) [] f = ⊥

-- the level of no names
abbrev pub lowest : Level
lowest = record { scope = 0; span = record { from = 0; end = None }; text = None; hides = None }

abbrev pub top_of : List Level → Level
top_of [] = lowest
top_of (l ∷ ls) = l
