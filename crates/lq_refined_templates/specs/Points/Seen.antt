-- Which names are visible at a node of the source.
use Rattle.std.specs.Prelude.{ℕ, Bool, true, ltb, not, cond, List, [], ◌∷◌, ◌++◌, filter, Option, Some, None}
use Rattle.lq_refined_instances.specs.Scopes.{Scope}
use Rattle.lq_refined_types.specs.Types.Operations.{symbol_of}
use Rattle.lq_text_qualifiers.specs.Faults.Shapes.{shape_of}
use Rattle.lq_refined_templates.specs.Templates.Scopes.{with_symbol}
use Rattle.lq_refined_templates.specs.Points.Annotation.{Annotation, is_text, is_spoken_of}

-- A name that a block binds. In the normal form what follows in the block may lie outside the `let` of the source that bound it: then the
-- name is visible only at nodes before that let. Nodes are numbered behind their parts, so these are the nodes of the let's body.
pub record Seen : Type 0 where
  pub name : ℕ
  pub until : Option ℕ

-- to the end of its block
abbrev pub seen : ℕ → Seen
seen x = record { name = x; until = None }

-- within the `let` of this node
abbrev pub seen_until : ℕ → ℕ → Seen
seen_until i x = record { name = x; until = Some i }

abbrev pub all_seen : List ℕ → List Seen → List Seen
all_seen [] Δ = Δ
all_seen (x ∷ xs) Δ = all_seen xs (seen x ∷ Δ)

abbrev pub is_before : ℕ → Option ℕ → Bool
is_before i None = true
is_before i (Some l) = ltb i l

-- names of the source without those of this text, and with one of that text behind them
abbrev pub hiding : Annotation → ℕ → Option ℕ → List ℕ → List ℕ
hiding n x None xs = xs
hiding n x (Some s) xs = filter (λ y. not (is_text s (n.text y))) xs ++ x ∷ []

-- The names of the source that are visible at a node, the outermost first; of the names that were bound the last comes first. A name hides
-- earlier ones of its text.
abbrev pub names_at : Annotation → List Seen → ℕ → List ℕ
names_at n [] i = []
names_at n (s ∷ Δ) i = cond (is_before i s.until) (hiding n s.name (n.text s.name) (names_at n Δ i)) (names_at n Δ i)

-- the symbols that names are, where predicates speak of them
abbrev pub symbols_of : Annotation → List ℕ → Scope
symbols_of n [] = []
symbols_of n (x ∷ xs) = cond (is_spoken_of n x) (with_symbol (symbol_of x) (shape_of (n.names x)) []) [] ++ symbols_of n xs

-- of what a template may speak that is made at a node
abbrev pub scope_at : Annotation → List Seen → ℕ → Scope
scope_at n Δ i = symbols_of n (names_at n Δ i)
