-- What pure expressions are read as, in a state.
use Rattle.std.specs.Prelude.{ℕ, List}
use Rattle.lq_refined_rules.specs.Checks.Tree as t
use Rattle.lq_refined_templates.specs.Points.Annotation.{Annotation}
use Rattle.lq_refined_templates.specs.Points.Pure.{Read, after, with_two, use_at, variable_of, pure_of, pure_form, pures_of}
use Rattle.lq_refined_templates.specs.Points.Seen.{Seen}
use Rattle.lq_text_tree.specs.Tree.{Tree, Form, Trees}
use Rattle.lq_generate_reading.specs.Visibility.Notes.{annotation_view}
use Rattle.lq_generate_reading.specs.declared.visibility.notes.Notes.{Notes}
use Rattle.lq_generate_reading.specs.Reading.State.{count_of, seen_of}
use Rattle.lq_generate_reading.specs.declared.reading.state.State.{State}

abbrev pub use_read : Notes → State → ℕ → ℕ → Read t.Use
use_read m s i x = use_at (annotation_view m) (seen_of s) (count_of s) i x

abbrev pub variable_read : Notes → State → Tree → Read t.Use
variable_read m s e = variable_of (annotation_view m) (seen_of s) (count_of s) e

abbrev pub pure_read : Notes → State → Tree → Read t.Pure
pure_read m s e = pure_of (annotation_view m) (seen_of s) (count_of s) e

abbrev pub pure_form_read : Notes → State → ℕ → Form → Read t.Pure
pure_form_read m s i f = pure_form (annotation_view m) (seen_of s) (count_of s) i f

abbrev pub pures_read : Notes → State → Trees → Read (List t.Pure)
pures_read m s es = pures_of (annotation_view m) (seen_of s) (count_of s) es

abbrev pub Pair : Type 0
Pair = t.Pure × t.Pure

abbrev pub Triple : Type 0
Triple = t.Pure × t.Pure × t.Pure

-- one pure expression behind another
abbrev pub pair_of : Annotation → ℕ → List Seen → Tree → Tree → Read Pair
pair_of n k Δ a b = let x = pure_of n Δ k a in with_two x (pure_of n Δ (after k x) b) (λ x y. (x, y))

abbrev pub pair_read : Notes → State → Tree → Tree → Read Pair
pair_read m s a b = pair_of (annotation_view m) (count_of s) (seen_of s) a b

-- and a third one
abbrev pub triple_of : Annotation → ℕ → List Seen → Tree → Tree → Tree → Read Triple
triple_of n k Δ a b c = let x = pure_of n Δ k a in with_two x (pair_of n (after k x) Δ b c) (λ x y. (x, y.0, y.1))

abbrev pub triple_read : Notes → State → Tree → Tree → Tree → Read Triple
triple_read m s a b c = triple_of (annotation_view m) (count_of s) (seen_of s) a b c
