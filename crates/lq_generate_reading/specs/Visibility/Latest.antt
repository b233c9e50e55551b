-- The name that is visible of each text.
use Rattle.std.specs.Prelude.{ℕ, ◌==◌, cond, List, [], ◌∷◌, Option, Some, None}
use Rattle.std.specs.Map.{lookup}
use Rattle.std.specs.Option.{option_map}
use Rattle.lq_base_names.specs.declared.name.Binder.{Binder}
use Rattle.lq_base_names.specs.declared.name.Name.{Name}
use Rattle.lq_refined_templates.specs.Points.Annotation.{Annotation}
use Rattle.lq_refined_templates.specs.Points.Seen.{Seen, is_before}

abbrev pub name_number : Option Binder → Option ℕ
name_number = option_map (λ x. x.0)

abbrev pub text_number : Option Name → Option ℕ
text_number = option_map (λ t. t.0)

abbrev pub if_any : Option ℕ → List ℕ
if_any None = []
if_any (Some x) = x ∷ []

abbrev pub name_if : Option (Option Binder) → Option ℕ
name_if None = None
name_if (Some x) = name_number x

-- by their numbers
abbrev pub latest_in : List (Name × Option Binder) → ℕ → Option ℕ
latest_in es t = name_if (lookup (λ s. t == s.0) es)

abbrev pub of_text : (ℕ → Option ℕ) → Option ℕ → Option ℕ
of_text f None = None
of_text f (Some t) = f t

-- with another name of a text
abbrev pub changed : Option ℕ → Option ℕ → (ℕ → Option ℕ) → ℕ → Option ℕ
changed None x f = f
changed (Some t) x f = λ r. cond (t == r) x (f r)

-- a name that is bound and its text, where it is visible at a node
abbrev pub name_shown : ℕ → Seen → Option ℕ
name_shown i s = cond (is_before i s.until) (Some s.name) None

abbrev pub text_shown : Annotation → ℕ → Seen → Option ℕ
text_shown n i s = cond (is_before i s.until) (n.text s.name) None
