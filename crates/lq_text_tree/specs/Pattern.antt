-- What a pattern is, without the memory that holds it. A variable is its number.
use Rattle.std.specs.Prelude.{ℕ, List, [], ◌∷◌, ◌++◌}
use Rattle.lq_base_names.specs.declared.place.Place.{Place}

mutual
  pub data Pattern : Type 0 where
    pattern : Place → PatternForm → Pattern

  pub data PatternForm : Type 0 where
    any : PatternForm
    bind : ℕ → PatternForm
    nothing : PatternForm
    tuple_of : Patterns → PatternForm
    build_of : ℕ → Place → Patterns → PatternForm

  pub data Patterns : Type 0 where
    no_patterns : Patterns
    more_patterns : Pattern → Patterns → Patterns

-- the variables that a pattern binds, from left to right
abbrev mutual
  pub bound_in : Pattern → List ℕ
  bound_in (pattern p f) = bound_in_form f

  pub bound_in_form : PatternForm → List ℕ
  bound_in_form any = []
  bound_in_form (bind x) = x ∷ []
  bound_in_form nothing = []
  bound_in_form (tuple_of ps) = bound_in_all ps
  bound_in_form (build_of c p ps) = bound_in_all ps

  pub bound_in_all : Patterns → List ℕ
  bound_in_all no_patterns = []
  bound_in_all (more_patterns p ps) = bound_in p ++ bound_in_all ps
