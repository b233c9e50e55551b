-- Binders for the names of patterns.
use Rattle.std.specs.Prelude.{ℕ, suc, ◌+◌, Bool, true, false, List, [], ◌∷◌, length, map, Option, Some}
use Rattle.lq_base_names.specs.declared.place.Place.{Place}
use Rattle.lq_text_tree.specs.Pattern.{Pattern, pattern, PatternForm, any, bind, nothing, tuple_of, build_of, Patterns, no_patterns, more_patterns, bound_in}
use Rattle.lq_text_scope.specs.Known.{Arity, defined}

-- the pattern with the numbers from this one on for its names, from left to right
abbrev mutual
  pub numbered : ℕ → Pattern → Pattern
  numbered n (pattern p f) = pattern p (numbered_form n f)

  pub numbered_form : ℕ → PatternForm → PatternForm
  numbered_form n any = any
  numbered_form n (bind x) = bind n
  numbered_form n nothing = nothing
  numbered_form n (tuple_of ps) = tuple_of (numbered_all n ps)
  numbered_form n (build_of c q ps) = build_of c q (numbered_all n ps)

  pub numbered_all : ℕ → Patterns → Patterns
  numbered_all n no_patterns = no_patterns
  numbered_all n (more_patterns p ps) = more_patterns (numbered n p) (numbered_all (n + length (bound_in p)) ps)

-- names with the numbers from this one on, the last first
abbrev pub bound_from : ℕ → List ℕ → List Arity → List Arity
bound_from n [] vs = vs
bound_from n (x ∷ xs) vs = bound_from (suc n) xs (defined x n ∷ vs)

-- what the binders of these names have for a source name
abbrev pub sources_of : List ℕ → List (Option ℕ)
sources_of = map Some

abbrev pub is_tuple_form : PatternForm → Bool
is_tuple_form (tuple_of ps) = true
is_tuple_form any = false
is_tuple_form (bind x) = false
is_tuple_form nothing = false
is_tuple_form (build_of c q ps) = false

-- whether a pattern is a tuple
abbrev pub is_tuple : Pattern → Bool
is_tuple (pattern p f) = is_tuple_form f

abbrev pub place_of_pattern : Pattern → Place
place_of_pattern (pattern p f) = p
