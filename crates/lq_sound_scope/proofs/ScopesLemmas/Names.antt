-- The names that are seen at a node are in scope, and so are the symbols of its scope.
use Rattle.std.proofs.Common.{◌≡◌, ◌⊎◌, inl, inr, ℕ, Bool, true, false, cond, not, List, [], ◌∷◌, ◌++◌, filter, Option, Some, None, sym, subst}
use Rattle.lq_sound_values.specs.Inclusion.Symbols.{Symbols}
use Rattle.lq_refined_types.specs.Types.Operations.{symbol_of}
use Rattle.lq_text_qualifiers.specs.Faults.Shapes.{Shape, other, shape_of}
use Rattle.lq_refined_templates.specs.Templates.Scopes as scopes
use Rattle.lq_text_tree.specs.Pattern as p
use Rattle.lq_text_tree.specs.Pattern.{pattern, bound_in}
use Rattle.lq_refined_rules.specs.Checks.Tree.{names_of}
use Rattle.lq_refined_templates.specs.Points.Annotation.{Annotation, is_spoken_of, is_text}
use Rattle.lq_refined_templates.specs.Points.Reading as reading
use Rattle.lq_refined_templates.specs.Points.Seen.{Seen, seen, all_seen, is_before, hiding, names_at, symbols_of, scope_at}
use Rattle.lq_sound_readiness.specs.Reading.Normal.{IsName, is_name, IsArm, arm_any, arm_name, arm_unit, arm_tuple, arm_build}
use Rattle.lq_sound_readiness.specs.Reading.Uses.{IsAmong}
use Rattle.lq_sound_scope.specs.Scopes.InScope.{with_name, with_names}
use Rattle.lq_sound_scope.specs.Scopes.Over.{IsWithin, of_any_sort}
use Rattle.lq_sound_scope.proofs.ScopesLemmas.Symbols.{ScopeIn, in_any, own_one, scope_with, scopes_joined, within_one}

-- names in scope
abbrev pub Holds : List ℕ → Symbols → Type 0
Holds xs N = (x : ℕ) → IsAmong xs x → N (symbol_of x) ≡ true

pub holds_one : (xs : List ℕ) (N : Symbols) (x : ℕ) → Holds xs N → Holds (x ∷ xs) (with_name N x)
holds_one xs N x h y (inl e) = subst (λ z. with_name N x (symbol_of z) ≡ true) e (own_one N (symbol_of x))
holds_one xs N x h y (inr k) = within_one N (symbol_of x) (symbol_of y) (h y k)

pub holds_name : {q : p.Pattern} → IsName q → (xs : List ℕ) (N : Symbols) → Holds xs N → Holds (bound_in q ++ xs) (with_name N (reading.parameter_of q))
holds_name (is_name {x = x}) xs N h = holds_one xs N x h

within_names : (xs : List ℕ) (N : Symbols) → IsWithin N (with_names N xs)
within_names [] N y h = h
within_names (x ∷ xs) N y h = within_names xs (with_name N x) y (within_one N (symbol_of x) y h)

holds_all : (ys xs : List ℕ) (N : Symbols) → Holds xs N → Holds (ys ++ xs) (with_names N ys)
holds_all [] xs N h z k = h z k
holds_all (y ∷ ys) xs N h z (inl e) =
    within_names ys (with_name N y) (symbol_of z) (subst (λ u. with_name N y (symbol_of u) ≡ true) e (own_one N (symbol_of y)))
holds_all (y ∷ ys) xs N h z (inr k) = holds_all ys xs (with_name N y) (λ u v. within_one N (symbol_of y) (symbol_of u) (h u v)) z k

-- a pattern of an arm binds its names
pub holds_arm : {q : p.Pattern} → IsArm q → (xs : List ℕ) (N : Symbols) → Holds xs N → Holds (bound_in q ++ xs) (with_names N (names_of (reading.pattern_of q)))
holds_arm arm_any xs N h = h
holds_arm (arm_name {x = x}) xs N h = holds_one xs N x h
holds_arm arm_unit xs N h = h
holds_arm (arm_tuple {qs = qs} w) xs N h = holds_all (p.bound_in_all qs) xs N h
holds_arm (arm_build {qs = qs} w) xs N h = holds_all (p.bound_in_all qs) xs N h

module _ (n : Annotation) where
  -- a name is in scope, or predicates don't speak of it
  abbrev pub IsCovered : Symbols → ℕ → Type 0
  IsCovered N x = (N (symbol_of x) ≡ true) ⊎ (shape_of (n.names x) ≡ other)

  covered_within : (N M : Symbols) → IsWithin N M → (x : ℕ) → IsCovered N x → IsCovered M x
  covered_within N M w x (inl e) = inl (w (symbol_of x) e)
  covered_within N M w x (inr e) = inr e

  abbrev pub AreCovered : Symbols → List ℕ → Type 0
  AreCovered N [] = Unit {0}
  AreCovered N (x ∷ xs) = IsCovered N x × AreCovered N xs

  abbrev pub SeenIn : Symbols → List Seen → Type 0
  SeenIn N [] = Unit {0}
  SeenIn N (s ∷ Δ) = IsCovered N s.name × SeenIn N Δ

  pub seen_within : (N M : Symbols) → IsWithin N M → (Δ : List Seen) → SeenIn N Δ → SeenIn M Δ
  seen_within N M w [] h = tt
  seen_within N M w (s ∷ Δ) h = (covered_within N M w s.name h.0, seen_within N M w Δ h.1)

  -- with one more name, however long it is seen
  pub seen_one : (N : Symbols) (x : ℕ) (until : Option ℕ) (Δ : List Seen) → SeenIn N Δ → SeenIn (with_name N x) (record { name = x; until = until } ∷ Δ)
  seen_one N x until Δ h = (inl (own_one N (symbol_of x)), seen_within N (with_name N x) (within_one N (symbol_of x)) Δ h)

  pub seen_all : (xs : List ℕ) (N : Symbols) (Δ : List Seen) → SeenIn N Δ → SeenIn (with_names N xs) (all_seen xs Δ)
  seen_all [] N Δ h = h
  seen_all (x ∷ xs) N Δ h = seen_all xs (with_name N x) (seen x ∷ Δ) (seen_one N x None Δ h)

  filtered : (N : Symbols) (f : ℕ → Bool) (xs : List ℕ) → AreCovered N xs → AreCovered N (filter f xs)
  filtered N f [] h = tt
  filtered N f (x ∷ xs) h = by (f x) (filtered N f xs h.1)
    where
      by : (b : Bool) → AreCovered N (filter f xs) → AreCovered N (cond b (x ∷ filter f xs) (filter f xs))
      by true k = (h.0, k)
      by false k = k

  joined : (N : Symbols) (xs ys : List ℕ) → AreCovered N xs → AreCovered N ys → AreCovered N (xs ++ ys)
  joined N [] ys h w = w
  joined N (x ∷ xs) ys h w = (h.0, joined N xs ys h.1 w)

  hiding_covered : (N : Symbols) (x : ℕ) (s : Option ℕ) (xs : List ℕ) → IsCovered N x → AreCovered N xs → AreCovered N (hiding n x s xs)
  hiding_covered N x None xs c h = h
  hiding_covered N x (Some s) xs c h = joined N _ (x ∷ []) (filtered N (λ y. not (is_text s (n.text y))) xs h) (c, tt)

  names_covered : (N : Symbols) (Δ : List Seen) (i : ℕ) → SeenIn N Δ → AreCovered N (names_at n Δ i)
  names_covered N [] i h = tt
  names_covered N (s ∷ Δ) i h = by (is_before i s.until) (names_covered N Δ i h.1)
    where
      by : (b : Bool) → AreCovered N (names_at n Δ i) → AreCovered N (cond b (hiding n s.name (n.text s.name) (names_at n Δ i)) (names_at n Δ i))
      by true k = hiding_covered N s.name (n.text s.name) (names_at n Δ i) h.0 k
      by false k = k

  symbols_covered : (N : Symbols) (xs : List ℕ) → AreCovered N xs → ScopeIn (of_any_sort N) (symbols_of n xs)
  symbols_covered N [] h = tt
  symbols_covered N (x ∷ xs) h = scopes_joined (of_any_sort N) _ (symbols_of n xs) (by (is_spoken_of n x) h.0) (symbols_covered N xs h.1)
    where
      one : (s : Shape) → (N (symbol_of x) ≡ true) ⊎ (s ≡ other) → ScopeIn (of_any_sort N) (scopes.with_symbol (symbol_of x) s [])
      one s (inl e) = scope_with (of_any_sort N) (symbol_of x) s [] tt (in_any N s (symbol_of x) e)
      one s (inr e) = subst (λ (z : Shape). ScopeIn (of_any_sort N) (scopes.with_symbol (symbol_of x) z [])) (sym e) tt

      by : (b : Bool) → IsCovered N x → ScopeIn (of_any_sort N) (cond b (scopes.with_symbol (symbol_of x) (shape_of (n.names x)) []) [])
      by true c = one (shape_of (n.names x)) c
      by false c = tt

  -- the scope of a node
  pub scope_in : (N : Symbols) (Δ : List Seen) (i : ℕ) → SeenIn N Δ → ScopeIn (of_any_sort N) (scope_at n Δ i)
  scope_in N Δ i h = symbols_covered N (names_at n Δ i) (names_covered N Δ i h)
