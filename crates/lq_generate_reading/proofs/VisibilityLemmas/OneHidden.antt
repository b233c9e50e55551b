-- The symbols of names where one name hides another.
use Rattle.std.proofs.Common.{◌≡◌, ◌∙◌, ℕ, Bool, true, false, ◌==◌, not, cond, List, [], ◌∷◌, ◌++◌, filter, Option, Some, None, refl, sym, ap, ap₂, arith}
use Rattle.std.proofs.lemmas.Bool.{eqb-true}
use Rattle.std.proofs.lemmas.List.{append-nil}
use Rattle.std.proofs.lemmas.List.Elements.{filter-append}
use Rattle.lq_refined_instances.specs.Scopes.{Scope, Visible, is_once, is_single, without}
use Rattle.lq_refined_templates.specs.Points.Annotation.{Annotation, is_other_text, is_spoken_of, is_text}
use Rattle.lq_refined_templates.specs.Points.Seen.{Seen, hiding, is_before, names_at, symbols_of}
use Rattle.lq_logic_predicates.specs.Sum.{same_symbol}
use Rattle.lq_refined_types.specs.Types.Operations.{symbol_of}
use Rattle.lq_text_qualifiers.specs.Faults.Shapes.{Shape, int, bool, array, data_of, other, is_same, shape_of}
use Rattle.lq_refined_templates.specs.Templates.Scopes.{with_symbol}
use Rattle.lq_generate_reading.specs.Visibility.Latest.{if_any, name_shown, of_text, text_shown}
use Rattle.lq_generate_reading.specs.Visibility.Scopes.{symbol_if}
use Rattle.lq_generate_reading.proofs.VisibilityLemmas.Names.{symbols_of-append}

abbrev Each : (ℕ → Type 0) → List ℕ → Type 0
Each P [] = Unit {0}
Each P (x ∷ xs) = P x × Each P xs

left_none : (a b : Scope) → a ++ b ≡ [] → (a ≡ []) × (b ≡ [])
left_none [] b h = (refl, h)
left_none (x ∷ a) b h = absurd (cc)

same_shape : (s : Shape) → is_same s s ≡ true
same_shape int = refl
same_shape bool = refl
same_shape array = refl
same_shape (data_of d) = grind arith
same_shape other = refl

module _ (n : Annotation) where
  -- what is left out is no symbol
  none_hidden : (p : ℕ → Bool) (xs : List ℕ) → symbols_of n (filter p xs) ≡ [] → symbols_of n (filter (λ y. not (p y)) xs) ≡ symbols_of n xs
  none_hidden p [] h = refl
  none_hidden p (x ∷ xs) h = by (none_hidden p xs) (p x) h
    where
      by : (symbols_of n (filter p xs) ≡ [] → symbols_of n (filter (λ y. not (p y)) xs) ≡ symbols_of n xs) → (b : Bool)
          → symbols_of n (cond b (x ∷ filter p xs) (filter p xs)) ≡ []
          → symbols_of n (cond (not b) (x ∷ filter (λ y. not (p y)) xs) (filter (λ y. not (p y)) xs)) ≡ symbol_if n x ++ symbols_of n xs
      by rest true e =
          let t = left_none (symbol_if n x) (symbols_of n (filter p xs)) e in rest t.1 ∙ ap (λ l. l ++ symbols_of n xs) (sym t.0)
      by rest false e = ap (λ l. symbol_if n x ++ l) (rest e)

  -- the symbols that pass a test are those of the names that pass another one
  both_tests : (r : Visible → Bool) (q : ℕ → Bool) (xs : List ℕ) → Each (λ z. (s : Shape) → r (symbol_of z, s) ≡ q z) xs
      → filter r (symbols_of n xs) ≡ symbols_of n (filter q xs)
  both_tests r q [] h = refl
  both_tests r q (x ∷ xs) h =
      filter-append r (symbol_if n x) (symbols_of n xs)
      ∙ (ap₂ (λ a b. a ++ b) (one (is_spoken_of n x) (shape_of (n.names x)) h.0) (both_tests r q xs h.1) ∙ kept (q x))
    where
      pass : (e : Visible) (b : Bool) → r e ≡ b → filter r (e ∷ []) ≡ cond b (e ∷ []) []
      pass e b k = ap (λ c. cond c (e ∷ []) []) k

      nothing : (b : Bool) (l : Scope) → l ≡ [] → [] ≡ cond b l []
      nothing true l k = sym k
      nothing false l k = refl

      one : (b : Bool) (s : Shape) → ((s : Shape) → r (symbol_of x, s) ≡ q x)
          → filter r (cond b (with_symbol (symbol_of x) s []) []) ≡ cond (q x) (cond b (with_symbol (symbol_of x) s []) []) []
      one false s k = nothing (q x) [] refl
      one true int k = pass (symbol_of x, int) (q x) (k int)
      one true bool k = pass (symbol_of x, bool) (q x) (k bool)
      one true array k = pass (symbol_of x, array) (q x) (k array)
      one true (data_of d) k = pass (symbol_of x, data_of d) (q x) (k (data_of d))
      one true other k = nothing (q x) [] refl

      kept : (b : Bool) → cond b (symbol_if n x) [] ++ symbols_of n (filter q xs) ≡ symbols_of n (cond b (x ∷ filter q xs) (filter q xs))
      kept true = refl
      kept false = refl

  module _ (p : ℕ → Bool) (y : ℕ) where
    others : (x : ℕ) → p y ≡ true → p x ≡ false → p x ≡ (y == x)
    others x py px = px ∙ sym (by (y == x) refl)
      where
        by : (b : Bool) → (y == x) ≡ b → b ≡ false
        by true e = let k : true ≡ false = sym py ∙ (ap p (eqb-true y x e) ∙ px) in k
        by false e = refl

    no_one : p y ≡ true → (xs : List ℕ) → filter p xs ≡ [] → Each (λ z. p z ≡ (y == z)) xs
    no_one py [] h = tt
    no_one py (x ∷ xs) h = by (no_one py xs) (p x) refl h
      where
        by : (filter p xs ≡ [] → Each (λ z. p z ≡ (y == z)) xs) → (b : Bool) → p x ≡ b → cond b (x ∷ filter p xs) (filter p xs) ≡ []
            → (p x ≡ (y == x)) × Each (λ z. p z ≡ (y == z)) xs
        by rest true e k = absurd (cc)
        by rest false e k = (others x py e, rest k)

    only_one : p y ≡ true → (xs : List ℕ) → filter p xs ≡ y ∷ [] → Each (λ z. p z ≡ (y == z)) xs
    only_one py [] h = absurd (cc)
    only_one py (x ∷ xs) h = by (only_one py xs) (p x) refl h
      where
        by : (filter p xs ≡ y ∷ [] → Each (λ z. p z ≡ (y == z)) xs) → (b : Bool) → p x ≡ b → cond b (x ∷ filter p xs) (filter p xs) ≡ y ∷ []
            → (p x ≡ (y == x)) × Each (λ z. p z ≡ (y == z)) xs
        by rest true e k =
            let f : x ≡ y = cc in
            let self : (y == y) ≡ true = grind arith in
            (e ∙ sym (ap (λ z. y == z) f ∙ self), no_one py xs (cc))
        by rest false e k = (others x py e, rest k)

    passes : (xs : List ℕ) → filter p xs ≡ y ∷ [] → p y ≡ true
    passes [] h = absurd (cc)
    passes (x ∷ xs) h = by (passes xs) (p x) refl h
      where
        by : (filter p xs ≡ y ∷ [] → p y ≡ true) → (b : Bool) → p x ≡ b → cond b (x ∷ filter p xs) (filter p xs) ≡ y ∷ [] → p y ≡ true
        by rest true e k = let f : x ≡ y = cc in ap p (sym f) ∙ e
        by rest false e k = rest k

    -- the symbol of the one name that is left out
    symbol_is : (v : Visible) → symbols_of n (y ∷ []) ≡ v ∷ [] → v.0 ≡ symbol_of y
    symbol_is v h = by (is_spoken_of n y) (shape_of (n.names y)) h
      where
        by : (b : Bool) (s : Shape) → cond b (with_symbol (symbol_of y) s []) [] ++ [] ≡ v ∷ [] → v.0 ≡ symbol_of y
        by false s k = absurd (cc)
        by true int k = cc
        by true bool k = cc
        by true array k = cc
        by true (data_of d) k = cc
        by true other k = absurd (cc)

    one_hidden : (xs : List ℕ) (v : Visible) → filter p xs ≡ y ∷ [] → symbols_of n (y ∷ []) ≡ v ∷ []
        → without (Some v) (symbols_of n xs) ≡ symbols_of n (filter (λ z. not (p z)) xs)
    one_hidden xs v h k =
        ap (λ x. filter (λ e. not (same_symbol x e.0)) (symbols_of n xs)) (symbol_is v k)
        ∙ both_tests (λ e. not (same_symbol (symbol_of y) e.0)) (λ z. not (p z)) xs (negated xs (only_one (passes xs h) xs h))
      where
        negated : (xs : List ℕ) → Each (λ z. p z ≡ (y == z)) xs → Each (λ z. (s : Shape) → not (y == z) ≡ not (p z)) xs
        negated [] h = tt
        negated (x ∷ xs) h = (λ s. ap not (sym h.0), negated xs h.1)

    one_once : (xs : List ℕ) (v : Visible) → filter p xs ≡ y ∷ [] → symbols_of n (y ∷ []) ≡ v ∷ [] → is_once v (symbols_of n xs) ≡ true
    one_once xs v h k =
        ap (is_single v)
        (ap (λ x. filter (λ e. same_symbol x e.0) (symbols_of n xs)) (symbol_is v k)
        ∙ (both_tests (λ e. same_symbol (symbol_of y) e.0) p xs (turned xs (only_one (passes xs h) xs h)) ∙ (ap (symbols_of n) h ∙ k)))
        ∙ same_shape v.1
      where
        turned : (xs : List ℕ) → Each (λ z. p z ≡ (y == z)) xs → Each (λ z. (s : Shape) → (y == z) ≡ p z) xs
        turned [] h = tt
        turned (x ∷ xs) h = (λ s. sym h.0, turned xs h.1)

  -- one name more, where these are the visible names of the texts
  module _ (i : ℕ) (s : Seen) (Δ : List Seen) (f : ℕ → Option ℕ) (latest : (t : ℕ) → filter (λ y. is_text t (n.text y)) (names_at n Δ i) ≡ if_any (f t)) where
    abbrev xs : List ℕ
    xs = names_at n Δ i

    -- hidden is no symbol
    pub next_with_none : symbols_of n (if_any (of_text f (text_shown n i s))) ≡ []
        → symbols_of n (names_at n (s ∷ Δ) i) ≡ symbols_of n xs ++ symbols_of n (if_any (name_shown i s))
    next_with_none h = by (is_before i s.until) (n.text s.name) refl h
      where
        by : (b : Bool) (o : Option ℕ) → n.text s.name ≡ o → symbols_of n (if_any (of_text f (cond b o None))) ≡ []
            → symbols_of n (cond b (hiding n s.name o xs) xs) ≡ symbols_of n xs ++ symbols_of n (if_any (cond b (Some s.name) None))
        by false o e k = sym (append-nil (symbols_of n xs))
        by true None e k =
            sym (ap (λ a. symbols_of n xs ++ (cond (is_other_text n.value a) (with_symbol (symbol_of s.name) (shape_of (n.names s.name)) []) [] ++ [])) e
            ∙ append-nil (symbols_of n xs))
        by true (Some t) e k =
            symbols_of-append n (filter (λ y. not (is_text t (n.text y))) xs) (s.name ∷ [])
            ∙ ap (λ l. l ++ symbols_of n (s.name ∷ []))
            (none_hidden (λ y. is_text t (n.text y)) xs (ap (symbols_of n) (latest t) ∙ k))

    -- hidden is a symbol
    module _ (v : Visible) (h : symbols_of n (if_any (of_text f (text_shown n i s))) ≡ v ∷ []) where
      pub next_with_one : symbols_of n (names_at n (s ∷ Δ) i) ≡ without (Some v) (symbols_of n xs) ++ symbols_of n (if_any (name_shown i s))
      next_with_one = by (is_before i s.until) (n.text s.name) h
        where
          hidden : (t : ℕ) (o : Option ℕ) → f t ≡ o → symbols_of n (if_any o) ≡ v ∷ []
              → symbols_of n (filter (λ y. not (is_text t (n.text y))) xs) ≡ without (Some v) (symbols_of n xs)
          hidden t None e k = absurd (cc)
          hidden t (Some y) e k = sym (one_hidden (λ y. is_text t (n.text y)) y xs v (latest t ∙ ap if_any e) k)

          by : (b : Bool) (o : Option ℕ) → symbols_of n (if_any (of_text f (cond b o None))) ≡ v ∷ []
              → symbols_of n (cond b (hiding n s.name o xs) xs) ≡ without (Some v) (symbols_of n xs) ++ symbols_of n (if_any (cond b (Some s.name) None))
          by false o k = absurd (cc)
          by true None k = absurd (cc)
          by true (Some t) k =
              symbols_of-append n (filter (λ y. not (is_text t (n.text y))) xs) (s.name ∷ [])
              ∙ ap (λ l. l ++ symbols_of n (s.name ∷ [])) (hidden t (f t) refl k)

      pub next_once : is_once v (symbols_of n xs) ≡ true
      next_once = by (is_before i s.until) (n.text s.name) h
        where
          hidden : (t : ℕ) (o : Option ℕ) → f t ≡ o → symbols_of n (if_any o) ≡ v ∷ [] → is_once v (symbols_of n xs) ≡ true
          hidden t None e k = absurd (cc)
          hidden t (Some y) e k = one_once (λ y. is_text t (n.text y)) y xs v (latest t ∙ ap if_any e) k

          by : (b : Bool) (o : Option ℕ) → symbols_of n (if_any (of_text f (cond b o None))) ≡ v ∷ [] → is_once v (symbols_of n xs) ≡ true
          by false o k = absurd (cc)
          by true None k = absurd (cc)
          by true (Some t) k = hidden t (f t) refl k
