-- Names that are taken from the last one on.
use Rattle.std.proofs.Common.{◌≡◌, ◌∙◌, ℕ, Bool, true, false, ◌==◌, ◌&&◌, ◌||◌, not, cond, if◌then◌else◌, List, [], ◌∷◌, ◌++◌, filter, map, reverse, Option, Some, None, refl, sym, ap, ap₂, append_assoc, arith}
use Rattle.std.proofs.lemmas.Bool.Decides.{nat_tests}
use Rattle.std.proofs.lemmas.List.{append-nil, map-append, reverse-append}
use Rattle.std.proofs.lemmas.List.Elements.{filter-append}
use Rattle.lq_base_names.specs.declared.name.Name.{Name}
use Rattle.lq_refined_templates.specs.Points.Annotation.{Annotation, is_text}
use Rattle.lq_refined_templates.specs.Points.Seen.{Seen, hiding, is_before, names_at}
use Rattle.lq_generate_reading.specs.Visibility.Walking.{has_new_text, is_among, walked_texts}

pub same_text : (t r : ℕ) → (t == r) ≡ true → t ≡ r
same_text t r h = grind (arith, nat_tests)

pub flip_text : (t r : ℕ) → (t == r) ≡ (r == t)
flip_text t r = grind (arith, nat_tests)

among-push : (ts : List Name) (t : Name) (r : ℕ) → is_among (ts ++ t ∷ []) r ≡ (is_among ts r || (r == t.0))
among-push [] t r = by (r == t.0)
  where
    by : (b : Bool) → (b || false) ≡ (false || b)
    by true = refl
    by false = refl
among-push (x ∷ ts) t r = ap (λ b. (r == x.0) || b) (among-push ts t r) ∙ by (r == x.0) (is_among ts r) (r == t.0)
  where
    by : (a b c : Bool) → (a || (b || c)) ≡ ((a || b) || c)
    by true b c = refl
    by false b c = refl

pub filter-both : (p q : ℕ → Bool) (xs : List ℕ) → filter p (filter q xs) ≡ filter (λ y. q y && p y) xs
filter-both p q [] = refl
filter-both p q (x ∷ xs) = by (filter-both p q xs) (q x)
  where
    by : filter p (filter q xs) ≡ filter (λ y. q y && p y) xs → (a : Bool)
        → filter p (cond a (x ∷ filter q xs) (filter q xs)) ≡ cond (a && p x) (x ∷ filter (λ y. q y && p y) xs) (filter (λ y. q y && p y) xs)
    by rest true = ap (λ l. cond (p x) (x ∷ l) l) rest
    by rest false = rest

pub filter-same : (p q : ℕ → Bool) (xs : List ℕ) → ((y : ℕ) → p y ≡ q y) → filter p xs ≡ filter q xs
filter-same p q [] h = refl
filter-same p q (x ∷ xs) h = ap₂ (λ b l. cond b (x ∷ l) l) (h x) (filter-same p q xs h)

-- each name that is visible has a text
pub names_kept : (n : Annotation) (i : ℕ) (Δ : List Seen) → filter (λ y. has_new_text [] (n.text y)) (names_at n Δ i) ≡ names_at n Δ i
names_kept n i [] = refl
names_kept n i (s ∷ Δ) = cases (names_kept n i Δ) (is_before i s.until) (n.text s.name) refl
  where
    swapped : (a b : Bool) → (a && b) ≡ (b && a)
    swapped true true = refl
    swapped true false = refl
    swapped false true = refl
    swapped false false = refl

    cases : filter (λ y. has_new_text [] (n.text y)) (names_at n Δ i) ≡ names_at n Δ i → (b : Bool) (o : Option ℕ) → n.text s.name ≡ o
        → filter (λ y. has_new_text [] (n.text y)) (cond b (hiding n s.name o (names_at n Δ i)) (names_at n Δ i))
        ≡ cond b (hiding n s.name o (names_at n Δ i)) (names_at n Δ i)
    cases h false o p = h
    cases h true None p = h
    cases h true (Some t) p =
        let q : ℕ → Bool = λ y. not (is_text t (n.text y)) in
        let k : ℕ → Bool = λ y. has_new_text [] (n.text y) in
        let xs = names_at n Δ i in
        filter-append k (filter q xs) (s.name ∷ [])
        ∙ ap₂ (λ l b. l ++ cond b (s.name ∷ []) [])
        (filter-both k q xs
        ∙ (filter-same (λ y. q y && k y) (λ y. k y && q y) xs (λ y. swapped (q y) (k y)) ∙ (sym (filter-both q k xs) ∙ ap (filter q) h)))
        (ap (has_new_text []) p)

module _ (n : Annotation) (i : ℕ) (s : Seen) (Δ : List Seen) (ts : List Name) (ns : List ℕ) where
  abbrev keep : List Name → ℕ → Bool
  keep us y = has_new_text us (n.text y)

  abbrev xs : List ℕ
  xs = names_at n Δ i

  -- what the name hides is hidden already
  old_text : (t : ℕ) → is_among ts t ≡ true → (y : ℕ) → (not (is_text t (n.text y)) && keep ts y) ≡ keep ts y
  old_text t h y = by (n.text y)
    where
      by : (o : Option ℕ) → (not (is_text t o) && has_new_text ts o) ≡ has_new_text ts o
      by None = refl
      by (Some r) = cases (t == r) refl
        where
          cases : (b : Bool) → (t == r) ≡ b → (not (t == r) && not (is_among ts r)) ≡ not (is_among ts r)
          cases true e =
              ap (λ b. not b && not (is_among ts r)) e
              ∙ sym (ap not (ap (is_among ts) (sym (same_text t r e)) ∙ h))
          cases false e = ap (λ b. not b && not (is_among ts r)) e

  -- from here on its text is hidden
  new_text : (t : ℕ) (y : ℕ) → (not (is_text t (n.text y)) && keep ts y) ≡ keep (ts ++ record { 0 = t } ∷ []) y
  new_text t y = by (n.text y)
    where
      both : (a b : Bool) → (not a && not b) ≡ not (b || a)
      both true true = refl
      both true false = refl
      both false true = refl
      both false false = refl

      by : (o : Option ℕ) → (not (is_text t o) && has_new_text ts o) ≡ has_new_text (ts ++ record { 0 = t } ∷ []) o
      by None = cases (true)
        where
          cases : (b : Bool) → (b && false) ≡ false
          cases true = refl
          cases false = refl
      by (Some r) =
          both (t == r) (is_among ts r)
          ∙ ap not (ap (λ b. is_among ts r || b) (flip_text t r) ∙ sym (among-push ts (record { 0 = t }) r))

  -- one name more
  pub walked_next : (us : List Name) (ms : List ℕ)
      → us ≡ (if is_before i s.until && has_new_text ts (n.text s.name) then walked_texts ts (n.text s.name) else ts)
      → ms ≡ (if is_before i s.until && has_new_text ts (n.text s.name) then ns ++ s.name ∷ [] else ns)
      → filter (keep ts) (names_at n (s ∷ Δ) i) ++ reverse ns ≡ filter (keep us) xs ++ reverse ms
  walked_next us ms e f = cases (is_before i s.until) (n.text s.name) refl us ms e f
    where
      x : ℕ
      x = s.name

      kept : (t : ℕ) → filter (keep ts) (filter (λ y. not (is_text t (n.text y))) xs) ≡ filter (λ y. not (is_text t (n.text y)) && keep ts y) xs
      kept t = filter-both (keep ts) (λ y. not (is_text t (n.text y))) xs

      cases : (b : Bool) (o : Option ℕ) → n.text x ≡ o → (us : List Name) (ms : List ℕ)
          → us ≡ (if b && has_new_text ts o then walked_texts ts o else ts) → ms ≡ (if b && has_new_text ts o then ns ++ x ∷ [] else ns)
          → filter (keep ts) (cond b (hiding n x o xs) xs) ++ reverse ns ≡ filter (keep us) xs ++ reverse ms
      cases false o p us ms e f = sym (ap₂ (λ u m. filter (keep u) xs ++ reverse m) e f)
      cases true None p us ms e f = sym (ap₂ (λ u m. filter (keep u) xs ++ reverse m) e f)
      cases true (Some t) p us ms e f = by (is_among ts t) refl
        where
          by : (c : Bool) → is_among ts t ≡ c
              → filter (keep ts) (filter (λ y. not (is_text t (n.text y))) xs ++ x ∷ []) ++ reverse ns ≡ filter (keep us) xs ++ reverse ms
          by true h =
              ap (λ l. l ++ reverse ns)
              (filter-append (keep ts) (filter (λ y. not (is_text t (n.text y))) xs) (x ∷ [])
              ∙ (ap₂ (λ l b. l ++ cond b (x ∷ []) []) (kept t ∙ filter-same (λ y. not (is_text t (n.text y)) && keep ts y) (keep ts) xs (old_text t h))
              (ap (has_new_text ts) p ∙ ap not h)
              ∙ append-nil (filter (keep ts) xs)))
              ∙ sym (ap₂ (λ u m. filter (keep u) xs ++ reverse m) (e ∙ ap (λ c. if not c then walked_texts ts (Some t) else ts) h)
              (f ∙ ap (λ c. if not c then ns ++ x ∷ [] else ns) h))
          by false h =
              ap (λ l. l ++ reverse ns)
              (filter-append (keep ts) (filter (λ y. not (is_text t (n.text y))) xs) (x ∷ [])
              ∙ ap₂ (λ l b. l ++ cond b (x ∷ []) [])
              (kept t
              ∙ filter-same (λ y. not (is_text t (n.text y)) && keep ts y) (keep (ts ++ record { 0 = t } ∷ [])) xs (new_text t))
              (ap (has_new_text ts) p ∙ ap not h))
              ∙ (append_assoc (filter (keep (ts ++ record { 0 = t } ∷ [])) xs) (x ∷ []) (reverse ns)
              ∙ sym (ap₂ (λ u m. filter (keep u) xs ++ m)
              (e ∙ (ap (λ c. if not c then walked_texts ts (Some t) else ts) h ∙ ap (λ c. if c then ts else ts ++ record { 0 = t } ∷ []) h))
              (ap reverse (f ∙ ap (λ c. if not c then ns ++ x ∷ [] else ns) h) ∙ reverse-append ns (x ∷ []))))

pub map-reverse : {X Y : Type 0} (f : X → Y) (xs : List X) → map f (reverse xs) ≡ reverse (map f xs)
map-reverse f [] = refl
map-reverse f (x ∷ xs) =
    ap (map f) (reverse-append (x ∷ []) xs)
    ∙ (map-append f (reverse xs) (x ∷ []) ∙ (ap (λ l. l ++ f x ∷ []) (map-reverse f xs) ∙ sym (reverse-append (f x ∷ []) (map f xs))))
