-- What is remembered of the first names that are bound.
use Rattle.std.proofs.Common.{◌≡◌, ◌∙◌, ℕ, zero, suc, ◌<◌, ◌≤◌, Bool, true, false, ◌==◌, ◌&&◌, not, cond, List, [], ◌∷◌, ◌++◌, filter, length, reverse, take, get_or, Option, Some, None, refl, sym, ap, ap₂, subst, arith}
use Rattle.std.proofs.lemmas.List.{append-nil, length-append, length-reverse, reverse-append}
use Rattle.std.proofs.lemmas.List.Elements.{filter-append}
use Rattle.lq_refined_instances.specs.Scopes.{Scope, scope_in}
use Rattle.lq_refined_templates.specs.Points.Annotation.{Annotation, is_text}
use Rattle.lq_refined_templates.specs.Points.Seen.{Seen, hiding, is_before, names_at, scope_at, symbols_of}
use Rattle.lq_generate_reading.specs.Visibility.Growing.{scope_kept, scope_there}
use Rattle.lq_generate_reading.specs.Visibility.Latest.{changed, if_any, name_number, of_text, text_number, text_shown}
use Rattle.lq_generate_reading.specs.Visibility.Levels.{top_of, AreLevels, IsLevel, IsSet}
use Rattle.lq_generate_reading.specs.Visibility.Scopes.{Longer}
use Rattle.lq_generate_reading.specs.Visibility.Spans.{IsIn}
use Rattle.lq_generate_reading.specs.Visibility.Stack.{entry_view, stacked}
use Rattle.lq_generate_reading.specs.declared.visibility.bound.Entry.{Entry}
use Rattle.lq_generate_reading.specs.declared.visibility.level.Level.{Level}
use Rattle.lq_generate_reading.proofs.VisibilityLemmas.Names.{entry_more, length-stacked}
use Rattle.lq_generate_reading.proofs.VisibilityLemmas.Walks.{filter-both, filter-same, flip_text, same_text}

-- ---- the visible names of the texts
self_text : (t : ℕ) → (t == t) ≡ true
self_text t = grind arith

pub change_back : (o : Option ℕ) (x : Option ℕ) (f : ℕ → Option ℕ) → changed o (of_text f o) (changed o x f) ≡ f
change_back None x f = refl
change_back (Some t) x f = λ j r. by (t == r) r refl j
  where
    by : (b : Bool) (r : ℕ) → (t == r) ≡ b → cond b (f t) (cond b x (f r)) ≡ f r
    by true r e = ap f (same_text t r e)
    by false r e = refl

pub change_sets : (o : Option ℕ) (x : ℕ) (f : ℕ → Option ℕ) → IsSet o x (changed o (Some x) f)
change_sets None x f = tt
change_sets (Some t) x f = ap (λ b. cond b (Some x) (f t)) (self_text t)

-- a text that has a name
pub no_change : (o : Option ℕ) (x : ℕ) (y : Option ℕ) (f : ℕ → Option ℕ) → IsSet o x f → of_text f o ≡ None → changed o y f ≡ f
no_change None x y f h k = refl
no_change (Some t) x y f h k = absurd (cc)

module _ (n : Annotation) (i : ℕ) (s : Seen) (xs : List ℕ) (f : ℕ → Option ℕ) (latest : (t : ℕ) → filter (λ y. is_text t (n.text y)) xs ≡ if_any (f t)) where
  pub latest_next : (t : ℕ)
      → filter (λ y. is_text t (n.text y)) (cond (is_before i s.until) (hiding n s.name (n.text s.name) xs) xs)
      ≡ if_any (changed (text_shown n i s) (Some s.name) f t)
  latest_next t = by (is_before i s.until) (n.text s.name) refl
    where
      p : ℕ → ℕ → Bool
      p u y = is_text u (n.text y)

      nothing : (ys : List ℕ) → filter (λ y. false) ys ≡ []
      nothing [] = refl
      nothing (y ∷ ys) = nothing ys

      none : (b : Bool) → (b && false) ≡ false
      none true = refl
      none false = refl

      both : (u : ℕ) → (u == t) ≡ true → (o : Option ℕ) → (not (is_text u o) && is_text t o) ≡ false
      both u e None = refl
      both u e (Some r) = ap (λ v. not (v == r) && (t == r)) (same_text u t e) ∙ by (t == r)
        where
          by : (b : Bool) → (not b && b) ≡ false
          by true = refl
          by false = refl

      apart : (u : ℕ) → (u == t) ≡ false → (o : Option ℕ) → (not (is_text u o) && is_text t o) ≡ is_text t o
      apart u e None = refl
      apart u e (Some r) = by (t == r) refl
        where
          by : (b : Bool) → (t == r) ≡ b → (not (u == r) && b) ≡ b
          by true k = ap (λ v. not v && true) (ap (λ v. u == v) (sym (same_text t r k)) ∙ e)
          by false k = none (not (u == r))

      cross : (u : ℕ) (b : Bool) → (u == t) ≡ b
          → filter (λ y. is_text t (n.text y)) (filter (λ y. not (is_text u (n.text y))) xs) ++ cond (t == u) (s.name ∷ []) [] ≡ if_any (cond b (Some s.name) (f t))
      cross u true e =
          ap₂ (λ l c. l ++ cond c (s.name ∷ []) [])
          (filter-both (p t) (λ y. not (p u y)) xs ∙ (filter-same (λ y. not (p u y) && p t y) (λ y. false) xs (λ y. both u e (n.text y)) ∙ nothing xs))
          (flip_text t u ∙ e)
      cross u false e =
          ap₂ (λ l c. l ++ cond c (s.name ∷ []) [])
          (filter-both (p t) (λ y. not (p u y)) xs ∙ (filter-same (λ y. not (p u y) && p t y) (p t) xs (λ y. apart u e (n.text y)) ∙ latest t))
          (flip_text t u ∙ e)
          ∙ append-nil (if_any (f t))

      by : (b : Bool) (o : Option ℕ) → n.text s.name ≡ o
          → filter (λ y. is_text t (n.text y)) (cond b (hiding n s.name o xs) xs) ≡ if_any (changed (cond b o None) (Some s.name) f t)
      by false o e = latest t
      by true None e = latest t
      by true (Some u) e =
          filter-append (λ y. is_text t (n.text y)) (filter (λ y. not (is_text u (n.text y))) xs) (s.name ∷ [])
          ∙ (ap (λ a. filter (λ y. is_text t (n.text y)) (filter (λ y. not (is_text u (n.text y))) xs) ++ cond (is_text t a) (s.name ∷ []) []) e
          ∙ cross u (u == t) refl)

-- ---- levels
module _ (n : Annotation) where
  -- where there are more scopes
  pub levels_kept : (old new : List Scope) → Longer old new → (ls : List Level) (Δ : List Seen) (f : ℕ → Option ℕ) → AreLevels n old ls Δ f → AreLevels n new ls Δ f
  levels_kept old new g [] [] f h = h
  levels_kept old new g [] (s ∷ Δ) f h = h
  levels_kept old new g (l ∷ ls) [] f h = h
  levels_kept old new g (l ∷ ls) (s ∷ Δ) f h = (
    record {
      names = h.0.names;
      are = h.0.are;
      there = scope_there old new l.scope g h.0.there;
      is = scope_kept old new l.scope g h.0.there ∙ h.0.is;
      latest_are = h.0.latest_are;
    },
    h.1,
    levels_kept old new g ls Δ (changed (text_number l.text) (name_number l.hides) f) h.2,
  )

  pub top_level : (all : List Scope) → 0 < length all → scope_in all 0 ≡ [] → (ls : List Level) (Δ : List Seen) (f : ℕ → Option ℕ)
      → AreLevels n all ls Δ f → IsLevel n all Δ f (top_of ls)
  top_level all there empty [] [] f h = record { names = []; are = λ i k. refl; there = there; is = empty; latest_are = λ t. ap if_any (sym (h t)) }
  top_level all there empty [] (s ∷ Δ) f h = absurd h
  top_level all there empty (l ∷ ls) [] f h = absurd h
  top_level all there empty (l ∷ ls) (s ∷ Δ) f h = h.0

  as_many : (all : List Scope) (ls : List Level) (Δ : List Seen) (f : ℕ → Option ℕ) → AreLevels n all ls Δ f → length ls ≡ length Δ
  as_many all [] [] f h = refl
  as_many all [] (s ∷ Δ) f h = absurd h
  as_many all (l ∷ ls) [] f h = absurd h
  as_many all (l ∷ ls) (s ∷ Δ) f h = ap suc (as_many all ls Δ (changed (text_number l.text) (name_number l.hides) f) h.2)

  -- no more levels than names
  pub levels_within : (all : List Scope) (ls : List Level) (es : List Entry) (f : ℕ → Option ℕ)
      → AreLevels n all (reverse ls) (stacked [] (take (length ls) es)) f → length ls ≤ length es
  levels_within all ls es f h =
      let a = as_many all (reverse ls) (stacked [] (take (length ls) es)) f h in
      let b = length-stacked [] (take (length ls) es) in
      let c = taken_within (length ls) es in
      let d = length-reverse ls in
      omega arith
    where
      taken_within : (k : ℕ) (es : List Entry) → length (take k es) ≤ length es
      taken_within zero [] = omega arith
      taken_within (suc k) [] = omega arith
      taken_within zero (e ∷ es) = omega arith
      taken_within (suc k) (e ∷ es) = let t = taken_within k es in omega arith

  -- the scope of a level at one of its nodes
  pub level_scope : (all : List Scope) (Δ : List Seen) (f : ℕ → Option ℕ) (l : Level) (i : ℕ) → IsLevel n all Δ f l → IsIn l.span i
      → scope_in all l.scope ≡ scope_at n Δ i
  level_scope all Δ f l i h k = h.is ∙ ap (symbols_of n) (sym (h.are i k))

  pub level_latest : (all : List Scope) (Δ : List Seen) (f : ℕ → Option ℕ) (l : Level) (i : ℕ) → IsLevel n all Δ f l → IsIn l.span i
      → (t : ℕ) → filter (λ y. is_text t (n.text y)) (names_at n Δ i) ≡ if_any (f t)
  level_latest all Δ f l i h k t = ap (filter (λ y. is_text t (n.text y))) (h.are i k) ∙ h.latest_are t

  -- one more
  pub next_level : (old new : List Scope) (i : ℕ) (s : Seen) (Δ : List Seen) (f : ℕ → Option ℕ) (below l : Level) → IsLevel n old Δ f below
      → IsIn below.span i → ((j : ℕ) → IsIn l.span j → IsIn below.span j) → ((j : ℕ) → IsIn l.span j → is_before j s.until ≡ is_before i s.until)
      → l.scope < length new → scope_in new l.scope ≡ scope_at n (s ∷ Δ) i
      → IsLevel n new (s ∷ Δ) (changed (text_shown n i s) (Some s.name) f) l
  next_level old new i s Δ f below l h k within alike there is = record {
    names = names_at n (s ∷ Δ) i;
    are = λ j e. ap₂ (λ b ys. cond b (hiding n s.name (n.text s.name) ys) ys) (alike j e) (h.are j (within j e) ∙ sym (h.are i k));
    there = there;
    is = is;
    latest_are = latest_next n i s (names_at n Δ i) f (level_latest old Δ f below i h k);
  }

pub up_levels : (ls : List Level) (l : Level) → reverse (ls ++ l ∷ []) ≡ l ∷ reverse ls
up_levels ls l = reverse-append ls (l ∷ [])

pub up_names : (es : List Entry) (ls : List Level) (l : Level) (d : Entry) → length ls < length es
    → stacked [] (take (length (ls ++ l ∷ [])) es) ≡ entry_view (get_or es (length ls) d) ∷ stacked [] (take (length ls) es)
up_names es ls l d h = ap (λ k. stacked [] (take k es)) (length-append ls (l ∷ [])) ∙ entry_more es (length ls) d h

module _ (n : Annotation) (all : List Scope) (es : List Entry) (ls : List Level) (l : Level) (d : Entry) (f : ℕ → Option ℕ) (h : length ls < length es) where
  abbrev e : Seen
  e = entry_view (get_or es (length ls) d)

  abbrev Δ : List Seen
  Δ = stacked [] (take (length ls) es)

  -- the last one is let go
  pub level_down : AreLevels n all (reverse (ls ++ l ∷ [])) (stacked [] (take (length (ls ++ l ∷ [])) es)) f → AreLevels n all (l ∷ reverse ls) (e ∷ Δ) f
  level_down k = subst (λ ys. AreLevels n all (l ∷ reverse ls) ys f) (up_names es ls l d h)
      (subst (λ ys. AreLevels n all ys (stacked [] (take (length (ls ++ l ∷ [])) es)) f) (up_levels ls l) k)

  pub level_up : AreLevels n all (l ∷ reverse ls) (e ∷ Δ) f → AreLevels n all (reverse (ls ++ l ∷ [])) (stacked [] (take (length (ls ++ l ∷ [])) es)) f
  level_up k = subst (λ ys. AreLevels n all ys (stacked [] (take (length (ls ++ l ∷ [])) es)) f) (sym (up_levels ls l))
      (subst (λ ys. AreLevels n all (l ∷ reverse ls) ys f) (sym (up_names es ls l d h)) k)
