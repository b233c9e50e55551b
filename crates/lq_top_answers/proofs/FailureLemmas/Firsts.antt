-- The first of each in a list, and lists to which what is not there is added at the end.
use Rattle.std.specs.Prelude.{if◌then◌else◌}
use Rattle.std.specs.List.{list_any, filter, position_or_len}
use Rattle.std.proofs.Common.{◌≡◌, ℕ, ◌+◌, Bool, true, false, not, ◌||◌, cond, List, [], ◌∷◌, ◌++◌, refl, sym, ap, ◌∙◌, append_assoc}
use Rattle.std.proofs.lemmas.List.{append-nil}
use Rattle.std.proofs.lemmas.List.Elements.{filter-append}
use Rattle.std.proofs.lemmas.List.Folds.{list_any-append}
use Rattle.std.proofs.lemmas.Map.Views.{any-filter_same}
use Rattle.lq_top_answers.specs.Failure.Occurrences.{firsts}
use Rattle.lq_top_answers.specs.Failure.Collected.{with_one, with_each}

-- the test tells that two are one
abbrev pub Tells : {A : Type 0} → (A → A → Bool) → Type 0
Tells {A = A} same = (a b : A) → same a b ≡ true → a ≡ b

drops : {A : Type 0} (p : A → Bool) (zs : List A) (y : A) → p y ≡ false → filter p (zs ++ y ∷ []) ≡ filter p zs
drops p zs y e = filter-append p zs (y ∷ []) ∙ ap (λ (b : Bool). filter p zs ++ cond b (y ∷ []) []) e ∙ append-nil (filter p zs)

keeps : {A : Type 0} (p : A → Bool) (zs : List A) (y : A) → p y ≡ true → filter p (zs ++ y ∷ []) ≡ filter p zs ++ y ∷ []
keeps p zs y e = filter-append p zs (y ∷ []) ∙ ap (λ (b : Bool). filter p zs ++ cond b (y ∷ []) []) e

still_there : {A : Type 0} (same : A → A → Bool) → Tells same → (x y : A) → same y x ≡ false → (zs : List A) → list_any (same y) (filter (λ z. not (same z x)) zs) ≡ list_any (same y) zs
still_there same tells x y e zs = any-filter_same (same y) (λ z. not (same z x)) true (λ k h. ap not (ap (λ w. same w x) (sym (tells y k h)) ∙ e)) zs

pub firsts_more : {A : Type 0} (same : A → A → Bool) → Tells same → (xs : List A) (y : A) → firsts same (xs ++ y ∷ []) ≡ with_one same (firsts same xs) y
firsts_more same tells [] y = refl
firsts_more {A = A} same tells (x ∷ xs) y = ap (λ l. x ∷ filter (λ z. not (same z x)) l) (firsts_more same tells xs y) ∙ by (same y x) refl
  where
    kept : List A → List A
    kept l = filter (λ z. not (same z x)) l

    dropped : same y x ≡ true → (c : Bool) → kept (if c then firsts same xs else firsts same xs ++ y ∷ []) ≡ kept (firsts same xs)
    dropped e true = refl
    dropped e false = drops (λ z. not (same z x)) (firsts same xs) y (ap not e)

    added : same y x ≡ false → (c : Bool) → kept (if c then firsts same xs else firsts same xs ++ y ∷ []) ≡ (if c then kept (firsts same xs) else kept (firsts same xs) ++ y ∷ [])
    added e true = refl
    added e false = keeps (λ z. not (same z x)) (firsts same xs) y (ap not e)

    by : (b : Bool) → same y x ≡ b → x ∷ kept (with_one same (firsts same xs) y) ≡ with_one same (x ∷ kept (firsts same xs)) y
    by true e =
        ap (λ l. x ∷ l) (dropped e (list_any (same y) (firsts same xs)))
        ∙ sym (ap (λ (b : Bool). if b || list_any (same y) (kept (firsts same xs)) then x ∷ kept (firsts same xs) else x ∷ kept (firsts same xs) ++ y ∷ []) e)
    by false e =
        ap (λ l. x ∷ l) (added e (list_any (same y) (firsts same xs)))
        ∙ pushed (list_any (same y) (firsts same xs))
        ∙ ap (λ (b : Bool). if b then x ∷ kept (firsts same xs) else x ∷ (kept (firsts same xs) ++ y ∷ [])) (sym (still_there same tells x y e (firsts same xs)))
        ∙ sym (ap (λ (b : Bool). if b || list_any (same y) (kept (firsts same xs)) then x ∷ kept (firsts same xs) else x ∷ (kept (firsts same xs) ++ y ∷ [])) e)
      where
        pushed : (c : Bool) → x ∷ (if c then kept (firsts same xs) else kept (firsts same xs) ++ y ∷ []) ≡ (if c then x ∷ kept (firsts same xs) else x ∷ (kept (firsts same xs) ++ y ∷ []))
        pushed true = refl
        pushed false = refl

pub with_each_append : {A : Type 0} (same : A → A → Bool) (seen xs ys : List A) → with_each same seen (xs ++ ys) ≡ with_each same (with_each same seen xs) ys
with_each_append same seen [] ys = refl
with_each_append same seen (x ∷ xs) ys = with_each_append same (with_one same seen x) xs ys

pub firsts-append : {A : Type 0} (same : A → A → Bool) → Tells same → (xs ys : List A) → firsts same (xs ++ ys) ≡ with_each same (firsts same xs) ys
firsts-append same tells xs [] = ap (firsts same) (append-nil xs)
firsts-append same tells xs (y ∷ ys) =
    ap (firsts same) (sym (append_assoc xs (y ∷ []) ys))
    ∙ firsts-append same tells (xs ++ y ∷ []) ys
    ∙ ap (λ l. with_each same l ys) (firsts_more same tells xs y)

pub firsts_each : {A : Type 0} (same : A → A → Bool) → Tells same → (xs : List A) → with_each same [] xs ≡ firsts same xs
firsts_each same tells xs = sym (firsts-append same tells [] xs)

-- the place of the first that passes stays
pub place_found : {A : Type 0} (p : A → Bool) (zs ys : List A) → list_any p zs ≡ true → position_or_len p (zs ++ ys) ≡ position_or_len p zs
place_found p [] ys e = cc
place_found p (z ∷ zs) ys e = by (place_found p zs ys) (p z) e
  where
    by : (list_any p zs ≡ true → position_or_len p (zs ++ ys) ≡ position_or_len p zs) → (b : Bool) → (b || list_any p zs) ≡ true → cond (not b) (1 + position_or_len p (zs ++ ys)) 0 ≡ cond (not b) (1 + position_or_len p zs) 0
    by rest true h = refl
    by rest false h = ap (λ n. 1 + n) (rest h)

pub place_last : {A : Type 0} (p : A → Bool) (zs : List A) (y : A) → p y ≡ true → position_or_len p (zs ++ y ∷ []) ≡ position_or_len p zs
place_last p [] y e = ap (λ (b : Bool). cond (not b) 1 0) e
place_last p (z ∷ zs) y e = ap (λ (n : ℕ). cond (not (p z)) (1 + n) 0) (place_last p zs y e)

one_found : {A : Type 0} (same : A → A → Bool) (p : A → Bool) (zs : List A) (y : A) → list_any p zs ≡ true → (position_or_len p (with_one same zs y) ≡ position_or_len p zs) × (list_any p (with_one same zs y) ≡ true)
one_found same p zs y e = by (list_any (same y) zs)
  where
    by : (b : Bool) → (position_or_len p (if b then zs else zs ++ y ∷ []) ≡ position_or_len p zs) × (list_any p (if b then zs else zs ++ y ∷ []) ≡ true)
    by true = (refl, e)
    by false = (place_found p zs (y ∷ []) e, list_any-append p zs (y ∷ []) ∙ ap (λ (b : Bool). b || list_any p (y ∷ [])) e)

pub each_found : {A : Type 0} (same : A → A → Bool) (p : A → Bool) (zs ys : List A) → list_any p zs ≡ true → position_or_len p (with_each same zs ys) ≡ position_or_len p zs
each_found same p zs [] e = refl
each_found same p zs (y ∷ ys) e = let one = one_found same p zs y e in each_found same p (with_one same zs y) ys one.1 ∙ one.0

-- what was added is there, at the place that it had or at the end
pub added_there : {A : Type 0} (same : A → A → Bool) (zs : List A) (y : A) → same y y ≡ true → list_any (same y) (with_one same zs y) ≡ true
added_there same zs y e = by (list_any (same y) zs) refl
  where
    by : (b : Bool) → list_any (same y) zs ≡ b → list_any (same y) (if b then zs else zs ++ y ∷ []) ≡ true
    by true h = h
    by false h = list_any-append (same y) zs (y ∷ []) ∙ ap (λ (b : Bool). b || list_any (same y) (y ∷ [])) h ∙ ap (λ (b : Bool). b || false) e

pub added_at : {A : Type 0} (same : A → A → Bool) (zs : List A) (y : A) → same y y ≡ true → position_or_len (same y) (with_one same zs y) ≡ position_or_len (same y) zs
added_at same zs y e = by (list_any (same y) zs)
  where
    by : (b : Bool) → position_or_len (same y) (if b then zs else zs ++ y ∷ []) ≡ position_or_len (same y) zs
    by true = refl
    by false = place_last (same y) zs y e
