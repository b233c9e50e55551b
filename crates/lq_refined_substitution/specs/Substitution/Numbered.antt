-- Lists of the numbers of items, and what they stand for where there are more items.
use Rattle.std.proofs.Common.{◌≡◌, ℕ, zero, suc, ◌+◌, ◌<◌, List, [], ◌∷◌, ◌++◌, All, length, map, slice_index_or, Result, Ok, Err, OnOk, OnErr, refl, sym, ap, ap₂, subst, ◌∙◌, arith}
use Rattle.std.specs.declared.alloc.AllocError.{AllocError}
use Rattle.std.proofs.lemmas.List.{get_or_append_left, get_or_push, length-append, map-append}
use Rattle.std.proofs.lemmas.List.Elements.{All-push, All-tail, All-head, All-weaker}
use Rattle.lq_refined_substitution.specs.Environments.Entries.{at}

-- each number is that of one of so many items
abbrev pub AreNumbered : ℕ → List (List ℕ) → Type 0
AreNumbered n all = All (All (λ i. i < n)) all

-- the items of these numbers, with one for numbers of no item
abbrev pub items_at : {X : Type 0} → X → List X → List ℕ → List X
items_at d xs is = map (λ i. slice_index_or xs i d) is

abbrev pub lists_at : {X : Type 0} → X → List X → List (List ℕ) → List (List X)
lists_at d xs all = map (items_at d xs) all

module _ {X : Type 0} (d : X) (xs more : List X) where
  pub items_at-more : (is : List ℕ) → All (λ i. i < length xs) is → items_at d (xs ++ more) is ≡ items_at d xs is
  items_at-more [] h = refl
  items_at-more (i ∷ is) h =
      ap₂ (λ y ys. y ∷ ys) (get_or_append_left xs more d i (All-head (λ i. i < length xs) i is h))
      (items_at-more is (All-tail (λ i. i < length xs) i is h))

  pub lists_at-more : (all : List (List ℕ)) → AreNumbered (length xs) all → lists_at d (xs ++ more) all ≡ lists_at d xs all
  lists_at-more [] h = refl
  lists_at-more (l ∷ ls) h =
      ap₂ (λ y ys. y ∷ ys) (items_at-more l (All-head (All (λ i. i < length xs)) l ls h))
      (lists_at-more ls (All-tail (All (λ i. i < length xs)) l ls h))

pub lists_at-at : {X : Type 0} (d : X) (xs : List X) (all : List (List ℕ)) (p : ℕ) → slice_index_or (lists_at d xs all) p [] ≡ items_at d xs (at all p)
lists_at-at d xs [] p = refl
lists_at-at d xs (l ∷ ls) zero = refl
lists_at-at d xs (l ∷ ls) (suc p) = lists_at-at d xs ls p

pub at-numbered : (n : ℕ) (all : List (List ℕ)) (p : ℕ) → AreNumbered n all → All (λ i. i < n) (at all p)
at-numbered n [] p h = λ k d b. absurd (omega arith)
at-numbered n (l ∷ ls) zero h = All-head (All (λ i. i < n)) l ls h
at-numbered n (l ∷ ls) (suc p) h = at-numbered n ls p (All-tail (All (λ i. i < n)) l ls h)

module _ (n : ℕ) where
  lower : (is : List ℕ) → All (λ i. i < n) is → All (λ i. i < n + 1) is
  lower is h = All-weaker (λ i. i < n) (λ i. i < n + 1) (λ i b. omega arith) is h

  pub numbered-more : (all : List (List ℕ)) → AreNumbered n all → AreNumbered (n + 1) all
  numbered-more all h = All-weaker (All (λ i. i < n)) (All (λ i. i < n + 1)) lower all h

  -- one list more, that of an earlier one and the new number
  pub numbered-push : (all : List (List ℕ)) (p : ℕ) → AreNumbered n all → AreNumbered (n + 1) (all ++ (at all p ++ n ∷ []) ∷ [])
  numbered-push all p h =
      All-push (All (λ i. i < n + 1)) all (at all p ++ n ∷ []) (numbered-more all h)
      (All-push (λ i. i < n + 1) (at all p) n (lower (at all p) (at-numbered n all p h)) (omega arith))

-- one item more, and one list more that ends in it
pub lists_at-push : {X : Type 0} (d : X) (xs : List X) (x : X) (all : List (List ℕ)) (p : ℕ) → AreNumbered (length xs) all
    → lists_at d (xs ++ x ∷ []) (all ++ (at all p ++ length xs ∷ []) ∷ []) ≡ lists_at d xs all ++ (slice_index_or (lists_at d xs all) p [] ++ x ∷ []) ∷ []
lists_at-push d xs x all p h =
    let f = items_at d (xs ++ x ∷ []) in
    let new = at all p ++ length xs ∷ [] in
    map-append f all (new ∷ [])
    ∙ ap₂ (λ a b. a ++ b ∷ []) (lists_at-more d xs (x ∷ []) all h)
    (map-append (λ i. slice_index_or (xs ++ x ∷ []) i d) (at all p) (length xs ∷ [])
    ∙ ap₂ (λ a b. a ++ b ∷ []) (items_at-more d xs (x ∷ []) (at all p) (at-numbered (length xs) all p h) ∙ sym (lists_at-at d xs all p))
    (get_or_push xs x d (length xs) refl))

-- ---- what a further list leaves, whether it had memory or not

module _ {X : Type 0} (xs longer : List X) (x : X) (all new : List (List ℕ)) (p n : ℕ) (number : n ≡ length xs) (item : longer ≡ xs ++ x ∷ [])
    (numbered : AreNumbered (length xs) all) where
  length_longer : length longer ≡ length xs + 1
  length_longer = ap length item ∙ length-append xs (x ∷ [])

  pub numbered-either : (r : Result ℕ AllocError) → OnOk r (new ≡ all ++ (at all p ++ n ∷ []) ∷ []) → OnErr r (new ≡ all)
      → AreNumbered (length longer) new
  numbered-either (Ok v) ok err =
      let wide : AreNumbered (length xs + 1) (all ++ (at all p ++ n ∷ []) ∷ []) =
      subst (λ k. AreNumbered (length xs + 1) (all ++ (at all p ++ k ∷ []) ∷ [])) (sym number) (numbered-push (length xs) all p numbered) in
      subst (λ k. AreNumbered k new) (sym length_longer) (subst (AreNumbered (length xs + 1)) (sym ok) wide)
  numbered-either (Err e) ok err =
      subst (λ k. AreNumbered k new) (sym length_longer) (subst (AreNumbered (length xs + 1)) (sym err) (numbered-more (length xs) all numbered))

  pub lists_at-added : (d : X) → new ≡ all ++ (at all p ++ n ∷ []) ∷ []
      → lists_at d longer new ≡ lists_at d xs all ++ (slice_index_or (lists_at d xs all) p [] ++ x ∷ []) ∷ []
  lists_at-added d ok =
      ap₂ (lists_at d) item (ok ∙ ap (λ k. all ++ (at all p ++ k ∷ []) ∷ []) number) ∙ lists_at-push d xs x all p numbered

  pub lists_at-kept : (d : X) → new ≡ all → lists_at d longer new ≡ lists_at d xs all
  lists_at-kept d err = ap₂ (lists_at d) item err ∙ lists_at-more d xs (x ∷ []) all numbered

-- ---- the last of a list

pub last-numbered : (n : ℕ) (all : List (List ℕ)) (a b i : ℕ) → AreNumbered n all → at all a ≡ at all b ++ i ∷ [] → i < n
last-numbered n all a b i h e = All-last (at all b) (subst (All (λ j. j < n)) e (at-numbered n all a h))
  where
    All-last : (xs : List ℕ) → All (λ j. j < n) (xs ++ i ∷ []) → i < n
    All-last [] k = All-head (λ j. j < n) i [] k
    All-last (y ∷ ys) k = All-last ys (All-tail (λ j. j < n) y (ys ++ i ∷ []) k)

pub items_at-last : {X : Type 0} (d : X) (xs : List X) (is : List ℕ) (i : ℕ) → items_at d xs (is ++ i ∷ []) ≡ items_at d xs is ++ slice_index_or xs i d ∷ []
items_at-last d xs is i = map-append (λ k. slice_index_or xs k d) is (i ∷ [])
