-- Rows of replacements one behind the other.
use Rattle.std.proofs.Common.{◌≡◌, ℕ, zero, suc, ◌+◌, ◌-◌, ◌<◌, ◌≤◌, List, [], ◌∷◌, ◌++◌, take, drop, length, slice_get, slice_index_or, Option, Some, None, Bool, true, false, if◌then◌else◌, refl, sym, ap, ap₂, ◌∙◌, append_assoc, arith}
use Rattle.std.proofs.lemmas.List.{append-nil, map-append, take_all, length-drop}
use Rattle.lq_refined_types.specs.Parts.Substitution.{Subst}
use Rattle.lq_refined_substitution.specs.Substitution.Runs.{run_list, run_swaps, runs_view, swap_view, swaps_view}
use Rattle.lq_refined_substitution.specs.declared.substitution.runs.Run.{Run}
use Rattle.lq_refined_substitution.specs.declared.substitution.swaps.Swap.{Swap}

pub run_list-append : (xs ys : List Run) → run_list (xs ++ ys) ≡ run_list xs ++ run_list ys
run_list-append [] ys = refl
run_list-append (r ∷ rs) ys = ap (λ l. run_swaps r ++ l) (run_list-append rs ys) ∙ sym (append_assoc (run_swaps r) (run_list rs) (run_list ys))

pub swaps_view-append : (xs ys : List Swap) → swaps_view (xs ++ ys) ≡ swaps_view xs ++ swaps_view ys
swaps_view-append xs ys = map-append swap_view xs ys

pub runs_view-cons : (r : Run) (rs : List Run) → runs_view (r ∷ rs) ≡ swaps_view (run_swaps r) ++ runs_view rs
runs_view-cons r rs = swaps_view-append (run_swaps r) (run_list rs)

pub runs_view-then : (r : Run) (rs : List Run) (θ : Subst) → runs_view (r ∷ rs) ++ θ ≡ swaps_view (run_swaps r) ++ (runs_view rs ++ θ)
runs_view-then r rs θ = ap (λ l. l ++ θ) (runs_view-cons r rs) ∙ append_assoc (swaps_view (run_swaps r)) (runs_view rs) θ

pub run_list-push : (xs : List Run) (r : Run) → run_list (xs ++ r ∷ []) ≡ run_list xs ++ run_swaps r
run_list-push xs r = run_list-append xs (r ∷ []) ∙ ap (λ l. run_list xs ++ l) (append-nil (run_swaps r))

pub runs_view-push : (xs : List Run) (r : Run) → runs_view (xs ++ r ∷ []) ≡ runs_view xs ++ swaps_view (run_swaps r)
runs_view-push xs r = ap swaps_view (run_list-push xs r) ∙ swaps_view-append (run_list xs) (run_swaps r)

-- ---- lists by their places

next-is : (k : ℕ) → suc k ≡ k + 1
next-is k = omega arith

module _ {X : Type 0} where
  abbrev or_else : X → Option X → X
  or_else d None = d
  or_else d (Some x) = x

  some-is : (a b : X) → Some a ≡ Some b → a ≡ b
  some-is a b e = ap (or_else a) e

  pub at-some : (xs : List X) (k : ℕ) (x : X) → k < length xs → x ≡ slice_index_or xs k x → slice_get xs k ≡ Some x
  at-some [] k x h e = absurd (omega (arith, h))
  at-some (y ∷ xs) zero x h e = ap Some (sym e)
  at-some (y ∷ xs) (suc k) x h e = at-some xs k x (omega (arith, h)) e

  drop-next : (xs : List X) (k : ℕ) (x : X) → slice_get xs k ≡ Some x → drop k xs ≡ x ∷ drop (suc k) xs
  drop-next [] k x e = absurd (cc)
  drop-next (y ∷ xs) zero x e = ap (λ z. z ∷ xs) (some-is y x e)
  drop-next (y ∷ xs) (suc k) x e = drop-next xs k x e

  take-next : (xs : List X) (k : ℕ) (x : X) → slice_get xs k ≡ Some x → take (suc k) xs ≡ take k xs ++ x ∷ []
  take-next [] k x e = absurd (cc)
  take-next (y ∷ xs) zero x e = ap (λ z. z ∷ []) (some-is y x e)
  take-next (y ∷ xs) (suc k) x e = ap (λ l. y ∷ l) (take-next xs k x e)

  pub drop-at : (xs : List X) (k : ℕ) (x : X) → slice_get xs k ≡ Some x → drop k xs ≡ x ∷ drop (k + 1) xs
  drop-at xs k x e = drop-next xs k x e ∙ ap (λ n. x ∷ drop n xs) (next-is k)

  pub take-at : (xs : List X) (k : ℕ) (x : X) → slice_get xs k ≡ Some x → take (k + 1) xs ≡ take k xs ++ x ∷ []
  take-at xs k x e = ap (λ n. take n xs) (sym (next-is k)) ∙ take-next xs k x e

  pub at-is : (xs : List X) (k : ℕ) (x y : X) → slice_get xs k ≡ Some x → slice_get xs k ≡ Some y → x ≡ y
  at-is xs k x y e f = some-is x y (sym e ∙ f)

  pub get-first : (xs ys : List X) (k : ℕ) (x : X) → slice_get xs k ≡ Some x → slice_get (xs ++ ys) k ≡ Some x
  get-first [] ys k x e = absurd (cc)
  get-first (y ∷ xs) ys zero x e = e
  get-first (y ∷ xs) ys (suc k) x e = get-first xs ys k x e

  pub get-rest : (xs ys : List X) (k : ℕ) → length xs ≤ k → slice_get (xs ++ ys) k ≡ slice_get ys (k - length xs)
  get-rest [] ys k h = ap (slice_get ys) (omega arith)
  get-rest (y ∷ xs) ys zero h = absurd (omega (arith, h))
  get-rest (y ∷ xs) ys (suc k) h = get-rest xs ys k (omega (arith, h)) ∙ ap (slice_get ys) (omega arith)

  pub whole-rest : (xs : List X) (k : ℕ) → take (length xs - k) (drop k xs) ≡ drop k xs
  whole-rest xs k = let e = length-drop k xs in take_all (length xs - k) (drop k xs) (omega (arith, e))

pub split-rows : (xs : List Run) (k : ℕ) → runs_view (take k xs) ++ runs_view (drop k xs) ≡ runs_view xs
split-rows [] zero = refl
split-rows [] (suc k) = refl
split-rows (r ∷ rs) zero = refl
split-rows (r ∷ rs) (suc k) =
    runs_view-then r (take k rs) (runs_view (drop k rs)) ∙ ap (λ l. swaps_view (run_swaps r) ++ l) (split-rows rs k) ∙ sym (runs_view-cons r rs)

-- one more is kept, or left out
pub kept-step : (b : Bool) (A B : Subst) (x : Subst) (R S : Subst) → B ≡ (if b then A ++ x else A) → R ≡ (if b then x ++ S else S) → A ++ R ≡ B ++ S
kept-step true A B x R S e f = ap (λ l. A ++ l) f ∙ sym (append_assoc A x S) ∙ ap (λ l. l ++ S) (sym e)
kept-step false A B x R S e f = ap₂ (λ a b. a ++ b) (sym e) f
