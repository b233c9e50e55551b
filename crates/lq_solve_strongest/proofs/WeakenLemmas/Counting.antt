-- How many instances unknowns have.
use Rattle.std.proofs.Common.{◌≡◌, ◌∙◌, ℕ, zero, suc, ◌+◌, ◌<◌, ◌≤◌, List, [], ◌∷◌, ◌++◌, Some, None, length, map, take, slice_get, slice_index_or, refl, sym, ap, subst}
use Rattle.std.proofs.lemmas.List.{map_more, take_all}
use Rattle.lq_logic_predicates.specs.Formula.{Formula}
use Rattle.lq_solve_fixpoint.specs.Weakening.Index.{count_or_zero}

lengths_at : (lists : List (List Formula)) (u : ℕ) → length (slice_index_or lists u []) ≡ count_or_zero (slice_get (map length lists) u)
lengths_at [] zero = refl
lengths_at [] (suc u) = refl
lengths_at (l ∷ lists) zero = refl
lengths_at (l ∷ lists) (suc u) = lengths_at lists u

once : {X : Type 0} (x y : X) → Some x ≡ Some y → x ≡ y
once x y e = cc

-- the instances of an unknown that is there, or that isn't
pub list_is : (lists : List (List Formula)) (u : ℕ) (l : List Formula) → Some l ≡ slice_get lists u → slice_index_or lists u [] ≡ l
list_is [] u l e = absurd (cc)
list_is (x ∷ lists) zero l e = sym (once l x e)
list_is (x ∷ lists) (suc u) l e = list_is lists u l e

pub none_is : (lists : List (List Formula)) (u : ℕ) → None ≡ slice_get lists u → slice_index_or lists u [] ≡ []
none_is [] zero e = refl
none_is [] (suc u) e = refl
none_is (x ∷ lists) zero e = absurd (cc)
none_is (x ∷ lists) (suc u) e = none_is lists u e

-- one unknown more
pub counts_next : (lists : List (List Formula)) (at n : ℕ) (counts after : List ℕ) → at < length lists → counts ≡ map length (take at lists) → n ≡ length (slice_index_or lists at [])
    → after ≡ counts ++ n ∷ [] → after ≡ map length (take (at + 1) lists)
counts_next lists at n counts after w h e a =
    a ∙ ap (λ l. l ++ n ∷ []) h ∙ ap (λ m. map length (take at lists) ++ m ∷ []) e ∙ sym (map_more length lists at [] w)

pub counts_all : (lists : List (List Formula)) (at : ℕ) (counts : List ℕ) → length lists ≤ at → counts ≡ map length (take at lists)
    → (u : ℕ) → length (slice_index_or lists u []) ≡ count_or_zero (slice_get counts u)
counts_all lists at counts w h u =
    subst (λ l. length (slice_index_or lists u []) ≡ count_or_zero (slice_get l u)) (sym (h ∙ ap (map length) (take_all at lists w))) (lengths_at lists u)
