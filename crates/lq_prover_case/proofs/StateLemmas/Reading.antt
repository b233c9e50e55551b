-- The multipliers of an engine that were read so far.
use Rattle.std.proofs.Common.{◌≡◌, ℕ, zero, suc, ◌+◌, ◌≤◌, List, [], ◌∷◌, ◌++◌, Some, refl, sym, ap, subst, ◌∙◌, arith, length, take, slice_get}
use Rattle.std.proofs.lemmas.List.{take_all}
use Rattle.std.specs.Option.{IsNone}
use Rattle.lq_base_numbers.specs.Rationals.Rational.{ℚ}
use Rattle.lq_base_numbers.specs.Fractions.Value.{value_of}
use Rattle.lq_base_numbers.specs.declared.fractions.frac.Frac.{Frac}
use Rattle.lq_prover_proof_tree.specs.Trees.TreeView.{multiplier_views}

-- so many items and the next one
next : {X : Type 0} (xs : List X) (n : ℕ) (x : X) → slice_get xs n ≡ Some x → take (suc n) xs ≡ take n xs ++ x ∷ []
next [] n x e = cc
next (y ∷ xs) zero x e = let p : y ≡ x = cc in ap (λ z. z ∷ []) p
next (y ∷ xs) (suc n) x e = ap (λ l. y ∷ l) (next xs n x e)

pub take_next : {X : Type 0} (xs : List X) (n : ℕ) (x : X) → slice_get xs n ≡ Some x → take (n + 1) xs ≡ take n xs ++ x ∷ []
take_next xs n x e = let k : n + 1 ≡ suc n = omega arith in ap (λ j. take j xs) k ∙ next xs n x e

views-push : (ms : List (ℕ × Frac)) (m : ℕ × Frac) → multiplier_views (ms ++ m ∷ []) ≡ multiplier_views ms ++ (m.0, value_of m.1) ∷ []
views-push [] m = refl
views-push (x ∷ ms) m = ap (λ l. (x.0, value_of x.1) ∷ l) (views-push ms m)

length-push : (ms : List (ℕ × Frac)) (m : ℕ × Frac) → length (ms ++ m ∷ []) ≡ length ms + 1
length-push [] m = refl
length-push (x ∷ ms) m = let k = length-push ms m in omega arith

pub views_more : (old new : List (ℕ × Frac)) (all : List (ℕ × ℚ)) (m : ℕ × Frac) (n : ℕ) → n ≡ length old → new ≡ old ++ m ∷ [] → multiplier_views old ≡ take (length old) all
    → slice_get all n ≡ Some (m.0, value_of m.1) → multiplier_views new ≡ take (length new) all
views_more old new all m n e is h at =
    let there : slice_get all (length old) ≡ Some (m.0, value_of m.1) = subst (λ k. slice_get all k ≡ Some (m.0, value_of m.1)) e at in
    ap multiplier_views is ∙ views-push old m ∙ ap (λ l. l ++ (m.0, value_of m.1) ∷ []) h ∙ sym (take_next all (length old) (m.0, value_of m.1) there)
    ∙ ap (λ k. take k all) (sym (ap length is ∙ length-push old m))

none_past : {X : Type 0} (xs : List X) (n : ℕ) → IsNone (slice_get xs n) → length xs ≤ n
none_past [] n h = omega arith
none_past (x ∷ xs) zero h = absurd (cc)
none_past (x ∷ xs) (suc n) h = let k = none_past xs n h in omega arith

pub views_all : (old : List (ℕ × Frac)) (all : List (ℕ × ℚ)) (n : ℕ) → n ≡ length old → multiplier_views old ≡ take (length old) all → IsNone (slice_get all n)
    → multiplier_views old ≡ all
views_all old all n e h none = h ∙ take_all (length old) all (let k = none_past all n none in omega arith)
