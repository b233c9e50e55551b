-- What is among a list, and what is taken out of a selection in turn.
use Rattle.std.proofs.Common.{◌≡◌, ◌⊎◌, inl, inr, ℕ, zero, suc, ◌+◌, ◌<◌, ◌≤◌, length, get_or, take, arith, Bool, true, false, List, [], ◌∷◌, ◌++◌, refl, sym, ap, subst}
use Rattle.std.proofs.Math.Seq.{take-suc}
use Rattle.lq_solve_fixpoint.specs.Weakening.Among.{IsAmong}
use Rattle.lq_solve_fixpoint.specs.Weakening.Chosen.{AgreeBut, AreWithout, IsWithout}

pub same_or_not : (a b : ℕ) → (a ≡ b) ⊎ (a ≡ b → ⊥)
same_or_not zero zero = inl refl
same_or_not zero (suc b) = inr (λ e. zero_suc b e)
  where
    zero_suc : (n : ℕ) → 0 ≡ suc n → ⊥
    zero_suc n e = omega (arith, e)
same_or_not (suc a) zero = inr (λ e. suc_zero a e)
  where
    suc_zero : (n : ℕ) → suc n ≡ 0 → ⊥
    suc_zero n e = omega (arith, e)
same_or_not (suc a) (suc b) = by (same_or_not a b)
  where
    by : (a ≡ b) ⊎ (a ≡ b → ⊥) → (suc a ≡ suc b) ⊎ (suc a ≡ suc b → ⊥)
    by (inl e) = inl (ap suc e)
    by (inr n) = inr (λ e. n (omega (arith, e)))

pub among_or_not : (ks : List ℕ) (k : ℕ) → IsAmong ks k ⊎ (IsAmong ks k → ⊥)
among_or_not [] k = inr (λ h. h)
among_or_not (x ∷ xs) k = by (same_or_not x k) (among_or_not xs k)
  where
    neither : (x ≡ k → ⊥) → (IsAmong xs k → ⊥) → (x ≡ k) ⊎ IsAmong xs k → ⊥
    neither n m (inl e) = n e
    neither n m (inr h) = m h

    by : (x ≡ k) ⊎ (x ≡ k → ⊥) → IsAmong xs k ⊎ (IsAmong xs k → ⊥) → IsAmong (x ∷ xs) k ⊎ (IsAmong (x ∷ xs) k → ⊥)
    by (inl e) m = inl (inl e)
    by (inr n) (inl h) = inl (inr h)
    by (inr n) (inr m) = inr (neither n m)

pub among_before : {X : Type 0} (xs ys : List X) (x : X) → IsAmong xs x → IsAmong (xs ++ ys) x
among_before [] ys x h = absurd h
among_before (y ∷ xs) ys x (inl e) = inl e
among_before (y ∷ xs) ys x (inr h) = inr (among_before xs ys x h)

pub among_last : {X : Type 0} (xs : List X) (x : X) → IsAmong (xs ++ x ∷ []) x
among_last [] x = inl refl
among_last (y ∷ xs) x = inr (among_last xs x)

pub among_split : {X : Type 0} (xs : List X) (y x : X) → IsAmong (xs ++ y ∷ []) x → IsAmong xs x ⊎ (y ≡ x)
among_split [] y x (inl e) = inr e
among_split [] y x (inr h) = absurd h
among_split (z ∷ xs) y x (inl e) = inl (inl e)
among_split (z ∷ xs) y x (inr h) = by (among_split xs y x h)
  where
    by : IsAmong xs x ⊎ (y ≡ x) → ((z ≡ x) ⊎ IsAmong xs x) ⊎ (y ≡ x)
    by (inl m) = inl (inr m)
    by (inr e) = inr e

pub next_taken : {X : Type 0} (xs : List X) (i : ℕ) (d : X) → i < length xs → take (i + 1) xs ≡ take i xs ++ get_or xs i d ∷ []
next_taken xs i d h = let e : suc i ≡ i + 1 = omega arith in subst (λ m. take m xs ≡ take i xs ++ get_or xs i d ∷ []) e (take-suc xs i d h)

pub without_next : (u : ℕ) (ks : List ℕ) (n : ℕ) (before mid after : ℕ → ℕ → Bool) → AreWithout u ks before mid → IsWithout u n mid after → AreWithout u (ks ++ n ∷ []) before after
without_next u ks n before mid after a b = record { here = here; others = others }
  where
    here : (k : ℕ) → IsAmong (ks ++ n ∷ []) k → after u k ≡ false
    here k h = by (same_or_not k n) (among_split ks n k h)
      where
        by : (k ≡ n) ⊎ (k ≡ n → ⊥) → IsAmong ks k ⊎ (n ≡ k) → after u k ≡ false
        by (inl e) m = subst (λ j. after u j ≡ false) (sym e) b.here
        by (inr d) (inl m) = let e : after u k ≡ mid u k = b.others u k (λ _. d) in let f : mid u k ≡ false = a.here k m in cc
        by (inr d) (inr e) = absurd (d (sym e))

    others : (v k : ℕ) → (v ≡ u → IsAmong (ks ++ n ∷ []) k → ⊥) → after v k ≡ before v k
    others v k h =
        let e : after v k ≡ mid v k = b.others v k (λ i j. h i (subst (IsAmong (ks ++ n ∷ [])) (sym j) (among_last ks n))) in
        let f : mid v k ≡ before v k = a.others v k (λ i m. h i (among_before ks (n ∷ []) k m)) in
        cc

-- where one that was chosen is taken out, there are fewer
pub falls_next : (u : ℕ) (ks : List ℕ) (n : ℕ) (before mid : ℕ → ℕ → Bool) (x y z : ℕ) → AreWithout u ks before mid → y ≤ x → z ≤ y
    → ((k : ℕ) → IsAmong ks k → before u k ≡ true → y < x) → (mid u n ≡ true → z < y)
    → (k : ℕ) → IsAmong (ks ++ n ∷ []) k → before u k ≡ true → z < x
falls_next u ks n before mid x y z a le ge falls last k m c = by (among_split ks n k m) (among_or_not ks n)
  where
    early : y < x → z < x
    early h = omega (arith, h, ge)

    late : z < y → z < x
    late h = omega (arith, h, le)

    by : IsAmong ks k ⊎ (n ≡ k) → IsAmong ks n ⊎ (IsAmong ks n → ⊥) → z < x
    by (inl h) o = early (falls k h c)
    by (inr e) (inl h) = early (falls n h (subst (λ j. before u j ≡ true) (sym e) c))
    by (inr e) (inr h) =
        let f : mid u n ≡ before u n = a.others u n (λ _. h) in
        let g : before u n ≡ true = subst (λ j. before u j ≡ true) (sym e) c in
        late (last (cc))

-- of every other unknown nothing is taken out
pub agree_but : (u : ℕ) (ks : List ℕ) (before after : ℕ → ℕ → Bool) → AreWithout u ks before after → AgreeBut u before after
agree_but u ks before after w = λ v n k. sym (w.others v k (λ e _. n e))
