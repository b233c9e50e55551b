-- The numbers of what holds, found one after another.
use Rattle.std.proofs.Common.{◌≡◌, ◌⊎◌, inl, inr, ℕ, zero, suc, ◌+◌, ◌<◌, ◌≤◌, Bool, true, List, [], ◌∷◌, ◌++◌, length, refl, sym, subst, arith}
use Rattle.std.proofs.lemmas.Option.{slice_get_within}
use Rattle.lq_refined_types.specs.Parts.Refuting.{IsRefuted}
use Rattle.lq_refined_types.specs.Parts.Substitution.{Subst}
use Rattle.lq_logic_predicates.specs.Formula.{Formula}
use Rattle.lq_logic_predicates.specs.Points.{Point}
use Rattle.lq_solve_fixpoint.specs.Weakening.Among.{IsAmong}
use Rattle.lq_solve_fixpoint.specs.Weakening.Judging.{AreRefuted}

-- of the numbers below n, those of which P holds
pub record AreThose (P : ℕ → Type 0) (n : ℕ) (numbers : List ℕ) : Type 0 where
  pub each : (k : ℕ) → IsAmong numbers k → P k
  pub all : (k : ℕ) → k < n → P k → IsAmong numbers k

pub those_none : (P : ℕ → Type 0) → AreThose P 0 []
those_none P = record { each = λ k a. absurd a; all = λ k w h. absurd (omega (arith, w)) }

among_left : (xs : List ℕ) (y k : ℕ) → IsAmong xs k → IsAmong (xs ++ y ∷ []) k
among_left [] y k a = absurd a
among_left (x ∷ xs) y k (inl e) = inl e
among_left (x ∷ xs) y k (inr a) = inr (among_left xs y k a)

among_last : (xs : List ℕ) (y : ℕ) → IsAmong (xs ++ y ∷ []) y
among_last [] y = inl refl
among_last (x ∷ xs) y = inr (among_last xs y)

among_either : (xs : List ℕ) (y k : ℕ) → IsAmong (xs ++ y ∷ []) k → IsAmong xs k ⊎ (y ≡ k)
among_either [] y k (inl e) = inr e
among_either [] y k (inr a) = absurd a
among_either (x ∷ xs) y k (inl e) = inl (inl e)
among_either (x ∷ xs) y k (inr a) = elim (among_either xs y k a) [ inl b ↦ inl (inr b) | inr e ↦ inr e ]

pub last_or : (n k : ℕ) → k < n + 1 → (k < n) ⊎ (n ≡ k)
last_or zero zero w = inr refl
last_or zero (suc k) w = absurd (omega (arith, w))
last_or (suc n) zero w = inl (omega arith)
last_or (suc n) (suc k) w = elim (last_or n k (omega (arith, w))) [ inl v ↦ inl (omega (arith, v)) | inr e ↦ inr (omega (arith, e)) ]

pub those_added : (P : ℕ → Type 0) (n : ℕ) (numbers : List ℕ) → AreThose P n numbers → P n → AreThose P (n + 1) (numbers ++ n ∷ [])
those_added P n numbers h p = record {
  each = λ k a. elim (among_either numbers n k a) [ inl b ↦ h.each k b | inr e ↦ subst P e p ];
  all = λ k w q. elim (last_or n k w) [ inl v ↦ among_left numbers n k (h.all k v q) | inr e ↦ subst (IsAmong (numbers ++ n ∷ [])) e (among_last numbers n) ];
}

pub those_kept : (P : ℕ → Type 0) (n : ℕ) (numbers : List ℕ) → AreThose P n numbers → (P n → ⊥) → AreThose P (n + 1) numbers
those_kept P n numbers h p = record {
  each = h.each;
  all = λ k w q. elim (last_or n k w) [ inl v ↦ h.all k v q | inr e ↦ absurd (p (subst P (sym e) q)) ];
}

abbrev pub Goes : (ℕ → Bool) → Point → Subst → List Formula → ℕ → Type 0
Goes chosen p σ instances k = (chosen k ≡ true) × IsRefuted p σ instances k

pub those_refuted : (chosen : ℕ → Bool) (p : Point) (σ : Subst) (instances : List Formula) (n : ℕ) (numbers : List ℕ) → length instances ≤ n
    → AreThose (Goes chosen p σ instances) n numbers → AreRefuted chosen p σ instances numbers
those_refuted chosen p σ instances n numbers w h = record {
  chosen_each = λ k a. (h.each k a).0;
  each = λ k a. (h.each k a).1;
  all = λ k c r. h.all k (let v = slice_get_within instances k r.instance r.here in omega (arith, v, w)) (c, r);
}

-- an unknown that isn't there has no instances
pub none_refuted : (chosen : ℕ → Bool) (p : Point) (σ : Subst) → AreRefuted chosen p σ [] []
none_refuted chosen p σ = those_refuted chosen p σ [] 0 [] (omega arith) (those_none (Goes chosen p σ []))
