-- What leaves, what enters and what stays: at one pivot, and along a chain.
use Rattle.std.proofs.Common.{◌≡◌, ℕ, zero, suc, ◌+◌, ◌<◌, ◌≤◌, ◌⊎◌, inl, inr, arith, refl, sym, ap, subst, ◌∙◌, true, false, List}
use Rattle.std.proofs.lemmas.Bool.{cases_eq, cases_lt}
use Rattle.lq_logic_rows.specs.Row.{Row}
use Rattle.lq_prover_pivots.specs.Pivots.Rows.{Variables, size, Breaks}
use Rattle.lq_prover_pivots.specs.Pivots.Configurations.{Configuration, Free, Basic}
use Rattle.lq_prover_pivots.specs.Pivots.Pivots.{Pivot, IsChain}
use Rattle.lq_prover_pivots.proofs.PivotsLemmas.Sharing.{free_or_basic}

pub not_both : (c : Configuration) (k : ℕ) → c.is_free k ≡ true → c.is_free k ≡ false → ⊥
not_both c k e f = absurd (let q : true ≡ false = sym e ∙ f in cc)

-- ---- one pivot
pub leaving_is : (vs : Variables) (rows : List Row) (c d : Configuration) (k : ℕ) (p : Pivot vs rows c d) → Basic vs c k → d.is_free k ≡ true → k ≡ p.leaving
leaving_is vs rows c d k p b f = by (cases_eq k p.leaving) (cases_eq k p.entering)
  where
    by : (k ≡ p.leaving) ⊎ (k ≡ p.leaving → ⊥) → (k ≡ p.entering) ⊎ (k ≡ p.entering → ⊥) → k ≡ p.leaving
    by (inl q) r = q
    by (inr n) (inl q) = absurd (not_both d k f (ap d.is_free q ∙ p.entered))
    by (inr n) (inr m) = absurd (not_both d k f (p.others k b.0 n m ∙ b.1))

pub entering_is : (vs : Variables) (rows : List Row) (c d : Configuration) (k : ℕ) (p : Pivot vs rows c d) → Free vs c k → d.is_free k ≡ false → k ≡ p.entering
entering_is vs rows c d k p f b = by (cases_eq k p.leaving) (cases_eq k p.entering)
  where
    by : (k ≡ p.leaving) ⊎ (k ≡ p.leaving → ⊥) → (k ≡ p.entering) ⊎ (k ≡ p.entering → ⊥) → k ≡ p.entering
    by r (inl q) = q
    by (inl q) (inr n) = absurd (not_both d k (ap d.is_free q ∙ p.left) b)
    by (inr m) (inr n) = absurd (not_both c k f.1 (sym (p.others k f.0 m n) ∙ b))

pub keeps_value : (vs : Variables) (rows : List Row) (c d : Configuration) (k : ℕ) (p : Pivot vs rows c d) → Free vs c k → d.is_free k ≡ true → d.value k ≡ c.value k
keeps_value vs rows c d k p f g = p.stays k f (λ q. not_both d k g (ap d.is_free q ∙ p.entered))

-- no variable below the one that leaves breaks a bound
pub none_below : (vs : Variables) (rows : List Row) (c d : Configuration) (k : ℕ) (p : Pivot vs rows c d) → k < size vs → k < p.leaving → ¬ Breaks vs rows k (c.value k)
none_below vs rows c d k p l h = elim (free_or_basic c k) [ inl f ↦ p.before k (l, f) | inr b ↦ p.least k h (l, b) ]

-- ---- chains
-- at this step the variable leaves the basis
abbrev pub LeavesAt : Variables → (ℕ → Configuration) → ℕ → ℕ → Type 0
LeavesAt vs chain m k = Basic vs (chain m) k × ((chain (suc m)).is_free k ≡ true)

-- or enters it
abbrev pub EntersAt : Variables → (ℕ → Configuration) → ℕ → ℕ → Type 0
EntersAt vs chain m k = Free vs (chain m) k × ((chain (suc m)).is_free k ≡ false)

-- a step from a on, and before b, at which it enters
pub record EntersIn (vs : Variables) (chain : ℕ → Configuration) (a b k : ℕ) : Type 0 where
  pub step : ℕ
  pub from : a ≤ step
  pub to : step < b
  pub enters : EntersAt vs chain step k

pub enters_or_stays : (vs : Variables) (chain : ℕ → Configuration) (a b k d : ℕ) → a + d ≡ b → Free vs (chain a) k → EntersIn vs chain a b k ⊎ Free vs (chain b) k
enters_or_stays vs chain a b k zero e f = inr (subst (λ m. Free vs (chain m) k) (omega arith) f)
enters_or_stays vs chain a b k (suc d) e f =
    let q : suc (a + d) ≡ b = omega arith in
    elim (enters_or_stays vs chain a (a + d) k d refl f) [
      | inl i ↦ inl (record { step = i.step; from = i.from; to = (let t = i.to in omega arith); enters = i.enters })
      | inr g ↦ elim (free_or_basic (chain b) k) [
        | inl h ↦ inr (f.0, h)
        | inr h ↦ inl (record { step = a + d; from = omega arith; to = omega arith; enters = (g, subst (λ m. (chain m).is_free k ≡ false) (sym q) h) })
      ]
    ]

abbrev pub NeverLeaves : Variables → (ℕ → Configuration) → ℕ → ℕ → ℕ → Type 0
NeverLeaves vs chain a b k = (m : ℕ) → a ≤ m → m < b → ¬ LeavesAt vs chain m k

-- what is free at b and hasn't left since a was free all the time, with the same value
pub was_free : (vs : Variables) (listed standing : List Row) (n : ℕ) (chain : ℕ → Configuration) (a b k d m : ℕ) → IsChain vs listed standing n chain → b ≤ n
    → NeverLeaves vs chain a b k → Free vs (chain b) k → a ≤ m → m + d ≡ b → Free vs (chain m) k × ((chain m).value k ≡ (chain b).value k)
was_free vs listed standing n chain a b k zero m ch l never f h e =
    let q : b ≡ m = omega arith in
    (subst (λ i. Free vs (chain i) k) q f, subst (λ i. (chain i).value k ≡ (chain b).value k) q refl)
was_free vs listed standing n chain a b k (suc d) m ch l never f h e =
    let later = was_free vs listed standing n chain a b k d (suc m) ch l never f (omega arith) (omega arith) in
    elim (free_or_basic (chain m) k) [
      | inl g ↦ ((f.0, g), sym (keeps_value vs standing (chain m) (chain (suc m)) k (ch.pivot m (omega arith)) (f.0, g) later.0.1) ∙ later.1)
      | inr g ↦ absurd (never m h (omega arith) ((f.0, g), later.0.1))
    ]

-- the greatest one that leaves at a step from a on, and before b
pub record Greatest (vs : Variables) (chain : ℕ → Configuration) (a b : ℕ) : Type 0 where
  pub it : ℕ
  pub step : ℕ
  pub from : a ≤ step
  pub to : step < b
  pub leaves : LeavesAt vs chain step it
  pub most : (m k : ℕ) → a ≤ m → m < b → LeavesAt vs chain m k → k ≤ it

pub greatest : (vs : Variables) (listed standing : List Row) (n : ℕ) (chain : ℕ → Configuration) (a b d : ℕ) → IsChain vs listed standing n chain → b ≤ n → a + suc d ≡ b
    → Greatest vs chain a b
greatest vs listed standing n chain a b zero ch l e =
    let p = ch.pivot a (omega arith) in
    record {
      it = p.leaving;
      step = a;
      from = omega arith;
      to = omega arith;
      leaves = (p.basic, p.left);
      most = λ m k h t w.
          let q : m ≡ a = omega arith in
          let v : LeavesAt vs chain a k = subst (λ i. LeavesAt vs chain i k) q w in
          let r : k ≡ p.leaving = leaving_is vs standing (chain a) (chain (suc a)) k p v.0 v.1 in
          omega arith;
    }
greatest vs listed standing n chain a b (suc d) ch l e = by (greatest vs listed standing n chain a (a + suc d) d ch (omega arith) refl) (ch.pivot (a + suc d) (omega arith))
  where
    last : ℕ
    last = a + suc d

    by : Greatest vs chain a (a + suc d) → Pivot vs standing (chain (a + suc d)) (chain (suc (a + suc d))) → Greatest vs chain a b
    by g p = elim (cases_lt g.it p.leaving) [
      | inl less ↦ record {
        it = p.leaving;
        step = a + suc d;
        from = omega arith;
        to = omega arith;
        leaves = (p.basic, p.left);
        most = λ m k h t w. elim (cases_lt m (a + suc d)) [
          | inl before ↦ let q = g.most m k h before w in omega arith
          | inr after ↦
              let q : m ≡ a + suc d = omega arith in
              let v : LeavesAt vs chain (a + suc d) k = subst (λ i. LeavesAt vs chain i k) q w in
              let r : k ≡ p.leaving = leaving_is vs standing (chain (a + suc d)) (chain (suc (a + suc d))) k p v.0 v.1 in
              omega arith
        ];
      }
      | inr more ↦ record {
        it = g.it;
        step = g.step;
        from = g.from;
        to = (let t = g.to in omega arith);
        leaves = g.leaves;
        most = λ m k h t w. elim (cases_lt m (a + suc d)) [
          | inl before ↦ g.most m k h before w
          | inr after ↦
              let q : m ≡ a + suc d = omega arith in
              let v : LeavesAt vs chain (a + suc d) k = subst (λ i. LeavesAt vs chain i k) q w in
              let r : k ≡ p.leaving = leaving_is vs standing (chain (a + suc d)) (chain (suc (a + suc d))) k p v.0 v.1 in
              omega arith
        ];
      }
    ]
