-- The tightest bounds, row by row.
use Rattle.std.proofs.Common.{◌≡◌, ◌≢◌, ℕ, zero, suc, ◌<◌, ◌⊎◌, inl, inr, refl, sym, ap, subst, ◌∙◌, Bool, true, false, not, List, [], ◌∷◌, ◌++◌, Option, Some, None, IfSome, length, slice_get}
use Rattle.std.proofs.lemmas.Option.{slice_get_within}
use Rattle.lq_base_numbers.specs.Rationals.Rational.{ℚ}
use Rattle.lq_base_numbers.specs.Rationals.RationalOrder.{≤ℚ_refl}
use Rattle.lq_base_numbers.specs.Rationals.OrderLaws.{≤ℚ_trans, ≤ℚ_from_below}
use Rattle.lq_base_numbers.specs.Fractions.Value.{value_of}
use Rattle.lq_logic_rows.specs.Row.{Valuation}
use Rattle.lq_prover_simplex.specs.declared.line.Entry.{Entry}
use Rattle.lq_prover_simplex.specs.declared.row.Bound.{Bound}
use Rattle.lq_prover_simplex.specs.declared.row.Standing.{Standing}
use Rattle.lq_logic_rows.specs.declared.bound.Side.{Side}
use Rattle.lq_logic_rows.specs.declared.bound.Side.TheVariants.{Lower, Upper}
use Rattle.lq_prover_simplex.specs.declared.limits.Limit.{Limit}
use Rattle.lq_prover_simplex.specs.declared.limits.Interval.{Interval}
use Rattle.lq_prover_simplex.specs.Lines.{VariablesBelow}
use Rattle.lq_prover_simplex.specs.Bounds.{Within, Beyond, IsOn, Limits, limit_of, bound_value, IsLimit, Covers, IsAdmitted, IsNarrowed, AreTightest, IsBlocked, AllBlocked}
use Rattle.lq_prover_simplex.proofs.Values.{get_push_old, get_push_here}
use Rattle.lq_prover_simplex.proofs.Combinations.{eq_or}

pub within_refl : (side : Side) (v : ℚ) → Within side v v
within_refl Lower v = ≤ℚ_refl v
within_refl Upper v = ≤ℚ_refl v

-- a bound that breaks a limit is tighter
pub within_from_beyond : (side : Side) (a b : ℚ) → Beyond side a b → Within side b a
within_from_beyond Lower a b h = ≤ℚ_from_below a b h
within_from_beyond Upper a b h = ≤ℚ_from_below b a h

pub beyond_not_within : (side : Side) (a b : ℚ) → Beyond side a b → ¬ Within side a b
beyond_not_within Lower a b h k = h k
beyond_not_within Upper a b h k = h k

pub within_trans : (side : Side) (a b c : ℚ) → Within side a b → Within side b c → Within side a c
within_trans Lower a b c h k = ≤ℚ_trans c b a k h
within_trans Upper a b c h k = ≤ℚ_trans a b c h k

-- ---- one more row
given_more : (rows : List Standing) (s : Standing) (side : Side) (k : ℕ) (l : Limit) → IsLimit rows side k l → IsLimit (rows ++ s ∷ []) side k l
given_more rows s side k l g = record {
  standing = g.standing;
  stands = get_push_old rows s l.row (slice_get_within rows l.row g.standing g.stands) ∙ g.stands;
  gives = g.gives;
  bounds = g.bounds;
  on = g.on;
}

given_some : (rows : List Standing) (side : Side) (k : ℕ) (o : Option Limit) → ((l : Limit) → o ≡ Some l → IsLimit rows side k l) → IfSome o (IsLimit rows side k)
given_some rows side k None h = tt
given_some rows side k (Some l) h = h l refl

given_at : (rows : List Standing) (side : Side) (k : ℕ) (o : Option Limit) (l : Limit) → IfSome o (IsLimit rows side k) → o ≡ Some l → IsLimit rows side k l
given_at rows side k o l g e = let h = subst (λ p. IfSome p (IsLimit rows side k)) e g in h

data Which (rows : List Standing) (s : Standing) (j : ℕ) (t : Standing) : Type 0 where
  before : slice_get rows j ≡ Some t → Which rows s j t
  here : s ≡ t → j ≡ length rows → Which rows s j t

which : (rows : List Standing) (s : Standing) (j : ℕ) (t : Standing) → slice_get (rows ++ s ∷ []) j ≡ Some t → Which rows s j t
which [] s zero t h = here (cc) refl
which [] s (suc j) t h = absurd (cc)
which (r ∷ rows) s zero t h = before h
which (r ∷ rows) s (suc j) t h = elim (which rows s j t h) [ before e ↦ before e | here e f ↦ here e (let g : suc j ≡ suc (length rows) = ap suc f in g) ]

pub tightest_skip : (rows : List Standing) (s : Standing) (f : ℕ → Interval) → AreTightest rows f → s.bound ≡ None → AreTightest (rows ++ s ∷ []) f
tightest_skip rows s f a n = record {
  given = λ side k. given_some (rows ++ s ∷ []) side k (limit_of (f k) side) (λ l e. given_more rows s side k l (given_at rows side k (limit_of (f k) side) l (a.given side k) e));
  tight = λ side j t b h g on. elim (which rows s j t h) [
    | before e ↦ a.tight side j t b e g on
    | here e m ↦ absurd (let q : None ≡ Some b = sym n ∙ ap (λ (r : Standing). r.bound) e ∙ g in cc)
  ];
}

-- the same intervals
pub tightest_same : (rows : List Standing) (f g : ℕ → Interval) → ((k : ℕ) → g k ≡ f k) → AreTightest rows f → AreTightest rows g
tightest_same rows f g e a = record {
  given = λ side k. subst (λ i. IfSome (limit_of i side) (IsLimit rows side k)) (sym (e k)) (a.given side k);
  tight = λ side j s b h t on. subst (λ i. Covers side (limit_of i side) (value_of b.value)) (sym (e b.variable)) (a.tight side j s b h t on);
}

-- another interval of one variable
pub tightest_step : (rows : List Standing) (s : Standing) (b : Bound) (f g : ℕ → Interval) → AreTightest rows f → s.bound ≡ Some b → IsNarrowed (f b.variable) (length rows) s.row.equal b (g b.variable)
    → ((k : ℕ) → k ≢ b.variable → g k ≡ f k) → AreTightest (rows ++ s ∷ []) g
tightest_step rows s b f g a e narrowed others = record {
  given = λ side k. given_some (rows ++ s ∷ []) side k (limit_of (g k) side) (λ l q. given side k l q (eq_or k b.variable));
  tight = tight;
}
  where
    new_limit : (side : Side) (l : Limit) → l ≡ record { row = length rows; bound = b } → IsOn side s.row.equal b.turned → IsLimit (rows ++ s ∷ []) side b.variable l
    new_limit side l q on = subst (IsLimit (rows ++ s ∷ []) side b.variable) (sym q) (record { standing = s; stands = get_push_here rows s; gives = e; bounds = refl; on = on })

    given : (side : Side) (k : ℕ) (l : Limit) → limit_of (g k) side ≡ Some l → (k ≡ b.variable) ⊎ (k ≢ b.variable) → IsLimit (rows ++ s ∷ []) side k l
    given side k l q (inr n) = given_more rows s side k l (given_at rows side k (limit_of (f k) side) l (a.given side k) (ap (λ i. limit_of i side) (sym (others k n)) ∙ q))
    given side k l q (inl p) =
        subst (λ m. IsLimit (rows ++ s ∷ []) side m l) (sym p)
        (elim ((narrowed side).given l (ap (λ m. limit_of (g m) side) (sym p) ∙ q)) [
          | inl old ↦ given_more rows s side b.variable l (given_at rows side b.variable (limit_of (f b.variable) side) l (a.given side b.variable) old)
          | inr new ↦ new_limit side l new.0 new.1
        ])

    covers : (side : Side) (c : Bound) → Covers side (limit_of (f c.variable) side) (value_of c.value) → (c.variable ≡ b.variable) ⊎ (c.variable ≢ b.variable) → Covers side (limit_of (g c.variable) side) (value_of c.value)
    covers side c k (inl p) =
        subst (λ m. Covers side (limit_of (g m) side) (value_of c.value)) (sym p)
        ((narrowed side).kept (value_of c.value) (subst (λ m. Covers side (limit_of (f m) side) (value_of c.value)) p k))
    covers side c k (inr n) = subst (λ i. Covers side (limit_of i side) (value_of c.value)) (sym (others c.variable n)) k

    covers_new : (side : Side) (c : Bound) → b ≡ c → IsOn side s.row.equal c.turned → Covers side (limit_of (g c.variable) side) (value_of c.value)
    covers_new side c q on =
        subst (λ (d : Bound). Covers side (limit_of (g d.variable) side) (value_of d.value)) q
        ((narrowed side).covers (subst (λ (d : Bound). IsOn side s.row.equal d.turned) (sym q) on))

    tight : (side : Side) (j : ℕ) (t : Standing) (c : Bound) → slice_get (rows ++ s ∷ []) j ≡ Some t → t.bound ≡ Some c → IsOn side t.row.equal c.turned
        → Covers side (limit_of (g c.variable) side) (value_of c.value)
    tight side j t c q h on =
        elim (which rows s j t q) [
          | before r ↦ covers side c (a.tight side j t c r h on) (eq_or c.variable b.variable)
          | here r m ↦ covers_new side c (let w : Some b ≡ Some c = sym e ∙ ap (λ (r : Standing). r.bound) r ∙ h in cc) (subst (λ (r : Standing). IsOn side r.row.equal c.turned) (sym r) on)
        ]

-- ---- entries
pub variables_below : (n : ℕ) (line : List Entry) (i : ℕ) (e : Entry) → VariablesBelow n line → slice_get line i ≡ Some e → e.variable < n
variables_below n [] i e b h = absurd (cc)
variables_below n (f ∷ line) zero e b h = subst (λ (g : Entry). g.variable < n) (let q : f ≡ e = cc in q) b.0
variables_below n (f ∷ line) (suc i) e b h = variables_below n line i e b.1 h

pub blocked_push : (limits : Limits) (side : Side) (x : Valuation) (line : List Entry) (e : Entry) → AllBlocked limits side x line → IsBlocked limits side x e → AllBlocked limits side x (line ++ e ∷ [])
blocked_push limits side x [] e a b = (b, tt)
blocked_push limits side x (f ∷ line) e a b = (a.0, blocked_push limits side x line e a.1 b)

pub blocked_at : (limits : Limits) (side : Side) (x : Valuation) (line : List Entry) (i : ℕ) (e : Entry) → AllBlocked limits side x line → slice_get line i ≡ Some e → IsBlocked limits side x e
blocked_at limits side x [] i e a h = absurd (cc)
blocked_at limits side x (f ∷ line) zero e a h = subst (IsBlocked limits side x) (let q : f ≡ e = cc in q) a.0
blocked_at limits side x (f ∷ line) (suc i) e a h = blocked_at limits side x line i e a.1 h

pub not_false : (b : Bool) → not b ≡ false → b ≡ true
not_false true h = refl
not_false false h = ap not h

pub not_true : (b : Bool) → not b ≡ true → b ≡ false
not_true true h = sym h
not_true false h = sym (ap not h)

-- ---- a bound that comes
pub admit_first : (side : Side) (row : ℕ) (equal : Bool) (b : Bound) → IsOn side equal b.turned → IsAdmitted side None row equal b (Some (record { row = row; bound = b }))
admit_first side row equal b on = record {
  given = λ l e. inr (let q : record { row = row; bound = b } ≡ l = cc in sym q, on);
  covers = λ h. within_refl side (value_of b.value);
  kept = λ v h. absurd h;
}

pub admit_tighter : (side : Side) (l : Limit) (row : ℕ) (equal : Bool) (b : Bound) → IsOn side equal b.turned → Beyond side (bound_value l) (value_of b.value)
    → IsAdmitted side (Some l) row equal b (Some (record { row = row; bound = b }))
admit_tighter side l row equal b on h = record {
  given = λ m e. inr (let q : record { row = row; bound = b } ≡ m = cc in sym q, on);
  covers = λ k. within_refl side (value_of b.value);
  kept = λ v k. within_trans side (value_of b.value) (bound_value l) v (within_from_beyond side (bound_value l) (value_of b.value) h) k;
}
