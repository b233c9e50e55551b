-- What is free keeps to its bounds, through shifts and pivots; and what is free is known by its line.
use Rattle.std.proofs.Common.{◌≡◌, ◌≢◌, ℕ, ◌+◌, ◌<◌, inl, inr, arith, refl, sym, ap, subst, ◌∙◌, true, eq-eqb, eqb-true, List, [], ◌∷◌, Option, Some, None, slice_get, get_or, length, ◌≤◌}
use Rattle.lq_base_numbers.specs.Rationals.Rational.{ℚ}
use Rattle.lq_base_numbers.specs.declared.fractions.frac.Frac.{Frac}
use Rattle.lq_base_numbers.specs.Fractions.Value.{value_of}
use Rattle.lq_logic_rows.specs.Forms.{Parts}
use Rattle.lq_logic_rows.specs.Steps.{valuation_of}
use Rattle.lq_prover_simplex.specs.declared.line.Entry.{Entry}
use Rattle.lq_logic_rows.specs.declared.bound.Side.{Side}
use Rattle.lq_logic_rows.specs.declared.bound.Side.TheVariants.{Lower, Upper}
use Rattle.lq_prover_simplex.specs.declared.limits.Limit.{Limit}
use Rattle.lq_prover_simplex.specs.declared.limits.Broken.{Broken}
use Rattle.lq_prover_simplex.specs.Lines.{owns, factor_of, unit, IsLine}
use Rattle.lq_prover_simplex.specs.Systems.{System, line_at, IsFree, AreLines, IsSystem}
use Rattle.lq_prover_simplex.specs.Bounds.{Within, Limits, limit_at, bound_value, IsUncrossed, Keeps, Breaks}
use Rattle.lq_prover_simplex.specs.Configurations.{FreeKeep, Brings, IsAtLimit}
use Rattle.lq_prover_simplex.proofs.Combinations.{one_apart, eq_or, entry_is, unit_here, unit_elsewhere}
use Rattle.lq_prover_simplex.proofs.Limiting.{within_refl, beyond_not_within}
use Rattle.lq_prover_simplex.proofs.Systems.{entry_free}
use Rattle.lq_prover_simplex.proofs.Values.{last_or_before, value_there}

-- ---- bounds that aren't crossed
keeps_by : (side : Side) (x : ℚ) (o : Option Limit) → ((l : Limit) → o ≡ Some l → Within side x (bound_value l)) → Keeps side x o
keeps_by side x None h = tt
keeps_by side x (Some l) h = h l refl

same_limit : (o : Option Limit) (l m : Limit) → o ≡ Some l → o ≡ Some m → l ≡ m
same_limit o l m p q = let e : Some l ≡ Some m = sym p ∙ q in cc

at_side : (limits : Limits) (j : ℕ) (x : ℚ) (at side : Side) (l m : Limit) → IsUncrossed limits j → limit_at limits at j ≡ Some l → x ≡ bound_value l
    → limit_at limits side j ≡ Some m → Within side x (bound_value m)
at_side limits j x Lower Lower l m u p e q = subst (λ k. Within Lower x (bound_value k)) (same_limit _ l m p q) (subst (λ y. Within Lower y (bound_value l)) (sym e) (within_refl Lower (bound_value l)))
at_side limits j x Upper Upper l m u p e q = subst (λ k. Within Upper x (bound_value k)) (same_limit _ l m p q) (subst (λ y. Within Upper y (bound_value l)) (sym e) (within_refl Upper (bound_value l)))
at_side limits j x Lower Upper l m u p e q = subst (λ y. Within Upper y (bound_value m)) (sym e) (u l m p q)
at_side limits j x Upper Lower l m u p e q = subst (λ y. Within Lower y (bound_value m)) (sym e) (u m l q p)

-- what is at one bound keeps to both
pub at_keeps : (limits : Limits) (j : ℕ) (x : ℚ) → IsUncrossed limits j → IsAtLimit limits j x → (side : Side) → Keeps side x (limit_at limits side j)
at_keeps limits j x u at side = keeps_by side x (limit_at limits side j) (λ m q. at_side limits j x at.side side at.limit m u at.is at.at q)

pub keeps_limit : (side : Side) (x : ℚ) (o : Option Limit) (l : Limit) → Keeps side x o → o ≡ Some l → Within side x (bound_value l)
keeps_limit side x o l h e = let k = subst (λ p. Keeps side x p) e h in k

-- ---- what is free keeps to its bounds
abbrev pub KeepBelow : ℕ → Limits → System → Type 0
KeepBelow n limits s = (j : ℕ) → j < n → IsFree s.lines j → (side : Side) → Keeps side (valuation_of s.values j) (limit_at limits side j)

brought_keeps : (limits : Limits) (a b : System) (k : ℕ) (broken : Broken) (x : ℚ) (j : ℕ) → IsUncrossed limits k → broken.variable ≡ k → Breaks limits x broken
    → Brings a b k (bound_value broken.limit) → IsFree b.lines j
    → ((j ≢ k) → IsFree a.lines j → (side : Side) → Keeps side (valuation_of a.values j) (limit_at limits side j))
    → (side : Side) → Keeps side (valuation_of b.values j) (limit_at limits side j)
brought_keeps limits a b k broken x j u e breaks brings free before side =
    elim (brings j free) [
      | inl at ↦ at_keeps limits j (valuation_of b.values j) (subst (IsUncrossed limits) (sym at.0) u)
          (record { side = broken.side; limit = broken.limit; is = ap (limit_at limits broken.side) (at.0 ∙ sym e) ∙ breaks.limit; at = at.1 }) side
      | inr other ↦ subst (λ v. Keeps side v (limit_at limits side j)) (sym other.1.1) (before other.0 other.1.0 side)
    ]

pub below_step : (limits : Limits) (a b : System) (k : ℕ) (broken : Broken) (x : ℚ) → IsUncrossed limits k → broken.variable ≡ k → Breaks limits x broken
    → Brings a b k (bound_value broken.limit) → KeepBelow k limits a → KeepBelow (k + 1) limits b
below_step limits a b k broken x u e breaks brings before j l free =
    brought_keeps limits a b k broken x j u e breaks brings free
    (λ n f. elim (last_or_before j k l) [ inl h ↦ before j h f | inr h ↦ absurd (n h) ])

pub below_more : (limits : Limits) (a : System) (k : ℕ) → KeepBelow k limits a → (IsFree a.lines k → (side : Side) → Keeps side (valuation_of a.values k) (limit_at limits side k))
    → KeepBelow (k + 1) limits a
below_more limits a k before here j l free =
    elim (last_or_before j k l) [
      | inl h ↦ before j h free
      | inr h ↦ subst (λ m. (side : Side) → Keeps side (valuation_of a.values m) (limit_at limits side m)) (sym h) (here (subst (IsFree a.lines) h free))
    ]

pub keep_step : (limits : Limits) (a b : System) (k : ℕ) (broken : Broken) (x : ℚ) → IsUncrossed limits k → broken.variable ≡ k → Breaks limits x broken
    → Brings a b k (bound_value broken.limit) → b.forms ≡ a.forms → FreeKeep limits a → FreeKeep limits b
keep_step limits a b k broken x u e breaks brings same before j l free =
    brought_keeps limits a b k broken x j u e breaks brings free (λ n f. before j (subst (λ fs. j < length fs) same l) f)

-- what breaks a bound isn't free, so it doesn't stand in its own line
pub broken_apart : (limits : Limits) (s : System) (broken : Broken) (at : ℕ) (e : Entry) → AreLines s.forms s.lines → broken.variable < length s.forms → FreeKeep limits s
    → Breaks limits (valuation_of s.values broken.variable) broken → slice_get (line_at s.lines broken.variable) at ≡ Some e → e.variable ≢ broken.variable
broken_apart limits s broken at e lines inside keep breaks there same =
    let free : IsFree s.lines broken.variable = subst (IsFree s.lines) same (entry_free s.forms s.lines broken.variable at e lines there) in
    beyond_not_within broken.side (valuation_of s.values broken.variable) (bound_value broken.limit) breaks.beyond
    (keeps_limit broken.side (valuation_of s.values broken.variable) (limit_at limits broken.side broken.variable) broken.limit (keep broken.variable inside free broken.side) breaks.limit)

-- ---- a free variable by its line
own_line : (es : List Entry) (k : ℕ) → IsLine es → ((i : ℕ) → factor_of es i ≡ unit i k) → owns es k ≡ true
own_line [] k a h = absurd (one_apart (h k ∙ unit_here k))
own_line (e ∷ []) k a h =
    elim (eq_or e.variable k) [
      | inl q ↦ eq-eqb e.variable k q
      | inr n ↦ absurd (a.1 (sym (entry_is (e ∷ []) 0 0 e a refl) ∙ h e.variable ∙ unit_elsewhere e.variable k n))
    ]
own_line (e ∷ f ∷ es) k a h =
    elim (eq_or e.variable k) [
      | inl q ↦ absurd (a.2.1 (sym (entry_is (e ∷ f ∷ es) 0 1 f a refl) ∙ h f.variable ∙ unit_elsewhere f.variable k (λ r. let l = a.2.0 in absurd (omega arith))))
      | inr n ↦ absurd (a.1 (sym (entry_is (e ∷ f ∷ es) 0 0 e a refl) ∙ h e.variable ∙ unit_elsewhere e.variable k n))
    ]

owned_entry : (es : List Entry) (k : ℕ) → owns es k ≡ true → (e : Entry) × (slice_get es 0 ≡ Some e) × (e.variable ≡ k)
owned_entry [] k h = absurd (cc)
owned_entry (e ∷ []) k h = (e, refl, eqb-true e.variable k h)
owned_entry (e ∷ f ∷ es) k h = absurd (cc)

pub owns_free : (forms : List Parts) (lines : List (List Entry)) (k : ℕ) → AreLines forms lines → owns (line_at lines k) k ≡ true → IsFree lines k
owns_free forms lines k a h = let o = owned_entry (line_at lines k) k h in subst (IsFree lines) o.2 (entry_free forms lines k 0 o.0 a o.1)

pub free_owns : (forms : List Parts) (lines : List (List Entry)) (k : ℕ) → AreLines forms lines → IsFree lines k → owns (line_at lines k) k ≡ true
free_owns forms lines k a free = own_line (line_at lines k) k (a.line k) free.own

-- ---- a value that was read
pub value_read : (s : System) (values : List Frac) (k : ℕ) (f : Frac) → IsSystem s → values ≡ s.values → k < length s.forms → f ≡ get_or values k f → valuation_of s.values k ≡ value_of f
value_read s values k f i e h at =
    value_there s.values k f (let v = i.valued in omega arith) (at ∙ ap (λ xs. get_or xs k f) e)

pub below_free : (limits : Limits) (s : System) (k : ℕ) (x : ℚ) → valuation_of s.values k ≡ x → KeepBelow k limits s → ((side : Side) → Keeps side x (limit_at limits side k)) → KeepBelow (k + 1) limits s
below_free limits s k x e before here = below_more limits s k before (λ free side. subst (λ v. Keeps side v (limit_at limits side k)) (sym e) (here side))

pub below_bound : (limits : Limits) (s : System) (k : ℕ) → ¬ (IsFree s.lines k) → KeepBelow k limits s → KeepBelow (k + 1) limits s
below_bound limits s k n before = below_more limits s k before (λ free. absurd (n free))

pub keep_all : (limits : Limits) (s : System) (k : ℕ) → length s.forms ≤ k → KeepBelow k limits s → FreeKeep limits s
keep_all limits s k h before j l free = before j (omega arith) free
