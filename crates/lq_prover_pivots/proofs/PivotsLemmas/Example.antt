-- The example is a chain.
use Rattle.std.proofs.Common.{◌≡◌, ℕ, zero, suc, pos, negsuc, ◌<◌, ◌≤◌, ◌⊎◌, inl, inr, arith, refl, sym, ap, subst, ◌∙◌, true, [], ◌∷◌, ℤ, ◌*ℤ◌}
use Rattle.std.proofs.lemmas.Int.{ints}
use Rattle.lq_base_numbers.specs.Rationals.Rational.{ℚ, whole, ◌*ℚ◌, ◌-ℚ◌}
use Rattle.lq_base_numbers.specs.Rationals.RationalOrder.{≤ℚ_refl}
use Rattle.lq_base_numbers.specs.Rationals.Whole.{whole_once, whole_below}
use Rattle.lq_base_numbers.specs.Rationals.Solver.{var, con, ◌⊕◌, ◌⊖◌, ◌⊗◌, solve}
use Rattle.lq_logic_rows.specs.Forms.{times}
use Rattle.lq_logic_rows.specs.declared.bound.Side.{Side}
use Rattle.lq_logic_rows.specs.declared.bound.Side.TheVariants.{Lower, Upper}
use Rattle.lq_logic_rows.specs.Bounds.{Beyond, BoundsOn, Bounds}
use Rattle.lq_prover_pivots.specs.Pivots.Rows.{form, Gives, Breaks}
use Rattle.lq_prover_pivots.specs.Pivots.Configurations.{Free, Basic, IsCombination, IsConfiguration}
use Rattle.lq_prover_pivots.specs.Pivots.Pivots.{Pivot, IsChain}
use Rattle.lq_prover_pivots.specs.Pivots.Example.{variables, row, rows, before, after, chain}

-- ---- the row bounds the form alone, from below and by 1
gives : Gives variables rows Lower 2 (whole (pos 1))
gives = record {
  row = row;
  there = (0, omega arith, refl);
  inside = omega arith;
  bounds = record {
    multiple = record { factor = negsuc 0; some = λ e. absurd (cc); is = refl };
    on = inr (omega (arith, ints));
    is = solve [] (con (negsuc 0) ⊗ con (pos 1)) (con (pos 0) ⊖ con (pos 1)) refl;
  };
}

record IsIt (side : Side) (k : ℕ) (x : ℚ) : Type 0 where
  side_is : side ≡ Lower
  variable_is : k ≡ 2
  value_is : x ≡ whole (pos 1)

one_factor : (k : ℕ) (f : ℤ) → k < 3 → row.parts ≡ times f (form variables k) → (k ≡ 2) × (f ≡ negsuc 0)
one_factor zero f l e = absurd (cc)
one_factor (suc zero) f l e = absurd (cc)
one_factor (suc (suc zero)) f l e =
    let h : (0, negsuc 0) ≡ (0, f *ℤ pos 1) = cc in
    let q : negsuc 0 ≡ f *ℤ pos 1 = ap (λ (p : ℕ × ℤ). p.1) h in
    let r : f ≡ negsuc 0 = omega (arith, ints, q) in
    (refl, r)
one_factor (suc (suc (suc k))) f l e = absurd (omega arith)

bounds_it : (side : Side) (k : ℕ) (x : ℚ) → k < 3 → Bounds (form variables k) row side x → IsIt side k x
bounds_it side k x l b =
    let q = one_factor k b.multiple.factor l b.multiple.is in
    record {
      side_is = by side b.on;
      variable_is = q.0;
      value_is =
          solve (x ∷ []) (var 0) (con (pos 0) ⊖ con (negsuc 0) ⊗ var 0) refl
          ∙ ap (λ t. whole (pos 0) -ℚ t) (ap (λ f. whole f *ℚ x) (sym q.1) ∙ b.is)
          ∙ solve [] (con (pos 0) ⊖ (con (pos 0) ⊖ con (pos 1))) (con (pos 1)) refl;
    }
  where
    by : (side : Side) → (row.equal ≡ true) ⊎ BoundsOn side b.multiple.factor → side ≡ Lower
    by Lower on = refl
    by Upper (inl e) = absurd (cc)
    by Upper (inr above) = let q = one_factor k b.multiple.factor l b.multiple.is in let r : b.multiple.factor ≡ negsuc 0 = q.1 in absurd (omega (arith, ints))

is_it : (side : Side) (k : ℕ) (x : ℚ) → Gives variables rows side k x → IsIt side k x
is_it side k x g = bounds_it side k x g.inside (subst (λ r. Bounds (form variables k) r side x) (by g.there.0 g.there.1 g.there.2) g.bounds)
  where
    by : (i : ℕ) → i < 1 → Rattle.std.specs.Prelude.slice_index_or rows i g.row ≡ g.row → g.row ≡ row
    by zero l e = sym e
    by (suc i) l e = absurd (omega arith)

zero_unbounded : (side : Side) (k : ℕ) → Gives variables rows side k (whole (pos 0)) → ⊥
zero_unbounded side k g = let q : pos 0 ≡ pos 1 = whole_once (pos 0) (pos 1) (is_it side k (whole (pos 0)) g).value_is in absurd (cc)

abbrev breaks : Breaks variables rows 2 (whole (pos 0))
breaks = record { side = Lower; bound = whole (pos 1); given = gives; beyond = whole_below (pos 0) (pos 1) (omega (arith, ints)) }

small_keep : (k : ℕ) (x : ℚ) → k < 2 → Breaks variables rows k x → ⊥
small_keep k x l b = let q = (is_it b.side k b.bound b.given).variable_is in absurd (omega arith)

one_keeps : (k : ℕ) → Breaks variables rows k (whole (pos 1)) → ⊥
one_keeps k b = by b.side (is_it b.side k b.bound b.given) b.beyond
  where
    by : (side : Side) → IsIt side k b.bound → Beyond side (whole (pos 1)) b.bound → ⊥
    by Lower i h = h (subst (λ x. Rattle.lq_base_numbers.specs.Rationals.RationalOrder.◌≤ℚ◌ x (whole (pos 1))) (sym i.value_is) (≤ℚ_refl (whole (pos 1))))
    by Upper i h = absurd (let e : Upper ≡ Lower = i.side_is in cc)

-- ---- the two configurations
abbrev point : ℚ → ℚ → ℕ → ℚ
point x y zero = x
point x y (suc k) = y

combined_before : (k : ℕ) → Basic variables before k → IsCombination variables before k (before.entry k)
combined_before zero b = absurd (let e = b.1 in cc)
combined_before (suc zero) b = absurd (let e = b.1 in cc)
combined_before (suc (suc zero)) b = record {
  always = λ v.
      let o = con (pos 1) in let z = con (pos 0) in let x = var 0 in let y = var 1 in
      solve (v 0 ∷ v 1 ∷ []) (o ⊗ x ⊕ (o ⊗ y ⊕ z)) (z ⊕ o ⊗ (o ⊗ x ⊕ z) ⊕ o ⊗ (o ⊗ y ⊕ z) ⊕ z) refl;
}
combined_before (suc (suc (suc k))) b = absurd (let l = b.0 in omega arith)

once_before : (k : ℕ) (a : ℕ → ℚ) → Basic variables before k → IsCombination variables before k a → (j : ℕ) → Free variables before j → a j ≡ before.entry k j
once_before zero a b h j f = absurd (let e = b.1 in cc)
once_before (suc zero) a b h j f = absurd (let e = b.1 in cc)
once_before (suc (suc (suc k))) a b h j f = absurd (let l = b.0 in omega arith)
once_before (suc (suc zero)) a b h zero f =
    let o = con (pos 1) in let z = con (pos 0) in
    solve (a 0 ∷ a 1 ∷ []) (var 0) (z ⊕ var 0 ⊗ (o ⊗ o ⊕ z) ⊕ var 1 ⊗ (o ⊗ z ⊕ z) ⊕ z) refl
    ∙ sym (h.always (point (whole (pos 1)) (whole (pos 0)))) ∙ solve [] (o ⊗ o ⊕ (o ⊗ z ⊕ z)) o refl
once_before (suc (suc zero)) a b h (suc zero) f =
    let o = con (pos 1) in let z = con (pos 0) in
    solve (a 0 ∷ a 1 ∷ []) (var 1) (z ⊕ var 0 ⊗ (o ⊗ z ⊕ z) ⊕ var 1 ⊗ (o ⊗ o ⊕ z) ⊕ z) refl
    ∙ sym (h.always (point (whole (pos 0)) (whole (pos 1)))) ∙ solve [] (o ⊗ z ⊕ (o ⊗ o ⊕ z)) o refl
once_before (suc (suc zero)) a b h (suc (suc j)) f = absurd (let e = f.1 in cc)

valued_before : (k : ℕ) → Basic variables before k → before.value k ≡ Rattle.lq_prover_pivots.specs.Pivots.Ranges.combine 3 before.is_free (before.entry k) before.value
valued_before k b = let o = con (pos 1) in let z = con (pos 0) in solve [] z (z ⊕ o ⊗ z ⊕ o ⊗ z ⊕ z) refl

is_before : IsConfiguration variables rows before
is_before = record { count = refl; combined = combined_before; once = once_before; rests = λ j f. inl refl; valued = valued_before }

combined_after : (k : ℕ) → Basic variables after k → IsCombination variables after k (after.entry k)
combined_after zero b = record {
  always = λ v.
      let o = con (pos 1) in let z = con (pos 0) in let m = con (negsuc 0) in let x = var 0 in let y = var 1 in
      solve (v 0 ∷ v 1 ∷ []) (o ⊗ x ⊕ z) (z ⊕ z ⊕ m ⊗ (o ⊗ y ⊕ z) ⊕ o ⊗ (o ⊗ x ⊕ (o ⊗ y ⊕ z))) refl;
}
combined_after (suc zero) b = absurd (let e = b.1 in cc)
combined_after (suc (suc k)) b = absurd (let e = b.1 in cc)

once_after : (k : ℕ) (a : ℕ → ℚ) → Basic variables after k → IsCombination variables after k a → (j : ℕ) → Free variables after j → a j ≡ after.entry k j
once_after (suc zero) a b h j f = absurd (let e = b.1 in cc)
once_after (suc (suc k)) a b h j f = absurd (let e = b.1 in cc)
once_after zero a b h zero f = absurd (let e = f.1 in cc)
once_after zero a b h (suc zero) f =
    let o = con (pos 1) in let z = con (pos 0) in let m = con (negsuc 0) in
    solve (a 1 ∷ a 2 ∷ []) (var 0) (z ⊕ z ⊕ var 0 ⊗ (o ⊗ o ⊕ z) ⊕ var 1 ⊗ (o ⊗ m ⊕ (o ⊗ o ⊕ z))) refl
    ∙ sym (h.always (point (whole (negsuc 0)) (whole (pos 1)))) ∙ solve [] (o ⊗ m ⊕ z) m refl
once_after zero a b h (suc (suc zero)) f =
    let o = con (pos 1) in let z = con (pos 0) in
    solve (a 1 ∷ a 2 ∷ []) (var 1) (z ⊕ z ⊕ var 0 ⊗ (o ⊗ z ⊕ z) ⊕ var 1 ⊗ (o ⊗ o ⊕ (o ⊗ z ⊕ z))) refl
    ∙ sym (h.always (point (whole (pos 1)) (whole (pos 0)))) ∙ solve [] (o ⊗ o ⊕ z) o refl
once_after zero a b h (suc (suc (suc j))) f = absurd (let l = f.0 in omega arith)

rests_after : (j : ℕ) → Free variables after j → (after.value j ≡ whole (pos 0)) ⊎ ((side : Side) × Gives variables rows side j (after.value j))
rests_after zero f = absurd (let e = f.1 in cc)
rests_after (suc zero) f = inl refl
rests_after (suc (suc zero)) f = inr (Lower, gives)
rests_after (suc (suc (suc j))) f = absurd (let l = f.0 in omega arith)

valued_after : (k : ℕ) → Basic variables after k → after.value k ≡ Rattle.lq_prover_pivots.specs.Pivots.Ranges.combine 3 after.is_free (after.entry k) after.value
valued_after zero b = let o = con (pos 1) in let z = con (pos 0) in let m = con (negsuc 0) in solve [] o (z ⊕ z ⊕ m ⊗ z ⊕ o ⊗ o) refl
valued_after (suc zero) b = absurd (let e = b.1 in cc)
valued_after (suc (suc k)) b = absurd (let e = b.1 in cc)

is_after : IsConfiguration variables rows after
is_after = record { count = refl; combined = combined_after; once = once_after; rests = rests_after; valued = valued_after }

-- ---- the pivot
least : (k : ℕ) → k < 2 → Basic variables before k → ¬ Breaks variables rows k (before.value k)
least k l b h = small_keep k (whole (pos 0)) l h

free_below : (j : ℕ) → Free variables before j → j < 2
free_below zero f = omega arith
free_below (suc zero) f = omega arith
free_below (suc (suc j)) f = absurd (let e = f.1 in cc)

others : (j : ℕ) → j < 3 → ¬ (j ≡ 2) → ¬ (j ≡ 0) → after.is_free j ≡ before.is_free j
others zero l m n = absurd (n refl)
others (suc zero) l m n = refl
others (suc (suc zero)) l m n = absurd (m refl)
others (suc (suc (suc j))) l m n = absurd (omega arith)

stays : (j : ℕ) → Free variables before j → ¬ (j ≡ 0) → after.value j ≡ before.value j
stays zero f n = absurd (n refl)
stays (suc zero) f n = refl
stays (suc (suc j)) f n = absurd (let e = f.1 in cc)

keeps_after : (j : ℕ) → Free variables after j → ¬ Breaks variables rows j (after.value j)
keeps_after zero f h = absurd (let e = f.1 in cc)
keeps_after (suc zero) f h = small_keep 1 (whole (pos 0)) (omega arith) h
keeps_after (suc (suc j)) f h = one_keeps (suc (suc j)) h

one_pivot : Pivot variables rows before after
one_pivot = record {
  leaving = 2;
  basic = (omega arith, refl);
  breaks = breaks;
  least = least;
  entering = 0;
  enters = record {
    free = (omega arith, refl);
    some = λ e. let q : pos 1 ≡ pos 0 = whole_once (pos 1) (pos 0) e in absurd (cc);
    away = zero_unbounded _ 0;
  };
  first = λ j l c. absurd (omega arith);
  left = refl;
  takes = refl;
  entered = refl;
  others = others;
  stays = stays;
  before = λ j f h. small_keep j (whole (pos 0)) (free_below j f) h;
  after = keeps_after;
}

pub is_chain : IsChain variables rows rows 1 chain
is_chain = record { each = each; pivot = pivot }
  where
    each : (i : ℕ) → i ≤ 1 → IsConfiguration variables rows (chain i)
    each zero l = is_before
    each (suc i) l = is_after

    pivot : (i : ℕ) → i < 1 → Pivot variables rows (chain i) (chain (suc i))
    pivot zero l = one_pivot
    pivot (suc i) l = absurd (omega arith)
