-- Moves need small numbers.
use Rattle.std.proofs.Common.{◌≡◌, ℕ, ℤ, pos, ◌+◌, ◌*◌, ◌<◌, ◌≤◌, inl, inr, arith, refl, sym, ap, subst, ◌∙◌, List, [], ◌∷◌, unsigned_abs}
use Rattle.std.proofs.Math.IntN.{◌*ℤ◌}
use Rattle.lq_base_numbers.specs.Rationals.Rational.{ℚ, whole, ◌-ℚ◌, ◌*ℚ◌}
use Rattle.lq_base_numbers.specs.Rationals.RationalQuotient.{◌/ℚ◌}
use Rattle.lq_base_numbers.specs.Rationals.Solver.{var, ◌⊗◌, solve}
use Rattle.lq_base_numbers.specs.declared.fractions.past.NumOp.{NumOp}
use Rattle.lq_logic_rows.specs.Row.{Row}
use Rattle.lq_prover_pivots.specs.Pivots.Rows.{Variables, size}
use Rattle.lq_prover_pivots.specs.Pivots.Configurations.{Configuration}
use Rattle.lq_prover_pivots.specs.Cramer.Sizes.{WithinWhole}
use Rattle.lq_prover_pivots.proofs.CramerLemmas.Sizes.{mul_at_most, within_same, within_more}
use Rattle.lq_prover_pivots.specs.Work.Needs.{Needs}
use Rattle.lq_prover_pivots.specs.Work.Work.{IsEntry, IsPlace, IsWay, IsMove, IsMoving}
use Rattle.lq_prover_pivots.proofs.WorkLemmas.Scene.{Scene, at_least}
use Rattle.lq_prover_pivots.proofs.WorkLemmas.Over.{lowest_by, sum_by, difference_by, size_product, apart_product, by_product, within_times, within_before, within_cross, within_turned, within_difference, number_apart, quotient_is}
use Rattle.lq_prover_pivots.proofs.WorkLemmas.Forming.{products_of, positive_apart, entry_within, denominator_apart, denominator_size}

place_within : (vs : Variables) (rows : List Row) (c : Configuration) (most : ℕ) (s : Scene vs rows c most) (x : ℚ) → IsPlace vs rows c x
    → WithinWhole most (x *ℚ whole (s.denominator *ℤ pos s.divisor))
place_within vs rows c most s x (IsPlace.value k l e) =
    within_same most (x *ℚ whole (s.denominator *ℤ pos s.divisor)) (c.value k *ℚ whole (s.denominator *ℤ pos s.divisor))
    (ap (λ t. t *ℚ whole (s.denominator *ℤ pos s.divisor)) e) (s.values k l)
place_within vs rows c most s x (IsPlace.bound side k given) =
    let p = products_of vs rows c most s in
    let bound = p.bound in
    within_more (s.constant * s.divisor * s.entry) most (x *ℚ whole (s.denominator *ℤ pos s.divisor)) (omega arith)
    (within_before (s.constant * s.divisor) s.entry x s.denominator (pos s.divisor) (s.bounds side k x given) s.within)

ways_within : (vs : Variables) (rows : List Row) (c : Configuration) (most : ℕ) (s : Scene vs rows c most) (u v : ℚ) → IsPlace vs rows c u → IsPlace vs rows c v
    → WithinWhole (most + most) ((u -ℚ v) *ℚ whole (s.denominator *ℤ pos s.divisor))
ways_within vs rows c most s u v p q =
    within_difference most most u v (s.denominator *ℤ pos s.divisor) (place_within vs rows c most s u p) (place_within vs rows c most s v q)

-- a way by a whole number times the rows' multiple
record IsWayOver (entry divisor most : ℕ) (x : ℚ) : Type 0 where
  by : ℤ
  apart : ¬ (by ≡ pos 0)
  small : unsigned_abs by ≤ entry
  within : WithinWhole (most + most) (x *ℚ whole (by *ℤ pos divisor))

way_over : (vs : Variables) (rows : List Row) (c : Configuration) (most : ℕ) (s : Scene vs rows c most) (x : ℚ) → IsWay vs rows c x
    → IsWayOver s.entry s.divisor most x
way_over vs rows c most s x (IsWay.difference u v p q e) =
    subst (IsWayOver s.entry s.divisor most) (sym e)
    (record { by = s.denominator; apart = s.some; small = s.within; within = ways_within vs rows c most s u v p q })
way_over vs rows c most s x (IsWay.quotient u v e p q entry apart same) =
    let w = entry_within vs rows c most s e entry in
    subst (IsWayOver s.entry s.divisor most) (sym same)
    (record {
      by = w.number;
      apart = number_apart e s.denominator w.number apart s.some w.is;
      small = w.within;
      within = within_same (most + most) ((u -ℚ v) /ℚ e *ℚ whole (w.number *ℤ pos s.divisor)) ((u -ℚ v) *ℚ whole (s.denominator *ℤ pos s.divisor))
          (by_product ((u -ℚ v) /ℚ e) w.number (pos s.divisor)
          ∙ ap (λ t. t *ℚ whole (pos s.divisor)) (quotient_is (u -ℚ v) e s.denominator w.number apart w.is)
          ∙ sym (by_product (u -ℚ v) s.denominator (pos s.divisor)))
          (ways_within vs rows c most s u v p q);
    })

record Facts (entry divisor most : ℕ) : Type 0 where
  scale : entry * divisor ≤ most
  entry_in : entry ≤ most
  most_in : most ≤ most * most
  double : (most + most) * entry ≤ most * most + most * most
  single : most * entry ≤ most * most
  both : entry * divisor * entry ≤ most * most

facts : (vs : Variables) (rows : List Row) (c : Configuration) (most : ℕ) (s : Scene vs rows c most) → Facts s.entry s.divisor most
facts vs rows c most s =
    let p = products_of vs rows c most s in
    let one = s.numbers.divisor in
    let divisor = p.divisor in
    let double : (most + most) * s.entry ≤ (most + most) * most = mul_at_most (most + most) s.entry (most + most) most (omega arith) p.entry in
    let single : most * s.entry ≤ most * most = mul_at_most most s.entry most most (omega arith) p.entry in
    record {
      scale = p.entry_divisor;
      entry_in = p.entry;
      most_in = at_least most most (omega arith);
      double = omega arith;
      single = single;
      both = mul_at_most (s.entry * s.divisor) s.entry most most p.entry_divisor p.entry;
    }

-- the denominators
scale_size : (vs : Variables) (rows : List Row) (c : Configuration) (most : ℕ) (s : Scene vs rows c most) (b : ℤ) → unsigned_abs b ≤ s.entry
    → unsigned_abs (b *ℤ pos s.divisor) ≤ most * most
scale_size vs rows c most s b l =
    let f = facts vs rows c most s in
    let h = size_product s.entry s.divisor b (pos s.divisor) l (omega arith) in
    let k = f.scale in
    let m = f.most_in in
    omega arith

both_size : (vs : Variables) (rows : List Row) (c : Configuration) (most : ℕ) (s : Scene vs rows c most) (b : ℤ) → unsigned_abs b ≤ s.entry
    → unsigned_abs (b *ℤ pos s.divisor *ℤ s.denominator) ≤ most * most
both_size vs rows c most s b l =
    let f = facts vs rows c most s in
    let h = size_product (s.entry * s.divisor) s.entry (b *ℤ pos s.divisor) s.denominator (size_product s.entry s.divisor b (pos s.divisor) l (omega arith)) s.within in
    let k = f.both in
    omega arith

divisor_apart : (vs : Variables) (rows : List Row) (c : Configuration) (most : ℕ) (s : Scene vs rows c most) → ¬ (pos s.divisor ≡ pos 0)
divisor_apart vs rows c most s = let one = s.numbers.divisor in positive_apart s.divisor (omega arith)

-- a way times an entry
reach_over : (vs : Variables) (rows : List Row) (c : Configuration) (most : ℕ) (s : Scene vs rows c most) (w e : ℚ) (o : IsWayOver s.entry s.divisor most w)
    → IsEntry vs c e → WithinWhole (most * most + most * most) (w *ℚ e *ℚ whole (o.by *ℤ pos s.divisor *ℤ s.denominator))
reach_over vs rows c most s w e o entry =
    let f = facts vs rows c most s in
    within_more ((most + most) * s.entry) (most * most + most * most) (w *ℚ e *ℚ whole (o.by *ℤ pos s.divisor *ℤ s.denominator)) f.double
    (within_cross (most + most) s.entry w e (o.by *ℤ pos s.divisor) s.denominator o.within (entry_within vs rows c most s e entry))

-- a value by the same denominators
value_over : (vs : Variables) (rows : List Row) (c : Configuration) (most : ℕ) (s : Scene vs rows c most) (k : ℕ) (b : ℤ) → k < size vs → unsigned_abs b ≤ s.entry
    → WithinWhole (most * most) (c.value k *ℚ whole (b *ℤ pos s.divisor *ℤ s.denominator))
value_over vs rows c most s k b l small =
    let f = facts vs rows c most s in
    let g : ℤ = pos s.divisor in
    let d : ℤ = s.denominator in
    within_more (most * s.entry) (most * most) (c.value k *ℚ whole (b *ℤ g *ℤ d)) f.single
    (within_same (most * s.entry) (c.value k *ℚ whole (b *ℤ g *ℤ d)) (c.value k *ℚ whole (d *ℤ g *ℤ b))
    (by_product (c.value k) (b *ℤ g) d ∙ ap (λ t. t *ℚ whole d) (by_product (c.value k) b g)
    ∙ solve (c.value k ∷ whole b ∷ whole g ∷ whole d ∷ []) (var 0 ⊗ var 1 ⊗ var 2 ⊗ var 3) (var 0 ⊗ var 3 ⊗ var 2 ⊗ var 1) refl
    ∙ sym (by_product (c.value k) (d *ℤ g) b ∙ ap (λ t. t *ℚ whole b) (by_product (c.value k) d g)))
    (within_times most s.entry (c.value k) (d *ℤ g) b (s.values k l) small))

both_apart : (vs : Variables) (rows : List Row) (c : Configuration) (most : ℕ) (s : Scene vs rows c most) (b : ℤ) → ¬ (b ≡ pos 0)
    → ¬ (b *ℤ pos s.divisor *ℤ s.denominator ≡ pos 0)
both_apart vs rows c most s b h = apart_product (b *ℤ pos s.divisor) s.denominator (apart_product b (pos s.divisor) h (divisor_apart vs rows c most s)) s.some

-- a move by such a denominator
record IsMoveOver (vs : Variables) (rows : List Row) (c : Configuration) (most : ℕ) (s : Scene vs rows c most) (x : ℚ) : Type 0 where
  by : ℤ
  apart : ¬ (by ≡ pos 0)
  small : unsigned_abs by ≤ s.entry
  within : WithinWhole (most * most + most * most) (x *ℚ whole (by *ℤ pos s.divisor *ℤ s.denominator))

move_over : (vs : Variables) (rows : List Row) (c : Configuration) (most : ℕ) (s : Scene vs rows c most) (x : ℚ) → IsMove vs rows c x → IsMoveOver vs rows c most s x
move_over vs rows c most s x (inl way) =
    let o = way_over vs rows c most s x way in
    let f = facts vs rows c most s in
    record {
      by = o.by;
      apart = o.apart;
      small = o.small;
      within = within_more ((most + most) * s.entry) (most * most + most * most) (x *ℚ whole (o.by *ℤ pos s.divisor *ℤ s.denominator)) f.double
          (within_times (most + most) s.entry x (o.by *ℤ pos s.divisor) s.denominator o.within s.within);
    }
move_over vs rows c most s x (inr is) =
    let o = way_over vs rows c most s is.0 is.2 in
    subst (IsMoveOver vs rows c most s) (sym is.4)
    (record { by = o.by; apart = o.apart; small = o.small; within = reach_over vs rows c most s is.0 is.1 o is.3 })

pub moving_is_small : (vs : Variables) (rows : List Row) (c : Configuration) (most : ℕ) → Scene vs rows c most → (op : NumOp) (x y : ℚ)
    → IsMoving vs rows c op x y → Needs (4 * (most * most)) (most * most) op x y
moving_is_small vs rows c most s _ _ _ (IsMoving.difference u v p q) =
    let f = facts vs rows c most s in
    let m = f.most_in in
    let h = denominator_size vs rows c most s in
    difference_by (4 * (most * most)) (most * most) most most u v (s.denominator *ℤ pos s.divisor) (denominator_apart vs rows c most s) (omega arith)
    (place_within vs rows c most s u p) (place_within vs rows c most s v q) (omega arith)
moving_is_small vs rows c most s _ _ _ (IsMoving.quotient u v e p q entry apart) =
    let o = way_over vs rows c most s ((u -ℚ v) /ℚ e) (IsWay.quotient u v e p q entry apart refl) in
    let f = facts vs rows c most s in
    let m = f.most_in in
    lowest_by (4 * (most * most)) (most * most) ((u -ℚ v) /ℚ e) (o.by *ℤ pos s.divisor) (apart_product o.by (pos s.divisor) o.apart (divisor_apart vs rows c most s))
    (scale_size vs rows c most s o.by o.small)
    (within_more (most + most) (4 * (most * most)) ((u -ℚ v) /ℚ e *ℚ whole (o.by *ℤ pos s.divisor)) (omega arith) o.within)
moving_is_small vs rows c most s _ _ _ (IsMoving.left_product w e way entry) =
    let o = way_over vs rows c most s w way in
    lowest_by (4 * (most * most)) (most * most) (w *ℚ e) (o.by *ℤ pos s.divisor *ℤ s.denominator) (both_apart vs rows c most s o.by o.apart)
    (both_size vs rows c most s o.by o.small)
    (within_more (most * most + most * most) (4 * (most * most)) (w *ℚ e *ℚ whole (o.by *ℤ pos s.divisor *ℤ s.denominator)) (omega arith)
    (reach_over vs rows c most s w e o entry))
moving_is_small vs rows c most s _ _ _ (IsMoving.right_product w e way entry) =
    let o = way_over vs rows c most s w way in
    lowest_by (4 * (most * most)) (most * most) (e *ℚ w) (o.by *ℤ pos s.divisor *ℤ s.denominator) (both_apart vs rows c most s o.by o.apart)
    (both_size vs rows c most s o.by o.small)
    (within_more (most * most + most * most) (4 * (most * most)) (e *ℚ w *ℚ whole (o.by *ℤ pos s.divisor *ℤ s.denominator)) (omega arith)
    (within_turned (most * most + most * most) w e (o.by *ℤ pos s.divisor *ℤ s.denominator) (reach_over vs rows c most s w e o entry)))
moving_is_small vs rows c most s _ _ _ (IsMoving.sum k x l move) =
    let o = move_over vs rows c most s x move in
    sum_by (4 * (most * most)) (most * most) (most * most) (most * most + most * most) (c.value k) x (o.by *ℤ pos s.divisor *ℤ s.denominator)
    (both_apart vs rows c most s o.by o.apart) (both_size vs rows c most s o.by o.small)
    (value_over vs rows c most s k o.by l o.small) o.within (omega arith)
