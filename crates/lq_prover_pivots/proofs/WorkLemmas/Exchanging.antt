-- Exchanges and multipliers need small numbers.
use Rattle.std.proofs.Common.{◌≡◌, ℕ, ℤ, pos, ◌+◌, ◌*◌, ◌<◌, ◌≤◌, inl, inr, arith, sym, ap, subst, ◌∙◌, List, unsigned_abs}
use Rattle.std.proofs.Math.IntN.{◌*ℤ◌}
use Rattle.lq_base_numbers.specs.Rationals.Rational.{ℚ, whole, ◌*ℚ◌, neg_ℚ}
use Rattle.lq_base_numbers.specs.Rationals.RationalQuotient.{◌/ℚ◌, /ℚ_is}
use Rattle.lq_base_numbers.specs.declared.fractions.past.NumOp.{NumOp}
use Rattle.lq_logic_rows.specs.Row.{Row}
use Rattle.lq_prover_pivots.specs.Pivots.Rows.{Variables}
use Rattle.lq_prover_pivots.specs.Pivots.Configurations.{Configuration}
use Rattle.lq_prover_pivots.specs.Cramer.Sizes.{WithinWhole}
use Rattle.lq_prover_pivots.proofs.CramerLemmas.Sizes.{mul_at_most, within_same, within_more}
use Rattle.lq_prover_pivots.specs.Work.Needs.{Needs}
use Rattle.lq_prover_pivots.specs.Work.Work.{IsEntry, IsOneOrEntry, IsQuotient, IsSignedQuotient, IsExchanging, IsSharing}
use Rattle.lq_prover_pivots.proofs.WorkLemmas.Scene.{Scene, at_least}
use Rattle.lq_prover_pivots.proofs.WorkLemmas.Over.{lowest_by, sum_by, difference_by, size_product, apart_product, by_product, within_times, within_cross, within_turned, within_negated, number_apart, quotient_is}
use Rattle.lq_prover_pivots.proofs.WorkLemmas.Forming.{products_of, positive_apart, whole_apart, entry_within, one_or_entry_within}

-- a number that a whole number makes whole, both of size at most that of the entries
pub record IsOver (entry : ℕ) (x : ℚ) : Type 0 where
  pub by : ℤ
  pub apart : ¬ (by ≡ pos 0)
  pub small : unsigned_abs by ≤ entry
  pub within : WithinWhole entry (x *ℚ whole by)

quotient_over : (vs : Variables) (rows : List Row) (c : Configuration) (most : ℕ) (s : Scene vs rows c most) (x y : ℚ) → IsOneOrEntry vs c x → IsEntry vs c y
    → ¬ (y ≡ whole (pos 0)) → IsOver s.entry (x /ℚ y)
quotient_over vs rows c most s x y one entry apart =
    let w = entry_within vs rows c most s y entry in
    record {
      by = w.number;
      apart = number_apart y s.denominator w.number apart s.some w.is;
      small = w.within;
      within = within_same s.entry (x /ℚ y *ℚ whole w.number) (x *ℚ whole s.denominator) (quotient_is x y s.denominator w.number apart w.is)
          (one_or_entry_within vs rows c most s x one);
    }

is_quotient_over : (vs : Variables) (rows : List Row) (c : Configuration) (most : ℕ) (s : Scene vs rows c most) (q : ℚ) → IsQuotient vs c q → IsOver s.entry q
is_quotient_over vs rows c most s q is =
    subst (IsOver s.entry) (sym is.is) (quotient_over vs rows c most s is.left is.right is.dividend is.divisor is.apart)

negated_over : (entry : ℕ) (x : ℚ) → IsOver entry x → IsOver entry (neg_ℚ x)
negated_over entry x o = record { by = o.by; apart = o.apart; small = o.small; within = within_negated entry x o.by o.within }

signed_over : (vs : Variables) (rows : List Row) (c : Configuration) (most : ℕ) (s : Scene vs rows c most) (q : ℚ) → IsSignedQuotient vs c q → IsOver s.entry q
signed_over vs rows c most s q (inl is) = is_quotient_over vs rows c most s q is
signed_over vs rows c most s q (inr is) = subst (IsOver s.entry) (sym is.2) (negated_over s.entry is.0 (is_quotient_over vs rows c most s is.0 is.1))

record Squares (entry most : ℕ) : Type 0 where
  entry_in : entry ≤ most * most
  most_in : most ≤ most * most
  square : entry * entry ≤ most * most

squares : (vs : Variables) (rows : List Row) (c : Configuration) (most : ℕ) (s : Scene vs rows c most) → Squares s.entry most
squares vs rows c most s =
    let p = products_of vs rows c most s in
    let one = s.numbers.divisor in
    let divisor = p.divisor in
    let entry = p.entry in
    let h : most ≤ most * most = at_least most most (omega arith) in
    record { entry_in = omega arith; most_in = h; square = mul_at_most s.entry s.entry most most p.entry p.entry }

-- the product of such a quotient with an entry, by the denominator of the entries times the quotient's
product_over : (vs : Variables) (rows : List Row) (c : Configuration) (most : ℕ) (s : Scene vs rows c most) (q e : ℚ) (o : IsOver s.entry q) → IsEntry vs c e
    → WithinWhole (most * most) (q *ℚ e *ℚ whole (s.denominator *ℤ o.by))
product_over vs rows c most s q e o entry =
    let h = squares vs rows c most s in
    within_more (s.entry * s.entry) (most * most) (q *ℚ e *ℚ whole (s.denominator *ℤ o.by)) h.square
    (within_turned (s.entry * s.entry) e q (s.denominator *ℤ o.by)
    (within_cross s.entry s.entry e q s.denominator o.by (entry_within vs rows c most s e entry) o.within))

single_over : (vs : Variables) (rows : List Row) (c : Configuration) (most : ℕ) (s : Scene vs rows c most) (x : ℚ) (b : ℤ) → unsigned_abs b ≤ s.entry → IsEntry vs c x
    → WithinWhole (most * most) (x *ℚ whole (s.denominator *ℤ b))
single_over vs rows c most s x b l entry =
    let h = squares vs rows c most s in
    within_more (s.entry * s.entry) (most * most) (x *ℚ whole (s.denominator *ℤ b)) h.square
    (within_times s.entry s.entry x s.denominator b (entry_within vs rows c most s x entry) l)

product_size : (vs : Variables) (rows : List Row) (c : Configuration) (most : ℕ) (s : Scene vs rows c most) (b : ℤ) → unsigned_abs b ≤ s.entry
    → unsigned_abs (s.denominator *ℤ b) ≤ most * most
product_size vs rows c most s b l =
    let h = squares vs rows c most s in
    let square = h.square in
    let k = size_product s.entry s.entry s.denominator b s.within l in
    omega arith

pub exchanging_is_small : (vs : Variables) (rows : List Row) (c : Configuration) (most : ℕ) → Scene vs rows c most → (op : NumOp) (x y : ℚ)
    → IsExchanging vs c op x y → Needs (most * most + most * most) (most * most) op x y
exchanging_is_small vs rows c most s _ _ _ (IsExchanging.quotient x y one entry apart) =
    let o = quotient_over vs rows c most s x y one entry apart in
    let small = o.small in
    let h = squares vs rows c most s in
    let entry_in = h.entry_in in
    lowest_by (most * most + most * most) (most * most) (x /ℚ y) o.by o.apart (omega arith)
    (within_more s.entry (most * most + most * most) (x /ℚ y *ℚ whole o.by) (omega arith) o.within)
exchanging_is_small vs rows c most s _ _ _ (IsExchanging.negation q is) =
    let o = negated_over s.entry q (is_quotient_over vs rows c most s q is) in
    let small = o.small in
    let h = squares vs rows c most s in
    let entry_in = h.entry_in in
    lowest_by (most * most + most * most) (most * most) (neg_ℚ q) o.by o.apart (omega arith)
    (within_more s.entry (most * most + most * most) (neg_ℚ q *ℚ whole o.by) (omega arith) o.within)
exchanging_is_small vs rows c most s _ _ _ (IsExchanging.left_product q e signed entry) =
    let o = signed_over vs rows c most s q signed in
    lowest_by (most * most + most * most) (most * most) (q *ℚ e) (s.denominator *ℤ o.by) (apart_product s.denominator o.by s.some o.apart)
    (product_size vs rows c most s o.by o.small)
    (within_more (most * most) (most * most + most * most) (q *ℚ e *ℚ whole (s.denominator *ℤ o.by)) (omega arith) (product_over vs rows c most s q e o entry))
exchanging_is_small vs rows c most s _ _ _ (IsExchanging.right_product q e signed entry) =
    let o = signed_over vs rows c most s q signed in
    lowest_by (most * most + most * most) (most * most) (e *ℚ q) (s.denominator *ℤ o.by) (apart_product s.denominator o.by s.some o.apart)
    (product_size vs rows c most s o.by o.small)
    (within_more (most * most) (most * most + most * most) (e *ℚ q *ℚ whole (s.denominator *ℤ o.by)) (omega arith)
    (within_turned (most * most) q e (s.denominator *ℤ o.by) (product_over vs rows c most s q e o entry)))
exchanging_is_small vs rows c most s _ _ _ (IsExchanging.sum x q e own signed entry) =
    let o = signed_over vs rows c most s q signed in
    sum_by (most * most + most * most) (most * most) (most * most) (most * most) x (q *ℚ e) (s.denominator *ℤ o.by)
    (apart_product s.denominator o.by s.some o.apart) (product_size vs rows c most s o.by o.small)
    (single_over vs rows c most s x o.by o.small own) (product_over vs rows c most s q e o entry) (omega arith)
exchanging_is_small vs rows c most s _ _ _ (IsExchanging.difference x q e own signed entry) =
    let o = signed_over vs rows c most s q signed in
    difference_by (most * most + most * most) (most * most) (most * most) (most * most) x (q *ℚ e) (s.denominator *ℤ o.by)
    (apart_product s.denominator o.by s.some o.apart) (product_size vs rows c most s o.by o.small)
    (single_over vs rows c most s x o.by o.small own) (product_over vs rows c most s q e o entry) (omega arith)

-- ---- multipliers
share_over : (vs : Variables) (rows : List Row) (c : Configuration) (most : ℕ) (s : Scene vs rows c most) (g : ℕ) (x : ℚ) → 0 < g → IsOneOrEntry vs c x
    → WithinWhole s.entry (x /ℚ whole (pos g) *ℚ whole (pos g *ℤ s.denominator))
share_over vs rows c most s g x some one =
    within_same s.entry (x /ℚ whole (pos g) *ℚ whole (pos g *ℤ s.denominator)) (x *ℚ whole s.denominator)
    (by_product (x /ℚ whole (pos g)) (pos g) s.denominator ∙ ap (λ t. t *ℚ whole s.denominator) (/ℚ_is x (whole (pos g)) (whole_apart g some)))
    (one_or_entry_within vs rows c most s x one)

share_size : (vs : Variables) (rows : List Row) (c : Configuration) (most : ℕ) (s : Scene vs rows c most) (g : ℕ) → g ≤ s.divisor
    → unsigned_abs (pos g *ℤ s.denominator) ≤ most
share_size vs rows c most s g l =
    let p = products_of vs rows c most s in
    let h = size_product s.divisor s.entry (pos g) s.denominator l s.within in
    let k = p.entry_divisor in
    omega arith

pub sharing_is_small : (vs : Variables) (rows : List Row) (c : Configuration) (most : ℕ) → Scene vs rows c most → (op : NumOp) (x y : ℚ)
    → IsSharing vs rows c op x y → Needs most most op x y
sharing_is_small vs rows c most s _ _ _ (IsSharing.quotient row g x there is one) =
    let p = products_of vs rows c most s in
    let d = s.divisors row g there is in
    lowest_by most most (x /ℚ whole (pos g)) (pos g *ℤ s.denominator) (apart_product (pos g) s.denominator (positive_apart g d.0) s.some)
    (share_size vs rows c most s g d.1)
    (within_more s.entry most (x /ℚ whole (pos g) *ℚ whole (pos g *ℤ s.denominator)) p.entry (share_over vs rows c most s g x d.0 one))
sharing_is_small vs rows c most s _ _ _ (IsSharing.negation row g x q there is one same) =
    let p = products_of vs rows c most s in
    let d = s.divisors row g there is in
    lowest_by most most (neg_ℚ q) (pos g *ℤ s.denominator) (apart_product (pos g) s.denominator (positive_apart g d.0) s.some)
    (share_size vs rows c most s g d.1)
    (within_negated most q (pos g *ℤ s.denominator)
    (subst (λ t. WithinWhole most (t *ℚ whole (pos g *ℤ s.denominator))) (sym same)
    (within_more s.entry most (x /ℚ whole (pos g) *ℚ whole (pos g *ℤ s.denominator)) p.entry (share_over vs rows c most s g x d.0 one))))
