-- Greatest potentials lie no farther apart than the sizes of the costs below 0 sum to.
use Rattle.std.proofs.Common.{◌≡◌, ℕ, ◌≤◌, ◌<◌, refl, sym, ap, subst, ◌∙◌, arith, List, Bool, false, Option, Some, None, IfSome, slice_get}
use Rattle.std.proofs.Math.IntN.{ℤ, pos, ◌+ℤ◌, ◌-ℤ◌}
use Rattle.std.specs.Int.Signed.{◌≤ℤ◌, ◌<ℤ◌}
use Rattle.std.proofs.lemmas.Int.{ints, by_lt_z}
use borrow.Author.Differences.{up, down}
use Rattle.lq_prover_differences.specs.declared.arc.Arc.{Arc}
use Rattle.lq_prover_differences.specs.Arcs.{Potentials, ArcHolds, Meets, IsGreatest, falls}
use Rattle.lq_prover_differences.specs.Climb.{climb, climb_more, climb_most, climbs_inside, parts, scale, scale-zero, slope, slope_one, Slope}

from_below : (x y : ℤ) → x ≤ℤ y → x +ℤ pos (up (y -ℤ x)) ≡ y
from_below x y h = omega (arith, ints, parts (y -ℤ x))

abbrev scaled : Potentials → List Arc → ℤ → ℤ
scaled p arcs = scale (climb p arcs)

-- the three bounds from x up to y
between : (p : Potentials) (arcs : List Arc) (x y : ℤ) → x ≤ℤ y
    → (scaled p arcs x ≤ℤ scaled p arcs y) × ((scaled p arcs y +ℤ x) ≤ℤ (scaled p arcs x +ℤ y)) × (scaled p arcs y ≤ℤ (scaled p arcs x +ℤ pos (falls arcs)))
between p arcs x y h =
    let k : ℕ = up (y -ℤ x) in
    let e : x +ℤ pos k ≡ y = from_below x y h in
    let s : Slope (climb p arcs) x k = slope (climb p arcs) x k (climb_more p arcs) in
    let one : scaled p arcs x ≤ℤ scaled p arcs y = subst (λ (z : ℤ). scaled p arcs x ≤ℤ scaled p arcs z) e s.up_to in
    let two : scaled p arcs y ≤ℤ (scaled p arcs x +ℤ pos k) = subst (λ (z : ℤ). scaled p arcs z ≤ℤ (scaled p arcs x +ℤ pos k)) e s.by_one in
    let three : (scaled p arcs y +ℤ pos (climb p arcs x)) ≤ℤ (scaled p arcs x +ℤ pos (climb p arcs y)) =
    subst (λ (z : ℤ). (scaled p arcs z +ℤ pos (climb p arcs x)) ≤ℤ (scaled p arcs x +ℤ pos (climb p arcs z))) e s.by_climb in
    (one, join_two x y (scaled p arcs x) (scaled p arcs y) k e two, join_three (scaled p arcs x) (scaled p arcs y) _ _ _ three (climb_most p arcs y))
  where
    join_two : (x y a b : ℤ) (k : ℕ) → x +ℤ pos k ≡ y → b ≤ℤ (a +ℤ pos k) → (b +ℤ x) ≤ℤ (a +ℤ y)
    join_two x y a b k e h = omega (arith, ints)

    join_three : (a b : ℤ) (m n o : ℕ) → (b +ℤ pos m) ≤ℤ (a +ℤ pos n) → n ≤ o → b ≤ℤ (a +ℤ pos o)
    join_three a b m n o h k = omega (arith, ints)

-- an arc that holds holds on the scale
arc_scaled : (p : Potentials) (arcs : List Arc) (k : ℕ) (a : Arc) → slice_get arcs k ≡ Some a → ArcHolds p a → ArcHolds (λ v. scaled p arcs (p v)) a
arc_scaled p arcs k a e h =
    by_lt_z {P = ArcHolds (λ v. scaled p arcs (p v)) a} a.cost (pos 0) falling rising
  where
    s : ℤ → ℤ
    s = scaled p arcs

    low : ℤ
    low = p a.from +ℤ a.cost

    glue_up : (x y c a b : ℤ) → x ≤ℤ (y +ℤ c) → (b +ℤ y) ≤ℤ (a +ℤ x) → b ≤ℤ (a +ℤ c)
    glue_up x y c a b h k = omega (arith, ints)

    glue_flat : (c a b : ℤ) → pos 0 ≤ℤ c → b ≤ℤ a → b ≤ℤ (a +ℤ c)
    glue_flat c a b h k = omega (arith, ints)

    weak : (x y : ℤ) → x <ℤ y → x ≤ℤ y
    weak x y h = omega (arith, ints)

    rising : pos 0 ≤ℤ a.cost → s (p a.to) ≤ℤ (s (p a.from) +ℤ a.cost)
    rising up =
        by_lt_z {P = s (p a.to) ≤ℤ (s (p a.from) +ℤ a.cost)} (p a.from) (p a.to)
        (λ l. glue_up (p a.to) (p a.from) a.cost _ _ h (between p arcs (p a.from) (p a.to) (weak _ _ l)).1)
        (λ l. glue_flat a.cost _ _ up (between p arcs (p a.to) (p a.from) l).0)

    whole_span : (f c : ℤ) → c <ℤ pos 0 → (f +ℤ c) +ℤ pos (down c) ≡ f
    whole_span f c h = omega (arith, ints, parts c)

    at_low : (x : ℤ) (j : ℕ) → x ≤ℤ (x +ℤ pos j)
    at_low x j = omega (arith, ints)

    under : (f c : ℤ) (j : ℕ) → j < down c → ((f +ℤ c) +ℤ pos j) <ℤ f
    under f c j h = omega (arith, ints, parts c)

    glue_down : (c a b l : ℤ) → c <ℤ pos 0 → b ≤ℤ l → a ≡ l +ℤ pos (down c) → b ≤ℤ (a +ℤ c)
    glue_down c a b l h k e = omega (arith, ints, parts c)

    falling : a.cost <ℤ pos 0 → s (p a.to) ≤ℤ (s (p a.from) +ℤ a.cost)
    falling f =
        glue_down a.cost (s (p a.from)) (s (p a.to)) (s low) f (between p arcs (p a.to) low h).0
        (ap s (sym (whole_span (p a.from) a.cost f))
        ∙ slope_one (climb p arcs) low (down a.cost)
        (λ j l. climbs_inside p arcs k a (low +ℤ pos j) e (at_low low j) (under (p a.from) a.cost j l)))

meets_scaled : (p : Potentials) (arcs : List Arc) → Meets p arcs → Meets (λ v. scaled p arcs (p v)) arcs
meets_scaled p arcs h k = by (slice_get arcs k) refl (h k)
  where
    by : (o : Option Arc) → slice_get arcs k ≡ o → IfSome o (ArcHolds p) → IfSome o (ArcHolds (λ v. scaled p arcs (p v)))
    by None e h = tt
    by (Some a) e h = arc_scaled p arcs k a e h

-- greatest potentials stand still on the scale
stands_still : (placed : ℕ → Bool) (arcs : List Arc) (p : Potentials) → IsGreatest placed arcs p → (v : ℕ) → scaled p arcs (p v) ≡ p v
stands_still placed arcs p g v =
    both _ _ (at_most v) (g.fixed p (λ v. scaled p arcs (p v)) g.meets (meets_scaled p arcs g.meets) free v)
  where
    both : (a b : ℤ) → a ≤ℤ b → b ≤ℤ a → a ≡ b
    both a b h k = omega (arith, ints)

    z : scaled p arcs (pos 0) ≡ pos 0
    z = scale-zero (climb p arcs)

    low : (v : ℕ) → placed v ≡ false → scaled p arcs (p v) ≤ℤ pos 0
    low v f = subst (λ (x : ℤ). scaled p arcs (p v) ≤ℤ x) z (between p arcs (p v) (pos 0) (g.low v f)).0

    at_most : (v : ℕ) → scaled p arcs (p v) ≤ℤ p v
    at_most = g.greatest (λ v. scaled p arcs (p v)) (meets_scaled p arcs g.meets) low

    from_zero : (x a b : ℤ) → b ≡ pos 0 → (b +ℤ x) ≤ℤ (a +ℤ pos 0) → x ≤ℤ a
    from_zero x a b e h = omega (arith, ints)

    free : (v : ℕ) → placed v ≡ false → p v ≤ℤ scaled p arcs (p v)
    free v f = from_zero (p v) (scaled p arcs (p v)) (scaled p arcs (pos 0)) z (between p arcs (p v) (pos 0) (g.low v f)).1

-- no two are farther apart, and none is farther from 0
pub record InRange (p : Potentials) (n : ℕ) : Type 0 where
  pub apart : (u v : ℕ) → p u ≤ℤ (p v +ℤ pos n)
  pub above : (u : ℕ) → p u ≤ℤ pos n
  pub below : (u : ℕ) → pos 0 ≤ℤ (p u +ℤ pos n)

pub in_range : (placed : ℕ → Bool) (arcs : List Arc) (p : Potentials) → IsGreatest placed arcs p → InRange p (falls arcs)
in_range placed arcs p g = record {
  apart = λ u v. put (p u) (p v) _ _ (still u) (still v) (any (p u) (p v));
  above = λ u. plain _ (falls arcs) (put (p u) (pos 0) _ _ (still u) z (any (p u) (pos 0)));
  below = λ u. put (pos 0) (p u) _ _ z (still u) (any (pos 0) (p u));
}
  where
    s : ℤ → ℤ
    s = scaled p arcs

    still : (v : ℕ) → s (p v) ≡ p v
    still = stands_still placed arcs p g

    z : s (pos 0) ≡ pos 0
    z = scale-zero (climb p arcs)

    more : (a b : ℤ) (n : ℕ) → a ≤ℤ b → a ≤ℤ (b +ℤ pos n)
    more a b n h = omega (arith, ints)

    weak : (x y : ℤ) → x <ℤ y → x ≤ℤ y
    weak x y h = omega (arith, ints)

    any : (x y : ℤ) → s x ≤ℤ (s y +ℤ pos (falls arcs))
    any x y =
        by_lt_z {P = s x ≤ℤ (s y +ℤ pos (falls arcs))} x y (λ l. more _ _ (falls arcs) (between p arcs x y (weak x y l)).0) (λ l. (between p arcs y x l).2)

    put : (x y a b : ℤ) → a ≡ x → b ≡ y → a ≤ℤ (b +ℤ pos (falls arcs)) → x ≤ℤ (y +ℤ pos (falls arcs))
    put x y a b e f h = omega (arith, ints)

    plain : (x : ℤ) (n : ℕ) → x ≤ℤ (pos 0 +ℤ pos n) → x ≤ℤ pos n
    plain x n h = omega (arith, ints)
