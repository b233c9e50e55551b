-- A scale of the whole numbers that rises by one exactly across the spans of the arcs of cost below 0: so it rises by no more than their costs in all.
use Rattle.std.proofs.Common.{◌≡◌, ℕ, suc, zero, ◌+◌, ◌-◌, ◌≤◌, ◌<◌, min, refl, sym, ap, subst, ◌∙◌, arith, add-one, List, [], ◌∷◌, Some, slice_get}
use Rattle.std.proofs.Math.IntN.{ℤ, pos, negsuc, ◌+ℤ◌, ◌-ℤ◌, neg_ℤ}
use Rattle.std.specs.Int.Signed.{◌≤ℤ◌, ◌<ℤ◌}
use Rattle.std.proofs.lemmas.Int.{ints}
use borrow.Author.Differences.{up, down}
use Rattle.lq_prover_differences.specs.declared.arc.Arc.{Arc}
use Rattle.lq_prover_differences.specs.Arcs.{Potentials, falls}

-- how far x has come over the span of one arc
abbrev pub over : Potentials → Arc → ℤ → ℕ
over p a x = min (down a.cost) (up (x -ℤ (p a.from +ℤ a.cost)))

abbrev pub climb : Potentials → List Arc → ℤ → ℕ
climb p [] x = 0
climb p (a ∷ arcs) x = over p a x + climb p arcs x

-- one of a number's two parts is 0
pub parts : (z : ℤ) → min (up z) (down z) ≡ 0
parts (pos n) = omega arith
parts (negsuc n) = omega arith

over_next : (d : ℕ) (y z : ℤ) → y ≡ z +ℤ pos 1 → min d (up z) ≤ min d (up y)
over_next d y z e = omega (arith, ints, parts z, parts y)

over_more : (d : ℕ) (x l : ℤ) → min d (up (x -ℤ l)) ≤ min d (up ((x +ℤ pos 1) -ℤ l))
over_more d x l = over_next d ((x +ℤ pos 1) -ℤ l) (x -ℤ l) (omega (arith, ints))

over_in : (d : ℕ) (y z : ℤ) → y ≡ z +ℤ pos 1 → pos 0 ≤ℤ z → z <ℤ pos d → min d (up z) < min d (up y)
over_in d y z e h k = omega (arith, ints, parts z, parts y)

over_inside : (c x l : ℤ) → l ≤ℤ x → x <ℤ (l -ℤ c) → min (down c) (up (x -ℤ l)) < min (down c) (up ((x +ℤ pos 1) -ℤ l))
over_inside c x l h k =
    let e : (x +ℤ pos 1) -ℤ l ≡ (x -ℤ l) +ℤ pos 1 = omega (arith, ints) in
    let low : pos 0 ≤ℤ (x -ℤ l) = omega (arith, ints) in
    let high : (x -ℤ l) <ℤ pos (down c) = omega (arith, ints, parts c) in
    over_in (down c) ((x +ℤ pos 1) -ℤ l) (x -ℤ l) e low high

pub climb_more : (p : Potentials) (arcs : List Arc) (x : ℤ) → climb p arcs x ≤ climb p arcs (x +ℤ pos 1)
climb_more p [] x = omega arith
climb_more p (a ∷ arcs) x = omega (arith, over_more (down a.cost) x (p a.from +ℤ a.cost), climb_more p arcs x)

pub climb_most : (p : Potentials) (arcs : List Arc) (x : ℤ) → climb p arcs x ≤ falls arcs
climb_most p [] x = omega arith
climb_most p (a ∷ arcs) x = omega (arith, climb_most p arcs x)

pub climbs_inside : (p : Potentials) (arcs : List Arc) (k : ℕ) (a : Arc) (x : ℤ) → slice_get arcs k ≡ Some a → (p a.from +ℤ a.cost) ≤ℤ x → x <ℤ p a.from
    → climb p arcs x < climb p arcs (x +ℤ pos 1)
climbs_inside p [] k a x e l h = absurd (cc)
climbs_inside p (b ∷ arcs) zero a x e l h =
    let same : b ≡ a = cc in
    subst (λ (c : Arc). climb p (c ∷ arcs) x < climb p (c ∷ arcs) (x +ℤ pos 1)) (sym same)
    (let one : over p a x < over p a (x +ℤ pos 1) = over_inside a.cost x (p a.from +ℤ a.cost) l (omega (arith, ints)) in
    omega (arith, one, climb_more p arcs x))
climbs_inside p (b ∷ arcs) (suc k) a x e l h =
    omega (arith, over_more (down b.cost) x (p b.from +ℤ b.cost), climbs_inside p arcs k a x e l h)

-- ---- the scale
abbrev pub rise : (ℤ → ℕ) → ℤ → ℕ
rise t x = min 1 (t (x +ℤ pos 1) - t x)

abbrev above : (ℤ → ℕ) → ℕ → ℕ
above t zero = 0
above t (suc n) = above t n + rise t (pos n)

abbrev below : (ℤ → ℕ) → ℕ → ℕ
below t zero = rise t (negsuc zero)
below t (suc n) = below t n + rise t (negsuc (suc n))

abbrev scale_of : (ℤ → ℕ) → ℤ → ℤ
scale_of t (pos n) = pos (above t n)
scale_of t (negsuc n) = neg_ℤ (pos (below t n))

pub scale : (ℤ → ℕ) → ℤ → ℤ
scale t x = scale_of t x

pub scale-zero : (t : ℤ → ℕ) → scale t (pos 0) ≡ pos 0
unfolding scale
scale-zero t = refl

next_up : (n : ℕ) → negsuc (suc n) +ℤ pos 1 ≡ negsuc n
next_up n = omega (arith, ints)

from_first : (r : ℕ) → pos 0 ≡ neg_ℤ (pos r) +ℤ pos r
from_first r = omega (arith, ints)

from_next : (b r : ℕ) → neg_ℤ (pos b) ≡ neg_ℤ (pos (b + r)) +ℤ pos r
from_next b r = omega (arith, ints)

pub scale-step : (t : ℤ → ℕ) (x : ℤ) → scale t (x +ℤ pos 1) ≡ scale t x +ℤ pos (rise t x)
unfolding scale
scale-step t (pos n) = ap (λ (m : ℕ). scale_of t (pos m)) (add-one n)
scale-step t (negsuc zero) = from_first (rise t (negsuc zero))
scale-step t (negsuc (suc n)) = ap (scale_of t) (next_up n) ∙ from_next (below t n) (rise t (negsuc (suc n)))

plus_more : (x : ℤ) (k : ℕ) → x +ℤ pos (suc k) ≡ (x +ℤ pos k) +ℤ pos 1
plus_more x k = omega (arith, ints)

plus_zero : (x : ℤ) → x +ℤ pos 0 ≡ x
plus_zero x = omega (arith, ints)

abbrev Rises : (ℤ → ℕ) → Type 0
Rises t = (x : ℤ) → t x ≤ t (x +ℤ pos 1)

pub record Slope (t : ℤ → ℕ) (x : ℤ) (k : ℕ) : Type 0 where
  pub up_to : scale t x ≤ℤ scale t (x +ℤ pos k)
  pub by_one : scale t (x +ℤ pos k) ≤ℤ (scale t x +ℤ pos k)
  pub by_climb : (scale t (x +ℤ pos k) +ℤ pos (t x)) ≤ℤ (scale t x +ℤ pos (t (x +ℤ pos k)))

step_up : (a b c : ℤ) (r : ℕ) → a ≤ℤ b → c ≡ b +ℤ pos r → a ≤ℤ c
step_up a b c r h e = omega (arith, ints)

step_one : (a b c : ℤ) (r k : ℕ) → b ≤ℤ (a +ℤ pos k) → c ≡ b +ℤ pos r → r ≤ 1 → c ≤ℤ (a +ℤ pos (suc k))
step_one a b c r k h e l = omega (arith, ints)

step_climb : (a b c : ℤ) (r m n o : ℕ) → (b +ℤ pos m) ≤ℤ (a +ℤ pos n) → c ≡ b +ℤ pos r → r + n ≤ o → (c +ℤ pos m) ≤ℤ (a +ℤ pos o)
step_climb a b c r m n o h e l = omega (arith, ints)

at_zero : (t : ℤ → ℕ) (x y : ℤ) → y ≡ x → (scale t x ≤ℤ scale t y) × (scale t y ≤ℤ (scale t x +ℤ pos 0)) × ((scale t y +ℤ pos (t x)) ≤ℤ (scale t x +ℤ pos (t y)))
at_zero t x y e =
    let s : scale t y ≡ scale t x = ap (scale t) e in
    let u : t y ≡ t x = ap t e in
    (omega (arith, ints), omega (arith, ints), omega (arith, ints))

rise_most : (a b : ℕ) → min 1 (b - a) ≤ 1
rise_most a b = omega arith

rise_climb : (a b : ℕ) → a ≤ b → min 1 (b - a) + a ≤ b
rise_climb a b h = omega arith

pub slope : (t : ℤ → ℕ) (x : ℤ) (k : ℕ) → Rises t → Slope t x k
slope t x zero h =
    let z = at_zero t x (x +ℤ pos 0) (plus_zero x) in
    record { up_to = z.0; by_one = z.1; by_climb = z.2 }
slope t x (suc k) h =
    let s : Slope t x k = slope t x k h in
    let y : ℤ = x +ℤ pos k in
    let m : scale t (x +ℤ pos (suc k)) ≡ scale t y +ℤ pos (rise t y) = ap (scale t) (plus_more x k) ∙ scale-step t y in
    record {
      up_to = step_up _ _ _ (rise t y) s.up_to m;
      by_one = step_one _ _ _ (rise t y) k s.by_one m (rise_most (t y) (t (y +ℤ pos 1)));
      by_climb = step_climb _ _ _ (rise t y) (t x) (t y) (t (x +ℤ pos (suc k))) s.by_climb m
          (subst (λ (z : ℤ). rise t y + t y ≤ t z) (sym (plus_more x k)) (rise_climb (t y) (t (y +ℤ pos 1)) (h y)));
    }

rise_one : (a b : ℕ) → a < b → min 1 (b - a) ≡ 1
rise_one a b h = omega arith

step_same : (a b c : ℤ) (r k : ℕ) → b ≡ a +ℤ pos k → c ≡ b +ℤ pos r → r ≡ 1 → c ≡ a +ℤ pos (suc k)
step_same a b c r k h e l = omega (arith, ints)

-- where it climbs all the way, it rises by one at each number
pub slope_one : (t : ℤ → ℕ) (x : ℤ) (k : ℕ) → ((j : ℕ) → j < k → t (x +ℤ pos j) < t ((x +ℤ pos j) +ℤ pos 1)) → scale t (x +ℤ pos k) ≡ scale t x +ℤ pos k
slope_one t x zero h = ap (scale t) (plus_zero x) ∙ sym (plus_zero (scale t x))
slope_one t x (suc k) h =
    let y : ℤ = x +ℤ pos k in
    step_same (scale t x) (scale t y) _ (rise t y) k (slope_one t x k (λ j l. h j (omega arith)))
    (ap (scale t) (plus_more x k) ∙ scale-step t y) (rise_one (t y) (t (y +ℤ pos 1)) (h k (omega arith)))
