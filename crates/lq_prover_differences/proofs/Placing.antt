-- An equation places a vertex that no arc before names.
use Rattle.std.proofs.Common.{◌≡◌, ◌≢◌, ℕ, ◌+◌, ◌≤◌, ◌<◌, refl, sym, ap, subst, ◌∙◌, arith, List, [], ◌∷◌, ◌++◌, Bool, true, false, if◌then◌else◌, ◌==◌, Some, IfSome, slice_get, inl, inr, length, take, ◌^◌, FitsSigned}
use Rattle.std.proofs.Math.IntN.{ℤ, pos, ◌+ℤ◌}
use Rattle.std.specs.Int.Signed.{◌≤ℤ◌}
use Rattle.std.proofs.lemmas.Int.{ints}
use Rattle.lq_prover_differences.specs.declared.arc.Arc.{Arc}
use Rattle.lq_prover_differences.specs.Arcs.{Potentials, ArcHolds, Meets, falls}
use Rattle.lq_prover_differences.specs.Range.{in_range}
use Rattle.lq_prover_differences.specs.Passes.{IsNarrow}
use Rattle.lq_prover_differences.specs.Solving.{IsBounded, IsSolved, IsUnnamed, IsPlacing, ArePair}
use Rattle.lq_prover_differences.proofs.Passing.{each, there, at_front, at_end, at_or_end, first_large}
use Rattle.lq_prover_differences.proofs.Solving.{taken_all, falls_taken, falls-append}
use Rattle.std.specs.Int.{w128}
use Rattle.std.proofs.lemmas.List.{take_more}
use Rattle.std.proofs.lemmas.Option.{slice_get_within, get_or_from_slice_get}
use borrow.Author.Differences.{down}

pub by_eqb : (m n : ℕ) {P : Type 0} → (m == n ≡ true → P) → (m == n ≡ false → P) → P
by_eqb m n {P} f g = by (m == n) refl
  where
    by : (b : Bool) → m == n ≡ b → P
    by true e = f e
    by false e = g e

pub same_of : (m n : ℕ) → m == n ≡ true → m ≡ n
same_of m n h = grind arith

pub apart_of : (m n : ℕ) → m == n ≡ false → m ≢ n
apart_of m n h = λ e. grind arith

of_apart : (m n : ℕ) → m ≢ n → m == n ≡ false
of_apart m n h = grind arith

-- 0 at one vertex
without : Potentials → ℕ → Potentials
without q x v = if v == x then pos 0 else q v

without_here : (q : Potentials) (x v : ℕ) → v == x ≡ true → without q x v ≡ pos 0
unfolding without
without_here q x v e = ap (λ b. if b then pos 0 else q v) e

without_there : (q : Potentials) (x v : ℕ) → v == x ≡ false → without q x v ≡ q v
unfolding without
without_there q x v e = ap (λ b. if b then pos 0 else q v) e

both : (x y p q c : ℤ) → x ≡ p → y ≡ q → p ≤ℤ (q +ℤ c) → x ≤ℤ (y +ℤ c)
both x y p q c e f h = omega (arith, ints)

-- arcs that don't name x are met alike
pub unnamed_meets : (front : List Arc) (x : ℕ) (p q : Potentials) → IsUnnamed front x → ((v : ℕ) → v ≢ x → q v ≡ p v) → Meets p front → Meets q front
unnamed_meets front x p q u same m = each front (λ k a. ArcHolds q a) (λ k a e.
    let n = there front (λ a. (a.from ≢ x) × (a.to ≢ x)) k a e (u k) in
    both _ _ _ _ a.cost (same a.to n.1) (same a.from n.0) (there front (ArcHolds p) k a e (m k)))

two_more : (front : List Arc) (a b : Arc) (q : Potentials) → Meets q ((front ++ a ∷ []) ++ b ∷ []) → Meets q front × ArcHolds q a × ArcHolds q b
two_more front a b q m = (
  each front (λ k c. ArcHolds q c) (λ k c e. there ((front ++ a ∷ []) ++ b ∷ []) (ArcHolds q) k c (at_front (front ++ a ∷ []) b k c (at_front front a k c e)) (m k)),
  there ((front ++ a ∷ []) ++ b ∷ []) (ArcHolds q) (length front) a (at_front (front ++ a ∷ []) b (length front) a (at_end front a)) (m (length front)),
  there ((front ++ a ∷ []) ++ b ∷ []) (ArcHolds q) (length (front ++ a ∷ [])) b (at_end (front ++ a ∷ []) b) (m (length (front ++ a ∷ []))),
)

pub placed_more : (front : List Arc) (a b : Arc) (p next : Potentials) → IsSolved front p → IsUnnamed front a.to → a.from ≢ a.to → b.from ≡ a.to → b.to ≡ a.from
    → a.cost +ℤ b.cost ≡ pos 0 → next a.to ≡ p a.from +ℤ a.cost → ((v : ℕ) → v ≢ a.to → next v ≡ p v) → IsSolved ((front ++ a ∷ []) ++ b ∷ []) next
placed_more front a b p next s u apart bf bt zero_sum here others = record {
  placed = placed;
  greatest = record {
    meets = each ((front ++ a ∷ []) ++ b ∷ []) (λ k c. ArcHolds next c) (λ k c e. elim (at_or_end (front ++ a ∷ []) b k c e) [
      | inl f ↦ elim (at_or_end front a k c f) [
        | inl g ↦ there front (ArcHolds next) k c g (unnamed_meets front x p next u others s.greatest.meets k)
        | inr g ↦ subst (λ d. ArcHolds next d) (sym g) holds_a
      ]
      | inr f ↦ subst (λ d. ArcHolds next d) (sym f) holds_b
    ]);
    low = λ v f. let n = not_placed v f in lower _ _ (others v n.0) (s.greatest.low v n.1);
    greatest = λ q m l v. greatest q (two_more front a b q m) l v;
    fixed = λ q r m o l v. fixed q r (two_more front a b q m) (two_more front a b r o) l v;
  };
}
  where
    x : ℕ
    x = a.to

    y : ℕ
    y = a.from

    placed : ℕ → Bool
    placed v = if v == x then true else s.placed v

    was_placed : (v : ℕ) → v == x ≡ false → placed v ≡ s.placed v
    was_placed v e = ap (λ b. if b then true else s.placed v) e

    true_false : true ≡ false → ⊥
    true_false h = cc

    not_placed : (v : ℕ) → placed v ≡ false → (v ≢ x) × (s.placed v ≡ false)
    not_placed v f = by_eqb v x
        (λ e. absurd (true_false (sym (ap (λ b. if b then true else s.placed v) e) ∙ f)))
        (λ e. (apart_of v x e, sym (was_placed v e) ∙ f))

    lower : (m n : ℤ) → m ≡ n → n ≤ℤ pos 0 → m ≤ℤ pos 0
    lower m n e h = omega (arith, ints)

    equal : (m n o c : ℤ) → m ≡ n +ℤ c → o ≡ n → m ≤ℤ (o +ℤ c)
    equal m n o c e f = omega (arith, ints)

    back : (m n o c d : ℤ) → m ≡ n +ℤ c → o ≡ n → c +ℤ d ≡ pos 0 → o ≤ℤ (m +ℤ d)
    back m n o c d e f g = omega (arith, ints)

    holds_a : ArcHolds next a
    holds_a = equal (next x) (p y) (next y) a.cost here (others y apart)

    holds_b : ArcHolds next b
    holds_b = subst (λ v. next v ≤ℤ (next b.from +ℤ b.cost)) (sym bt) (subst (λ v. next y ≤ℤ (next v +ℤ b.cost)) (sym bf)
        (back (next x) (p y) (next y) a.cost b.cost here (others y apart) zero_sum))

    cut_meets : (q : Potentials) → Meets q front → Meets (without q x) front
    cut_meets q m = unnamed_meets front x q (without q x) u (λ v n. without_there q x v (of_apart v x n)) m

    under : (m : ℤ) → m ≡ pos 0 → m ≤ℤ pos 0
    under m e = omega (arith, ints)

    cut_low : (q : Potentials) → ((v : ℕ) → placed v ≡ false → q v ≤ℤ pos 0) → (v : ℕ) → s.placed v ≡ false → without q x v ≤ℤ pos 0
    cut_low q l v f = by_eqb v x
        (λ e. under _ (without_here q x v e))
        (λ e. subst (λ z. z ≤ℤ pos 0) (sym (without_there q x v e)) (l v (was_placed v e ∙ f)))

    step : (qx qy c py nx : ℤ) → qx ≤ℤ (qy +ℤ c) → qy ≤ℤ py → nx ≡ py +ℤ c → qx ≤ℤ nx
    step qx qy c py nx h k e = omega (arith, ints)

    greatest : (q : Potentials) → Meets q front × ArcHolds q a × ArcHolds q b → ((v : ℕ) → placed v ≡ false → q v ≤ℤ pos 0) → (v : ℕ) → q v ≤ℤ next v
    greatest q m l v = by_eqb v x
        (λ e. subst (λ w. q w ≤ℤ next w) (sym (same_of v x e)) (step (q x) (q y) a.cost (p y) (next x) m.1 (at y apart) here))
        (λ e. subst (λ z. q v ≤ℤ z) (sym (others v (apart_of v x e))) (at v (apart_of v x e)))
      where
        at : (w : ℕ) → w ≢ x → q w ≤ℤ p w
        at w n = subst (λ z. z ≤ℤ p w) (without_there q x w (of_apart w x n)) (s.greatest.greatest (without q x) (cut_meets q m.0) (cut_low q l) w)

    zeros : (m n : ℤ) → m ≡ pos 0 → n ≡ pos 0 → m ≤ℤ n
    zeros m n e f = omega (arith, ints)

    same_order : (m n k l : ℤ) → m ≡ k → n ≡ l → k ≤ℤ l → m ≤ℤ n
    same_order m n k l e f h = omega (arith, ints)

    across : (qx qy rx ry c d : ℤ) → qx ≤ℤ (qy +ℤ c) → ry ≤ℤ (rx +ℤ d) → qy ≤ℤ ry → c +ℤ d ≡ pos 0 → qx ≤ℤ rx
    across qx qy rx ry c d h k l e = omega (arith, ints)

    fixed : (q r : Potentials) → Meets q front × ArcHolds q a × ArcHolds q b → Meets r front × ArcHolds r a × ArcHolds r b
        → ((v : ℕ) → placed v ≡ false → q v ≤ℤ r v) → (v : ℕ) → q v ≤ℤ r v
    fixed q r m o l v = by_eqb v x
        (λ e. subst (λ w. q w ≤ℤ r w) (sym (same_of v x e)) (across (q x) (q y) (r x) (r y) a.cost b.cost m.1 turned (at y apart) zero_sum))
        (λ e. at v (apart_of v x e))
      where
        turned : r y ≤ℤ (r x +ℤ b.cost)
        turned = subst (λ w. r y ≤ℤ (r w +ℤ b.cost)) bf (subst (λ w. r w ≤ℤ (r b.from +ℤ b.cost)) bt o.2)

        cut : (w : ℕ) → s.placed w ≡ false → without q x w ≤ℤ without r x w
        cut w f = by_eqb w x
            (λ e. zeros _ _ (without_here q x w e) (without_here r x w e))
            (λ e. same_order _ _ _ _ (without_there q x w e) (without_there r x w e) (l w (was_placed w e ∙ f)))

        at : (w : ℕ) → w ≢ x → q w ≤ℤ r w
        at w n = subst (λ z. z ≤ℤ r w) (without_there q x w (of_apart w x n)) (subst (λ z. without q x w ≤ℤ z) (without_there r x w (of_apart w x n))
            (s.greatest.fixed (without q x) (without r x) (cut_meets q m.0) (cut_meets r o.0) cut w))

pair_meets : (front : List Arc) (a b : Arc) (q : Potentials) → Meets q front × ArcHolds q a × ArcHolds q b → Meets q ((front ++ a ∷ []) ++ b ∷ [])
pair_meets front a b q m = each ((front ++ a ∷ []) ++ b ∷ []) (λ k c. ArcHolds q c) (λ k c e. elim (at_or_end (front ++ a ∷ []) b k c e) [
  | inl f ↦ elim (at_or_end front a k c f) [
    | inl g ↦ there front (ArcHolds q) k c g (m.0 k)
    | inr g ↦ subst (λ d. ArcHolds q d) (sym g) m.1
  ]
  | inr f ↦ subst (λ d. ArcHolds q d) (sym f) m.2
])

swap_meets : (front : List Arc) (a b : Arc) (q : Potentials) → Meets q ((front ++ a ∷ []) ++ b ∷ []) → Meets q ((front ++ b ∷ []) ++ a ∷ [])
swap_meets front a b q m = let n = two_more front a b q m in pair_meets front b a q (n.0, n.2, n.1)

-- the order of two arcs doesn't matter
solved_swap : (front : List Arc) (a b : Arc) (p : Potentials) → IsSolved ((front ++ a ∷ []) ++ b ∷ []) p → IsSolved ((front ++ b ∷ []) ++ a ∷ []) p
solved_swap front a b p s = record {
  placed = s.placed;
  greatest = record {
    meets = swap_meets front a b p s.greatest.meets;
    low = s.greatest.low;
    greatest = λ q m l. s.greatest.greatest q (swap_meets front b a q m) l;
    fixed = λ q r m o l. s.greatest.fixed q r (swap_meets front b a q m) (swap_meets front b a r o) l;
  };
}

none : Arc
none = record { tag = 0; from = 0; to = 0; cost = pos 0; forward = false }

one_taken : (arcs : List Arc) (k : ℕ) (a : Arc) → slice_get arcs k ≡ Some a → take (k + 1) arcs ≡ take k arcs ++ a ∷ []
one_taken arcs k a e = take_more arcs k none (slice_get_within arcs k a e) ∙ ap (λ b. take k arcs ++ b ∷ []) (get_or_from_slice_get arcs k a none e)

pair_taken : (arcs : List Arc) (k : ℕ) (a b : Arc) → ArePair arcs k a b → take (k + 2) arcs ≡ (take k arcs ++ a ∷ []) ++ b ∷ []
pair_taken arcs k a b h =
    ap (λ n. take n arcs) one_one ∙ one_taken arcs (k + 1) b h.1 ∙ ap (λ l. l ++ b ∷ []) (one_taken arcs k a h.0)
  where
    one_one : k + 2 ≡ (k + 1) + 1
    one_one = omega arith

pub placed_step : (arcs : List Arc) (k : ℕ) (touched : ℕ → Bool) (a : Arc) (p next : Potentials) → IsPlacing arcs k touched a → IsSolved (take k arcs) p
    → ((v : ℕ) → touched v ≡ false → IsUnnamed (take k arcs) v) → next a.to ≡ p a.from +ℤ a.cost → ((v : ℕ) → v ≢ a.to → next v ≡ p v) → IsSolved (take (k + 2) arcs) next
placed_step arcs k touched a p next h s u here others =
    elim h.pair [
      | inl e ↦ subst (λ l. IsSolved l next) (sym (pair_taken arcs k a h.back e)) both_in
      | inr e ↦ subst (λ l. IsSolved l next) (sym (pair_taken arcs k h.back a e)) (solved_swap (take k arcs) a h.back next both_in)
    ]
  where
    both_in : IsSolved ((take k arcs ++ a ∷ []) ++ h.back ∷ []) next
    both_in = placed_more (take k arcs) a h.back p next s (u a.to h.untouched) h.opposite.apart h.opposite.from h.opposite.to h.opposite.cost here others

unnamed_more : (front : List Arc) (a : Arc) (v : ℕ) → IsUnnamed front v → a.from ≢ v → a.to ≢ v → IsUnnamed (front ++ a ∷ []) v
unnamed_more front a v u f t = each (front ++ a ∷ []) (λ k c. (c.from ≢ v) × (c.to ≢ v)) (λ k c e. elim (at_or_end front a k c e) [
  | inl g ↦ there front (λ c. (c.from ≢ v) × (c.to ≢ v)) k c g (u k)
  | inr g ↦ subst (λ (c : Arc). (c.from ≢ v) × (c.to ≢ v)) (sym g) (f, t)
])

pub unnamed_one : (arcs : List Arc) (k : ℕ) (a : Arc) (v : ℕ) → slice_get arcs k ≡ Some a → IsUnnamed (take k arcs) v → a.from ≢ v → a.to ≢ v → IsUnnamed (take (k + 1) arcs) v
unnamed_one arcs k a v e u f t = subst (λ l. IsUnnamed l v) (sym (one_taken arcs k a e)) (unnamed_more (take k arcs) a v u f t)

pub unnamed_pair : (arcs : List Arc) (k : ℕ) (touched : ℕ → Bool) (a : Arc) (v : ℕ) → IsPlacing arcs k touched a → IsUnnamed (take k arcs) v → a.from ≢ v → a.to ≢ v
    → IsUnnamed (take (k + 2) arcs) v
unnamed_pair arcs k touched a v h u f t =
    elim h.pair [
      | inl e ↦ subst (λ l. IsUnnamed l v) (sym (pair_taken arcs k a h.back e)) (unnamed_more (take k arcs ++ a ∷ []) h.back v (unnamed_more (take k arcs) a v u f t) back_from back_to)
      | inr e ↦ subst (λ l. IsUnnamed l v) (sym (pair_taken arcs k h.back a e)) (unnamed_more (take k arcs ++ h.back ∷ []) a v (unnamed_more (take k arcs) h.back v u back_from back_to) f t)
    ]
  where
    back_from : h.back.from ≢ v
    back_from e = t (sym h.opposite.from ∙ e)

    back_to : h.back.to ≢ v
    back_to e = f (sym h.opposite.to ∙ e)

pub placing_at : (arcs : List Arc) (k : ℕ) (touched : ℕ → Bool) (a : Arc) (P : Arc → Type 0) → IsPlacing arcs k touched a → ((j : ℕ) → IfSome (slice_get arcs j) P) → P a
placing_at arcs k touched a P h all = elim h.pair [
  | inl e ↦ there arcs P k a e.0 (all k)
  | inr e ↦ there arcs P (k + 1) a e.1 (all (k + 1))
]

room_of : (arcs : List Arc) (k n : ℕ) (touched : ℕ → Bool) (a : Arc) → IsPlacing arcs k touched a → falls arcs ≤ n → falls (take k arcs) + down a.cost ≤ n
room_of arcs k n touched a h l = elim h.pair [
  | inl e ↦ omega (arith, l, falls_taken (k + 1) arcs, ap falls (one_taken arcs k a e.0), falls-append (take k arcs) (a ∷ []))
  | inr e ↦ omega (arith, l, falls_taken (k + 2) arcs, ap falls (pair_taken arcs k h.back a e), falls-append (take k arcs ++ h.back ∷ []) (a ∷ []), falls-append (take k arcs) (h.back ∷ []))
]

pub placed_large : (arcs : List Arc) (k n : ℕ) (touched : ℕ → Bool) (a : Arc) (p : Potentials) → IsPlacing arcs k touched a → IsSolved (take k arcs) p → IsBounded n arcs
    → ¬ (FitsSigned w128 (p a.from +ℤ a.cost)) → 2 ^ 126 ≤ n
placed_large arcs k n touched a p h s b past = first_large front a p (falls front) n narrow past
  where
    front : List Arc
    front = take k arcs

    narrow : IsNarrow (falls front) n front a p
    narrow = record {
      meets = s.greatest.meets;
      range = in_range s.placed front p s.greatest;
      costs = each (front ++ a ∷ []) (λ j c. c.cost ≤ℤ pos n) (λ j c e. elim (at_or_end front a j c e) [
        | inl g ↦ there front (λ c. c.cost ≤ℤ pos n) j c g (taken_all k arcs (λ c. c.cost ≤ℤ pos n) b.costs j)
        | inr g ↦ subst (λ (c : Arc). c.cost ≤ℤ pos n) (sym g) (placing_at arcs k touched a (λ c. c.cost ≤ℤ pos n) h b.costs)
      ]);
      room = room_of arcs k n touched a h b.fall;
    }

pub pair_within : (arcs : List Arc) (k : ℕ) (touched : ℕ → Bool) (a : Arc) → IsPlacing arcs k touched a → k + 1 < length arcs
pair_within arcs k touched a h = elim h.pair [
  | inl e ↦ slice_get_within arcs (k + 1) h.back e.1
  | inr e ↦ slice_get_within arcs (k + 1) a e.1
]

-- potentials that agree everywhere are one
pub one_potential : (p q : Potentials) → ((v : ℕ) → p v ≡ q v) → p ≡ q
one_potential p q h = λ i. λ v. h v i
