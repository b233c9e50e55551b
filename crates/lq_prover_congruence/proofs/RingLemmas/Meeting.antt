-- Rings read from another of their indexes, and that what is together is so in every list of the rings.
use Rattle.std.proofs.Common.{◌≡◌, ◌⊎◌, inl, inr, ℕ, ◌+◌, ◌<◌, List, [], ◌∷◌, ◌++◌, length, get_or, refl, sym, ap, ◌∙◌, subst, arith, append-nil}
use Rattle.std.proofs.lemmas.Bool.{cases_eq}
use Rattle.std.proofs.lemmas.Bool.Decides.{nat_tests}
use Rattle.lq_prover_congruence.specs.Ring.Ring.{Meets, IsRing, AreRings, IsRings, IsTogether, times, all_times}

pub times-here : (i : ℕ) (xs : List ℕ) → times i (i ∷ xs) ≡ 1 + times i xs
times-here i xs = grind (arith, nat_tests)

pub times-other : (i x : ℕ) (xs : List ℕ) → (i ≡ x → ⊥) → times i (x ∷ xs) ≡ times i xs
times-other i x xs h = grind (arith, nat_tests)

pub times-append : (i : ℕ) (xs ys : List ℕ) → times i (xs ++ ys) ≡ times i xs + times i ys
times-append i [] ys = omega arith
times-append i (x ∷ xs) ys = omega (arith, times-append i xs ys)

-- a list that has a, parted before it
pub parted : (a : ℕ) (xs : List ℕ) → 0 < times a xs → (u : List ℕ) × (v : List ℕ) × (xs ≡ u ++ a ∷ v)
parted a [] h = absurd (omega arith)
parted a (x ∷ xs) h =
    elim (cases_eq a x) [
      | inl e ↦ ([], xs, ap (λ y. y ∷ xs) (sym e))
      | inr d ↦
          let p = parted a xs (omega (arith, times-other a x xs d)) in
          (x ∷ p.0, p.1, ap (λ l. x ∷ l) p.2)
    ]

pub split : (next : List ℕ) (a : ℕ) (xs ys : List ℕ) (z : ℕ) → Meets next a (xs ++ ys) z → (m : ℕ) × Meets next a xs m × Meets next m ys z
split next a [] ys z h = (a, refl, h)
split next a (x ∷ xs) ys z h =
    let s = split next (get_or next x 0) xs ys z h.2 in (s.0, (h.0, h.1, s.1), s.2)

pub joined : (next : List ℕ) (a : ℕ) (xs : List ℕ) (m : ℕ) (ys : List ℕ) (z : ℕ) → Meets next a xs m → Meets next m ys z → Meets next a (xs ++ ys) z
joined next a [] m ys z h k = let P : ℕ → Type 0 = λ n. Meets next n ys z in subst P (sym h) k
joined next a (x ∷ xs) m ys z h k = (h.0, h.1, joined next (get_or next x 0) xs m ys z h.2 k)

-- the same ring from another of its indexes on
pub turned : (next : List ℕ) (u : List ℕ) (a : ℕ) (v : List ℕ) → IsRing next (u ++ a ∷ v) → IsRing next (a ∷ v ++ u)
turned next [] a v h = let P : List ℕ → Type 0 = λ l. Meets next a (a ∷ l) a in subst P (sym (append-nil v)) h
turned next (x ∷ u) a v h =
    let s = split next x (x ∷ u) (a ∷ v) x h in
    let e : s.0 ≡ a = s.2.0 in
    let P : ℕ → Type 0 = λ n. Meets next x (x ∷ u) n in
    let Q : ℕ → Type 0 = λ n. Meets next n (a ∷ v) x in
    joined next a (a ∷ v) x (x ∷ u) a (subst Q e s.2) (subst P e s.1)

-- the ring of a, from a on, and the others
pub record Pulled (next : List ℕ) (rs : List (List ℕ)) (a : ℕ) : Type 0 where
  pub tail : List ℕ
  pub rest : List (List ℕ)
  pub rings : AreRings next ((a ∷ tail) ∷ rest)
  pub same : (i : ℕ) → all_times i ((a ∷ tail) ∷ rest) ≡ all_times i rs

times-turned : (i : ℕ) (u : List ℕ) (a : ℕ) (v : List ℕ) (r : List ℕ) → r ≡ u ++ a ∷ v → times i (a ∷ v ++ u) ≡ times i r
times-turned i u a v r e = omega (arith, ap (times i) e, times-append i u (a ∷ v), times-append i v u)

pub pulled : (next : List ℕ) (rs : List (List ℕ)) (a : ℕ) → AreRings next rs → 0 < all_times a rs → Pulled next rs a
pulled next [] a h k = absurd (omega arith)
pulled next (r ∷ rs) a h k =
    elim (cases_eq (times a r) 0) [
      | inl e ↦
          let p = pulled next rs a h.1 (omega arith) in
          record { tail = p.tail; rest = r ∷ p.rest; rings = (p.rings.0, (h.0, p.rings.1)); same = λ i. omega (arith, p.same i) }
      | inr d ↦
          let p = parted a r (omega arith) in
          let P : List ℕ → Type 0 = λ l. IsRing next l in
          record { tail = p.1 ++ p.0; rest = rs; rings = (turned next p.0 a p.1 (subst P p.2 h.0), h.1); same = λ i. omega (arith, times-turned i p.0 a p.1 r p.2) }
    ]

-- with the whole list of the rings
pub pull : (next : List ℕ) (rs : List (List ℕ)) (a : ℕ) → IsRings next rs → a < length next → (p : List ℕ) × (rest : List (List ℕ)) × IsRings next ((a ∷ p) ∷ rest)
pull next rs a h k =
    let p = pulled next rs a h.rings (omega (arith, h.once a k)) in
    (p.tail, p.rest, record { rings = p.rings; once = λ i l. p.same i ∙ h.once i l })

-- one of the lists has both
abbrev pub HaveBoth : List (List ℕ) → ℕ → ℕ → Type 0
HaveBoth [] i j = ⊥
HaveBoth (r ∷ rs) i j = ((0 < times i r) × (0 < times j r)) ⊎ HaveBoth rs i j

pub both-all : (rs : List (List ℕ)) (i j : ℕ) → HaveBoth rs i j → (0 < all_times i rs) × (0 < all_times j rs)
both-all [] i j h = absurd h
both-all (r ∷ rs) i j h =
    elim h [ inl p ↦ (omega arith, omega arith) | inr q ↦ let b = both-all rs i j q in (omega arith, omega arith) ]

-- what is in a ring is below the number of indexes
pub met : (next : List ℕ) (a : ℕ) (xs : List ℕ) (z : ℕ) (i : ℕ) → Meets next a xs z → 0 < times i xs → i < length next
met next a [] z i h k = absurd (omega arith)
met next a (x ∷ xs) z i h k =
    elim (cases_eq i x) [
      | inl e ↦ omega arith
      | inr d ↦ met next (get_or next x 0) xs z i h.2 (omega (arith, times-other i x xs d))
    ]

ring-goes : (next : List ℕ) (r : List ℕ) (i j : ℕ) → IsRing next r → 0 < times i r → 0 < times j r → IsTogether next i j
ring-goes next r i j h k l =
    let p = parted i r k in
    let P : List ℕ → Type 0 = λ l. IsRing next l in
    let t = turned next p.0 i p.1 (subst P p.2 h) in
    let q = parted j (i ∷ p.1 ++ p.0) (omega (arith, times-turned j p.0 i p.1 r p.2)) in
    let Q : List ℕ → Type 0 = λ l. Meets next i l i in
    let s = split next i q.0 (j ∷ q.1) i (subst Q q.2 t) in
    let e : s.0 ≡ j = s.2.0 in
    let R : ℕ → Type 0 = λ n. Meets next i q.0 n in
    (met next i (i ∷ p.1 ++ p.0) i i t (omega (arith, times-here i (p.1 ++ p.0))), (q.0, subst R e s.1))

pub together-both : (next : List ℕ) (rs : List (List ℕ)) (i j : ℕ) → AreRings next rs → HaveBoth rs i j → IsTogether next i j
together-both next [] i j h k = absurd k
together-both next (r ∷ rs) i j h k =
    elim k [ inl p ↦ ring-goes next r i j h.0 p.0 p.1 | inr q ↦ together-both next rs i j h.1 q ]

-- the one after an index of a ring is in the ring
after : (next : List ℕ) (r : List ℕ) (i : ℕ) → IsRing next r → 0 < times i r → 0 < times (get_or next i 0) r
after next r i h k =
    let p = parted i r k in
    let P : List ℕ → Type 0 = λ l. IsRing next l in
    let t = turned next p.0 i p.1 (subst P p.2 h) in
    let n = get_or next i 0 in
    let step : (l : List ℕ) → Meets next n l i → 0 < times n (i ∷ l) = λ l. after_by next i n l in
    omega (arith, step (p.1 ++ p.0) t.2, times-turned n p.0 i p.1 r p.2)
  where
    after_by : (next : List ℕ) (i n : ℕ) (l : List ℕ) → Meets next n l i → 0 < times n (i ∷ l)
    after_by next i n [] m = grind (arith, nat_tests)
    after_by next i n (x ∷ l) m = grind (arith, nat_tests)

stays : (next : List ℕ) (r : List ℕ) (i : ℕ) (xs : List ℕ) (j : ℕ) → IsRing next r → 0 < times i r → Meets next i xs j → 0 < times j r
stays next r i [] j h k m = let P : ℕ → Type 0 = λ n. 0 < times n r in subst P m k
stays next r i (x ∷ xs) j h k m =
    let P : ℕ → Type 0 = λ n. 0 < times n r in
    stays next r (get_or next x 0) xs j h (after next r x h (subst P m.0 k)) m.2

goes-both : (next : List ℕ) (rs : List (List ℕ)) (i : ℕ) (xs : List ℕ) (j : ℕ) → AreRings next rs → 0 < all_times i rs → Meets next i xs j → HaveBoth rs i j
goes-both next [] i xs j h k m = absurd (omega arith)
goes-both next (r ∷ rs) i xs j h k m =
    elim (cases_eq (times i r) 0) [
      | inl e ↦ inr (goes-both next rs i xs j h.1 (omega arith) m)
      | inr d ↦
          let here : 0 < times i r = omega arith in
          inl (here, stays next r i xs j h.0 here m)
    ]

pub both-together : (next : List ℕ) (rs : List (List ℕ)) (i j : ℕ) → IsRings next rs → IsTogether next i j → HaveBoth rs i j
both-together next rs i j h k = goes-both next rs i k.1.0 j h.rings (omega (arith, h.once i k.0)) k.1.1
