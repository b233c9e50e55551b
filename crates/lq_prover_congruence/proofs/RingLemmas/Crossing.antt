-- Two indexes whose followers change places.
use Rattle.std.proofs.Common.{◌≡◌, ◌-◌, take, ◌⊎◌, ◌↔◌, inl, inr, ℕ, ◌+◌, ◌<◌, ◌≤◌, List, [], ◌∷◌, ◌++◌, length, get_or, swap, refl, sym, ap, ◌∙◌, subst, arith, length-append, ext_get_or}
use Rattle.std.proofs.lemmas.Bool.{cases_eq}
use Rattle.std.proofs.lemmas.Bool.Decides.{nat_tests}
use Rattle.std.proofs.lemmas.List.Edits.{swapped_from_swap, length-swap}
use Rattle.std.proofs.Math.Seq.{get_or-append_seam}
use Rattle.std.proofs.lemmas.List.{get_or_append_left, take-append-le, take_all}
use Rattle.lq_prover_congruence.specs.Ring.Ring.{Meets, IsRing, AreRings, IsRings, IsTogether, times, all_times}
use Rattle.lq_prover_congruence.proofs.RingLemmas.Meeting.{times-here, times-other, times-append, parted, split, joined, met, HaveBoth, both-all, together-both, both-together, pull, pulled}

-- what follows the indexes of the list is the same
pub carried : (next new : List ℕ) (a : ℕ) (xs : List ℕ) (z : ℕ) → length new ≡ length next → ((x : ℕ) → 0 < times x xs → get_or new x 0 ≡ get_or next x 0) → Meets next a xs z → Meets new a xs z
carried next new a [] z l h m = m
carried next new a (x ∷ xs) z l h m =
    let here : get_or new x 0 ≡ get_or next x 0 = h x (omega (arith, times-here x xs)) in
    let P : ℕ → Type 0 = λ n. Meets new n xs z in
    (m.0, omega arith, subst P (sym here) (carried next new (get_or next x 0) xs z l (λ y k. h y (omega arith)) m.2))

pub carried-ring : (next new : List ℕ) (r : List ℕ) → length new ≡ length next → ((x : ℕ) → 0 < times x r → get_or new x 0 ≡ get_or next x 0) → IsRing next r → IsRing new r
carried-ring next new [] l h m = m
carried-ring next new (x ∷ xs) l h m = carried next new x (x ∷ xs) x l h m

pub carried-rings : (next new : List ℕ) (rs : List (List ℕ)) → length new ≡ length next → ((x : ℕ) → 0 < all_times x rs → get_or new x 0 ≡ get_or next x 0) → AreRings next rs → AreRings new rs
carried-rings next new [] l h m = tt
carried-rings next new (r ∷ rs) l h m =
    (carried-ring next new r l (λ x k. h x (omega arith)) m.0, carried-rings next new rs l (λ x k. h x (omega arith)) m.1)

-- what the two lists have in common
abbrev pub Crossed : List ℕ → List ℕ → ℕ → ℕ → Type 0
Crossed next new a b =
    (length new ≡ length next) × (get_or new a 0 ≡ get_or next b 0) × (get_or new b 0 ≡ get_or next a 0)
    × ((m : ℕ) → (m ≡ a → ⊥) → (m ≡ b → ⊥) → get_or new m 0 ≡ get_or next m 0)

pub crossed : (next new : List ℕ) (a b : ℕ) → a < length next → b < length next → new ≡ swap next a b → Crossed next new a b
crossed next new a b k l e =
    let s = swapped_from_swap next new a b 0 k l e in
    (ap length e ∙ length-swap next a b, s.0, s.1, s.2)

elsewhere : (next new : List ℕ) (a b : ℕ) (xs : List ℕ) → Crossed next new a b → times a xs ≡ 0 → times b xs ≡ 0 → (x : ℕ) → 0 < times x xs → get_or new x 0 ≡ get_or next x 0
elsewhere next new a b xs h k l x m =
    let P : ℕ → Type 0 = λ n. times n xs ≡ 0 in
    h.3 x (λ e. absurd (let z = subst P (sym e) k in omega arith)) (λ e. absurd (let z = subst P (sym e) l in omega arith))

others : (next new : List ℕ) (a b : ℕ) (rs : List (List ℕ)) → Crossed next new a b → all_times a rs ≡ 0 → all_times b rs ≡ 0 → AreRings next rs → AreRings new rs
others next new a b rs h k l m =
    let P : ℕ → Type 0 = λ n. all_times n rs ≡ 0 in
    carried-rings next new rs h.0 (λ x z. h.3 x (λ e. absurd (let y = subst P (sym e) k in omega arith)) (λ e. absurd (let y = subst P (sym e) l in omega arith))) m

-- how often a and b are in the parts of two rings, or of one
pub record Once (a b : ℕ) (p q : List ℕ) (rs : List (List ℕ)) : Type 0 where
  pub differ : a ≡ b → ⊥
  pub a_p : times a p ≡ 0
  pub a_q : times a q ≡ 0
  pub a_rs : all_times a rs ≡ 0
  pub b_p : times b p ≡ 0
  pub b_q : times b q ≡ 0
  pub b_rs : all_times b rs ≡ 0

pub once-two : (a b : ℕ) (p q : List ℕ) (rs : List (List ℕ)) → all_times a ((a ∷ p) ∷ (b ∷ q) ∷ rs) ≡ 1 → all_times b ((a ∷ p) ∷ (b ∷ q) ∷ rs) ≡ 1 → Once a b p q rs
once-two a b p q rs k l =
    let differ : a ≡ b → ⊥ = λ e. absurd (let P : ℕ → Type 0 = λ n. times a (n ∷ q) ≡ 1 + times a q in let y = subst P e (times-here a q) in omega (arith, times-here a p)) in
    record {
      differ = differ;
      a_p = omega (arith, times-here a p);
      a_q = omega (arith, times-here a p);
      a_rs = omega (arith, times-here a p);
      b_p = omega (arith, times-here b q);
      b_q = omega (arith, times-here b q);
      b_rs = omega (arith, times-here b q);
    }

joined-times : (i a b : ℕ) (p q : List ℕ) (rs : List (List ℕ)) → all_times i ((a ∷ q ++ b ∷ p) ∷ rs) ≡ all_times i ((a ∷ p) ∷ (b ∷ q) ∷ rs)
joined-times i a b p q rs = omega (arith, times-append i q (b ∷ p))

pub spliced : (next new : List ℕ) (a b : ℕ) (p q : List ℕ) (rs : List (List ℕ)) → Crossed next new a b → IsRings next ((a ∷ p) ∷ (b ∷ q) ∷ rs) → IsRings new ((a ∷ q ++ b ∷ p) ∷ rs)
spliced next new a b p q rs h r =
    let a_in : a < length next = r.rings.0.1 in
    let b_in : b < length next = r.rings.1.0.1 in
    let o = once-two a b p q rs (r.once a a_in) (r.once b b_in) in
    let on_p = carried next new (get_or next a 0) p a h.0 (elsewhere next new a b p h o.a_p o.b_p) r.rings.0.2 in
    let on_q = carried next new (get_or next b 0) q b h.0 (elsewhere next new a b q h o.a_q o.b_q) r.rings.1.0.2 in
    let P : ℕ → Type 0 = λ n. Meets new n q b in
    let Q : ℕ → Type 0 = λ n. Meets new n p a in
    let back : Meets new b (b ∷ p) a = (refl, omega arith, subst Q (sym h.2) on_p) in
    record {
      rings = ((refl, omega arith, joined new (get_or new a 0) q b (b ∷ p) a (subst P (sym h.1) on_q) back), others next new a b rs h o.a_rs o.b_rs r.rings.1.1);
      once = λ i k. joined-times i a b p q rs ∙ r.once i (omega arith);
    }

pub parts : (next new : List ℕ) (a b : ℕ) (p q : List ℕ) (rs : List (List ℕ)) → Crossed next new a b → IsRings next ((a ∷ q ++ b ∷ p) ∷ rs) → IsRings new ((a ∷ p) ∷ (b ∷ q) ∷ rs)
parts next new a b p q rs h r =
    let a_in : a < length next = r.rings.0.1 in
    let s = split next (get_or next a 0) q (b ∷ p) a r.rings.0.2 in
    let e : s.0 ≡ b = s.2.0 in
    let R : ℕ → Type 0 = λ n. n < length next in
    let b_in : b < length next = subst R e (let z : s.0 < length next = omega arith in z) in
    let o = once-two a b p q rs (sym (joined-times a a b p q rs) ∙ r.once a a_in) (sym (joined-times b a b p q rs) ∙ r.once b b_in) in
    let B : ℕ → Type 0 = λ n. Meets next n (b ∷ p) a in
    let old_p = subst B e s.2 in
    let D : ℕ → Type 0 = λ n. Meets next (get_or next a 0) q n in
    let on_p = carried next new (get_or next b 0) p a h.0 (elsewhere next new a b p h o.a_p o.b_p) old_p.2 in
    let on_q = carried next new (get_or next a 0) q b h.0 (elsewhere next new a b q h o.a_q o.b_q) (subst D e s.1) in
    let P : ℕ → Type 0 = λ n. Meets new n p a in
    let Q : ℕ → Type 0 = λ n. Meets new n q b in
    record {
      rings = ((refl, omega arith, subst P (sym h.1) on_p), ((refl, omega arith, subst Q (sym h.2) on_q), others next new a b rs h o.a_rs o.b_rs r.rings.1));
      once = λ i k. sym (joined-times i a b p q rs) ∙ r.once i (omega arith);
    }

-- the rings of two indexes that aren't in one, and the others
pub record Two (next : List ℕ) (a b : ℕ) : Type 0 where
  pub p : List ℕ
  pub q : List ℕ
  pub rs : List (List ℕ)
  pub are : IsRings next ((a ∷ p) ∷ (b ∷ q) ∷ rs)

pub two : (next : List ℕ) (a b : ℕ) (rs : List (List ℕ)) → IsRings next rs → a < length next → b < length next → (IsTogether next a b → ⊥) → Two next a b
two next a b rs h k l n =
    let x = pull next rs a h k in
    let rings_a : IsRings next ((a ∷ x.0) ∷ x.1) = x.2 in
    let gone : times b (a ∷ x.0) ≡ 0 =
    elim (cases_eq (times b (a ∷ x.0)) 0) [
      | inl e ↦ e
      | inr d ↦ absurd (n (together-both next ((a ∷ x.0) ∷ x.1) a b rings_a.rings (inl (omega (arith, times-here a x.0), omega arith))))
    ]
    in
    let y = pulled next x.1 b rings_a.rings.1 (omega (arith, rings_a.once b l)) in
    record {
      p = x.0;
      q = y.tail;
      rs = y.rest;
      are = record { rings = (rings_a.rings.0, y.rings); once = λ i m. omega (arith, y.same i, rings_a.once i m) };
    }

-- the ring of two indexes that are in one, and the others
pub record One (next : List ℕ) (a b : ℕ) : Type 0 where
  pub p : List ℕ
  pub q : List ℕ
  pub rs : List (List ℕ)
  pub are : IsRings next ((a ∷ q ++ b ∷ p) ∷ rs)

pub one : (next : List ℕ) (a b : ℕ) (rs : List (List ℕ)) → IsRings next rs → (a ≡ b → ⊥) → IsTogether next a b → One next a b
one next a b rs h d t =
    let x = pull next rs a h t.0 in
    let rings_a : IsRings next ((a ∷ x.0) ∷ x.1) = x.2 in
    let here : 0 < times b x.0 =
    elim (both-together next ((a ∷ x.0) ∷ x.1) a b rings_a t) [
      | inl m ↦ omega (arith, times-other b a x.0 (λ e. d (sym e)))
      | inr m ↦ absurd (omega (arith, (both-all x.1 a b m).0, rings_a.once a t.0, times-here a x.0))
    ]
    in
    let y = parted b x.0 here in
    let P : List ℕ → Type 0 = λ l. IsRings next ((a ∷ l) ∷ x.1) in
    record { p = y.1; q = y.0; rs = x.1; are = subst P y.2 rings_a }

abbrev pub Joined : List ℕ → ℕ → ℕ → ℕ → ℕ → Type 0
Joined next a b i j = IsTogether next i j ⊎ ((IsTogether next i a × IsTogether next b j) ⊎ (IsTogether next i b × IsTogether next a j))

in-joined : (next : List ℕ) (a b : ℕ) (p q : List ℕ) (rs : List (List ℕ)) (i z : ℕ) → IsRings next ((a ∷ p) ∷ (b ∷ q) ∷ rs) → all_times z rs ≡ 0 → HaveBoth ((a ∷ p) ∷ (b ∷ q) ∷ rs) i z → 0 < times i (a ∷ q ++ b ∷ p)
in-joined next a b p q rs i z r n h =
    elim h [
      | inl m ↦ omega (arith, times-append i q (b ∷ p))
      | inr k ↦ elim k [
        | inl m ↦ omega (arith, times-append i q (b ∷ p))
        | inr m ↦ absurd (omega (arith, (both-all rs i z m).1))
      ]
    ]

flipped : (next : List ℕ) (rs : List (List ℕ)) (i j : ℕ) → IsRings next rs → IsTogether next i j → IsTogether next j i
flipped next rs i j r h = together-both next rs j i r.rings (swapped rs i j (both-together next rs i j r h))
  where
    swapped : (rs : List (List ℕ)) (i j : ℕ) → HaveBoth rs i j → HaveBoth rs j i
    swapped [] i j h = h
    swapped (r ∷ rs) i j h = elim h [ inl m ↦ inl (m.1, m.0) | inr m ↦ inr (swapped rs i j m) ]

pub joined-together : (next new : List ℕ) (a b : ℕ) (w : Two next a b) (i j : ℕ) → Crossed next new a b → IsTogether new i j ↔ Joined next a b i j
joined-together next new a b w i j h =
    let r = w.are in
    let n = spliced next new a b w.p w.q w.rs h r in
    let o = once-two a b w.p w.q w.rs (r.once a r.rings.0.1) (r.once b r.rings.1.0.1) in
    let a_here = times-here a w.p in
    let b_here = times-here b w.q in
    let rs = (a ∷ w.p) ∷ (b ∷ w.q) ∷ w.rs in
    let of_both : (x y : ℕ) → HaveBoth rs x y → IsTogether next x y = λ x y k. together-both next rs x y r.rings k in
    let in_p : (x : ℕ) → (0 < times x (a ∷ w.p)) ⊎ (times x (a ∷ w.p) ≡ 0) = λ x. some-or-none x (a ∷ w.p) in
    let i_app = times-append i w.q (b ∷ w.p) in
    let j_app = times-append j w.q (b ∷ w.p) in (
      λ t. elim (both-together new ((a ∷ w.q ++ b ∷ w.p) ∷ w.rs) i j n t) [
        | inr m ↦ inl (of_both i j (inr (inr m)))
        | inl m ↦ elim (in_p i) [
          | inl ip ↦ elim (in_p j) [
            | inl jp ↦ inl (of_both i j (inl (ip, jp)))
            | inr jn ↦ inr (inl (of_both i a (inl (ip, omega arith)), of_both b j (inr (inl (omega arith, omega arith)))))
          ]
          | inr im ↦ elim (in_p j) [
            | inl jp ↦ inr (inr (of_both i b (inr (inl (omega arith, omega arith))), of_both a j (inl (omega arith, jp))))
            | inr jn ↦ inl (of_both i j (inr (inl (omega arith, omega arith))))
          ]
        ]
      ],
      λ t.
          let of_new : HaveBoth ((a ∷ w.q ++ b ∷ w.p) ∷ w.rs) i j → IsTogether new i j = λ k. together-both new ((a ∷ w.q ++ b ∷ w.p) ∷ w.rs) i j n.rings k in
          let by_a : (x : ℕ) → IsTogether next x a → 0 < times x (a ∷ w.q ++ b ∷ w.p) = λ x k. in-joined next a b w.p w.q w.rs x a r o.a_rs (both-together next rs x a r k) in
          let by_b : (x : ℕ) → IsTogether next x b → 0 < times x (a ∷ w.q ++ b ∷ w.p) = λ x k. in-joined next a b w.p w.q w.rs x b r o.b_rs (both-together next rs x b r k) in
          elim t [
            | inl k ↦ elim (both-together next rs i j r k) [
              | inl m ↦ of_new (inl (omega arith, omega arith))
              | inr k ↦ elim k [
                | inl m ↦ of_new (inl (omega arith, omega arith))
                | inr m ↦ of_new (inr m)
              ]
            ]
            | inr k ↦ elim k [
              | inl m ↦ of_new (inl (by_a i m.0, by_b j (flipped next rs b j r m.1)))
              | inr m ↦ of_new (inl (by_b i m.0, by_a j (flipped next rs a j r m.1)))
            ]
          ],
    )
  where
    some-or-none : (x : ℕ) (l : List ℕ) → (0 < times x l) ⊎ (times x l ≡ 0)
    some-or-none x l = elim (cases_eq (times x l) 0) [ inl e ↦ inr e | inr d ↦ inl (omega arith) ]

-- each index comes in a ring
all-met : (next : List ℕ) (rs : List (List ℕ)) (i : ℕ) → AreRings next rs → 0 < all_times i rs → i < length next
all-met next [] i h k = absurd (omega arith)
all-met next ([] ∷ rs) i h k = absurd h.0
all-met next ((x ∷ xs) ∷ rs) i h k =
    elim (cases_eq (times i (x ∷ xs)) 0) [
      | inl e ↦ all-met next rs i h.1 (omega arith)
      | inr d ↦ met next x (x ∷ xs) x i h.0 (omega arith)
    ]

-- one more index, in a ring of its own
pub pushed : (next : List ℕ) (rs : List (List ℕ)) → IsRings next rs → IsRings (next ++ length next ∷ []) ((length next ∷ []) ∷ rs)
pushed next rs r =
    let n = length next in
    let new = next ++ n ∷ [] in
    let long : length new ≡ n + 1 = omega (arith, length-append next (n ∷ [])) in
    let own : get_or new n 0 ≡ n = get_or-append_seam next n [] 0 in
    record {
      rings = ((refl, omega arith, own), grown-rings next n rs r.rings);
      once = λ i k.
          elim (cases_eq i n) [
            | inl e ↦ let gone = no-more next rs i r.rings (omega arith) in omega (arith, times-here i [], times-is i n e)
            | inr d ↦ omega (arith, times-other i n [] d, r.once i (omega arith))
          ];
    }
  where
    grown : (next : List ℕ) (n a : ℕ) (xs : List ℕ) (z : ℕ) → Meets next a xs z → Meets (next ++ n ∷ []) a xs z
    grown next n a [] z m = m
    grown next n a (x ∷ xs) z m =
        let same : get_or (next ++ n ∷ []) x 0 ≡ get_or next x 0 = get_or_append_left next (n ∷ []) 0 x m.1 in
        let P : ℕ → Type 0 = λ k. Meets (next ++ n ∷ []) k xs z in
        (m.0, omega (arith, length-append next (n ∷ [])), subst P (sym same) (grown next n (get_or next x 0) xs z m.2))

    grown-ring : (next : List ℕ) (n : ℕ) (r : List ℕ) → IsRing next r → IsRing (next ++ n ∷ []) r
    grown-ring next n [] m = m
    grown-ring next n (x ∷ xs) m = grown next n x (x ∷ xs) x m

    grown-rings : (next : List ℕ) (n : ℕ) (rs : List (List ℕ)) → AreRings next rs → AreRings (next ++ n ∷ []) rs
    grown-rings next n [] m = tt
    grown-rings next n (r ∷ rs) m = (grown-ring next n r m.0, grown-rings next n rs m.1)

    no-more : (next : List ℕ) (rs : List (List ℕ)) (i : ℕ) → AreRings next rs → length next ≤ i → all_times i rs ≡ 0
    no-more next rs i m k = elim (cases_eq (all_times i rs) 0) [ inl e ↦ e | inr d ↦ absurd (omega (arith, all-met next rs i m (omega arith))) ]

    times-is : (i n : ℕ) → i ≡ n → times i (n ∷ []) ≡ 1
    times-is i n e = grind (arith, nat_tests)

pub pushed-together : (next : List ℕ) (rs : List (List ℕ)) (i j : ℕ) → IsRings next rs → IsTogether (next ++ length next ∷ []) i j ↔ (IsTogether next i j ⊎ ((i ≡ length next) × (j ≡ i)))
pushed-together next rs i j r =
    let n = length next in
    let new = next ++ n ∷ [] in
    let one = pushed next rs r in (
      λ t. elim (both-together new ((n ∷ []) ∷ rs) i j one t) [
        | inl m ↦ inr (is-only i n m.0, is-only j n m.1 ∙ sym (is-only i n m.0))
        | inr m ↦ inl (together-both next rs i j r.rings m)
      ],
      λ t. elim t [
        | inl m ↦ together-both new ((n ∷ []) ∷ rs) i j one.rings (inr (both-together next rs i j r m))
        | inr m ↦ together-both new ((n ∷ []) ∷ rs) i j one.rings (inl (only-is i n m.0, only-is j n (m.1 ∙ m.0)))
      ],
    )
  where
    is-only : (i n : ℕ) → 0 < times i (n ∷ []) → i ≡ n
    is-only i n h = elim (cases_eq i n) [ inl e ↦ e | inr d ↦ absurd (omega (arith, times-other i n [] d)) ]

    only-is : (i n : ℕ) → i ≡ n → 0 < times i (n ∷ [])
    only-is i n e = grind (arith, nat_tests)

-- the same again undoes it
pub crossed-back : (before : List ℕ) (a b : ℕ) → a < length before → b < length before → swap (swap before a b) a b ≡ before
crossed-back before a b k l =
    let new = swap before a b in
    let long = length-swap before a b in
    let one = swapped_from_swap before new a b 0 k l refl in
    let two = swapped_from_swap new (swap new a b) a b 0 (omega arith) (omega arith) refl in
    let longer = length-swap new a b in
    ext_get_or 0 (swap new a b) before (omega arith) (λ i h.
    elim (cases_eq i a) [
      | inl e ↦ let P : ℕ → Type 0 = λ n. get_or (swap new a b) n 0 ≡ get_or before n 0 in subst P (sym e) (two.0 ∙ one.1)
      | inr d ↦ elim (cases_eq i b) [
        | inl e ↦ let P : ℕ → Type 0 = λ n. get_or (swap new a b) n 0 ≡ get_or before n 0 in subst P (sym e) (two.1 ∙ one.0)
        | inr f ↦ two.2 i d f ∙ one.2 i d f
      ]
    ])

-- two indexes of the same list of lists can't differ and be below its length without the rings
pub both-in : (next : List ℕ) (rs : List (List ℕ)) (a b : ℕ) → IsRings next rs → IsTogether next a b → b < length next
both-in next rs a b r t = all-met next rs b r.rings (both-all rs a b (both-together next rs a b r t)).1

-- without the last index, which was in a ring of its own
pub shrunk : (next : List ℕ) (rs : List (List ℕ)) → IsRings (next ++ length next ∷ []) rs → (left : List (List ℕ)) × IsRings next left
shrunk next rs r =
    let n = length next in
    let new = next ++ n ∷ [] in
    let long : length new ≡ n + 1 = omega (arith, length-append next (n ∷ [])) in
    let x = pull new rs n r (omega arith) in
    let are : IsRings new ((n ∷ x.0) ∷ x.1) = x.2 in
    let own : get_or new n 0 ≡ n = get_or-append_seam next n [] 0 in
    let none = only n x.0 new own are.rings.0 (omega (arith, are.once n (omega arith))) in
    let count : (i : ℕ) → times i (n ∷ x.0) ≡ times i (n ∷ []) = λ i. ap (λ l. times i (n ∷ l)) none in
    let gone : all_times n x.1 ≡ 0 = omega (arith, are.once n (omega arith), times-here n x.0) in (
      x.1,
      record {
        rings = less-rings next n x.1 (λ i k. elim (cases_eq i n) [ inl e ↦ absurd (let P : ℕ → Type 0 = λ m. all_times m x.1 ≡ 0 in let z = subst P (sym e) gone in omega arith) | inr d ↦ omega (arith, all-met new x.1 i are.rings.1 k) ]) are.rings.1;
        once = λ i k. omega (arith, are.once i (omega arith), count i, times-other i n [] (omega arith));
      },
    )
  where
    only : (n : ℕ) (p : List ℕ) (new : List ℕ) → get_or new n 0 ≡ n → Meets new n (n ∷ p) n → times n (n ∷ p) ≤ 1 → p ≡ []
    only n [] new e m h = refl
    only n (y ∷ p) new e m h =
        let s : n ≡ y = sym e ∙ m.2.0 in
        let P : ℕ → Type 0 = λ k. times n (k ∷ p) ≡ 1 + times n p in
        absurd (omega (arith, times-here n (y ∷ p), subst P s (times-here n p)))

    less : (next : List ℕ) (n a : ℕ) (xs : List ℕ) (z : ℕ) → ((i : ℕ) → 0 < times i xs → i < length next) → Meets (next ++ n ∷ []) a xs z → Meets next a xs z
    less next n a [] z h m = m
    less next n a (x ∷ xs) z h m =
        let here : x < length next = h x (omega (arith, times-here x xs)) in
        let same : get_or (next ++ n ∷ []) x 0 ≡ get_or next x 0 = get_or_append_left next (n ∷ []) 0 x here in
        let P : ℕ → Type 0 = λ k. Meets next k xs z in
        (m.0, here, subst P same (less next n (get_or (next ++ n ∷ []) x 0) xs z (λ i k. h i (omega arith)) m.2))

    less-ring : (next : List ℕ) (n : ℕ) (r : List ℕ) → ((i : ℕ) → 0 < times i r → i < length next) → IsRing (next ++ n ∷ []) r → IsRing next r
    less-ring next n [] h m = m
    less-ring next n (x ∷ xs) h m = less next n x (x ∷ xs) x h m

    less-rings : (next : List ℕ) (n : ℕ) (rs : List (List ℕ)) → ((i : ℕ) → 0 < all_times i rs → i < length next) → AreRings (next ++ n ∷ []) rs → AreRings next rs
    less-rings next n [] h m = tt
    less-rings next n (r ∷ rs) h m = (less-ring next n r (λ i k. h i (omega arith)) m.0, less-rings next n rs (λ i k. h i (omega arith)) m.1)

pub front-is : (before : List ℕ) (x n : ℕ) → n ≡ length before + 1 → take (n - 1) (before ++ x ∷ []) ≡ before
front-is before x n h =
    let m : n - 1 ≡ length before = omega arith in
    let le : length before ≤ length before = omega arith in
    ap (λ k. take k (before ++ x ∷ [])) m ∙ take-append-le (length before) before (x ∷ []) le ∙ take_all (length before) before le
