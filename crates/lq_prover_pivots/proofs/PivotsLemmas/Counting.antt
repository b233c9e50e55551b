-- A chain has at most as many configurations as there are codes.
use Rattle.std.proofs.Common.{◌≡◌, ℕ, zero, suc, ◌+◌, ◌*◌, ◌^◌, ◌<◌, ◌≤◌, ◌⊎◌, inl, inr, arith, refl, sym, ap, ap₂, subst, ◌∙◌, Bool, true, false, List, [], ◌∷◌, length}
use Rattle.std.proofs.lemmas.Bool.{cases_lt}
use Rattle.lq_base_numbers.specs.Rationals.Rational.{ℚ}
use Rattle.lq_base_numbers.specs.Rationals.OrderLaws.{≤ℚ_antisym}
use Rattle.lq_prover_pivots.specs.Pivots.Ranges.{one_if, count_below}
use Rattle.lq_logic_rows.specs.Row.{Row}
use Rattle.lq_logic_rows.specs.declared.bound.Side.{Side}
use Rattle.lq_logic_rows.specs.declared.bound.Side.TheVariants.{Lower, Upper}
use Rattle.lq_logic_rows.specs.Bounds.{Within}
use Rattle.lq_prover_pivots.specs.Pivots.Rows.{Variables, size, Gives, Breaks}
use Rattle.lq_prover_pivots.specs.Pivots.Configurations.{Configuration}
use Rattle.lq_prover_pivots.specs.Pivots.Pivots.{IsChain}
use Rattle.lq_prover_pivots.specs.Pivots.Laws.{AtMostSoMany, HadAtStart, choose}
use Rattle.lq_prover_pivots.proofs.PivotsLemmas.Sharing.{free_or_basic}
use Rattle.lq_prover_pivots.proofs.PivotsLemmas.Signs.{within_from_not}
use Rattle.lq_prover_pivots.proofs.PivotsLemmas.Steps.{not_both}
use Rattle.lq_prover_pivots.proofs.PivotsLemmas.Standing.{all_stand}
use Rattle.lq_prover_pivots.proofs.PivotsLemmas.Twice.{none_twice}
use Rattle.lq_prover_pivots.proofs.PivotsLemmas.Codes.{Place, basis, low, high, start, Code, is_free_at, Agree, AllIn, Apart, HasPlaces, codes_at_most}

-- what a place says of a variable in a configuration of the chain
abbrev Says : Variables → List Row → (ℕ → Configuration) → ℕ → Configuration → Place → Type 0
Says vs standing chain j c basis = c.is_free j ≡ false
Says vs standing chain j c low = (c.is_free j ≡ true) × Gives vs standing Lower j (c.value j)
Says vs standing chain j c high = (c.is_free j ≡ true) × Gives vs standing Upper j (c.value j)
Says vs standing chain j c start = (c.is_free j ≡ true) × (c.value j ≡ (chain 0).value j)

record IsPlaced (vs : Variables) (standing : List Row) (n : ℕ) (chain : ℕ → Configuration) (i j : ℕ) : Type 0 where
  place : Place
  says : i ≤ n → j < size vs → Says vs standing chain j (chain i) place

placed : (vs : Variables) (listed standing : List Row) (n : ℕ) (chain : ℕ → Configuration) (i j : ℕ) → IsChain vs listed standing n chain → IsPlaced vs standing n chain i j
placed vs listed standing n chain i j ch = by (free_or_basic (chain i) j) (cases_lt n i) (cases_lt j (size vs))
  where
    stands : (e : (chain i).is_free j ≡ true)
        → Gives vs standing Lower j ((chain i).value j) ⊎ Gives vs standing Upper j ((chain i).value j) ⊎ HadAtStart vs chain j (chain i) → IsPlaced vs standing n chain i j
    stands e (inl g) = record { place = low; says = λ l m. (e, g) }
    stands e (inr (inl g)) = record { place = high; says = λ l m. (e, g) }
    stands e (inr (inr s)) = record { place = start; says = λ l m. (e, s.1) }

    by : ((chain i).is_free j ≡ true) ⊎ ((chain i).is_free j ≡ false) → (n < i) ⊎ (i ≤ n) → (j < size vs) ⊎ (size vs ≤ j) → IsPlaced vs standing n chain i j
    by (inr e) l m = record { place = basis; says = λ l m. e }
    by (inl e) (inl l) m = record { place = basis; says = λ k m. absurd (omega arith) }
    by (inl e) (inr l) (inr past) = record { place = basis; says = λ k m. absurd (omega arith) }
    by (inl e) (inr l) (inl m) = stands e (all_stand vs listed standing n chain ch i j l (m, e))

-- ---- one code, one configuration
tight : (vs : Variables) (rows : List Row) (side : Side) (j : ℕ) (x y : ℚ) → Gives vs rows side j x → Gives vs rows side j y → ¬ Breaks vs rows j x → ¬ Breaks vs rows j y → x ≡ y
tight vs rows side j x y g h k l =
    by side (within_from_not side x y (λ b. k (record { side = side; bound = y; given = h; beyond = b })))
    (within_from_not side y x (λ b. l (record { side = side; bound = x; given = g; beyond = b })))
  where
    by : (side : Side) → Within side x y → Within side y x → x ≡ y
    by Lower p q = ≤ℚ_antisym x y q p
    by Upper p q = ≤ℚ_antisym x y p q

free_by_place : (vs : Variables) (standing : List Row) (chain : ℕ → Configuration) (j : ℕ) (c : Configuration) (p : Place) → Says vs standing chain j c p → c.is_free j ≡ is_free_at p
free_by_place vs standing chain j c basis s = s
free_by_place vs standing chain j c low s = s.0
free_by_place vs standing chain j c high s = s.0
free_by_place vs standing chain j c start s = s.0

value_by_place : (vs : Variables) (standing : List Row) (chain : ℕ → Configuration) (j : ℕ) (c d : Configuration) (p : Place) → Says vs standing chain j c p → Says vs standing chain j d p
    → ¬ Breaks vs standing j (c.value j) → ¬ Breaks vs standing j (d.value j) → c.is_free j ≡ true → c.value j ≡ d.value j
value_by_place vs standing chain j c d basis s t k l f = absurd (not_both c j f s)
value_by_place vs standing chain j c d low s t k l f = tight vs standing Lower j (c.value j) (d.value j) s.1 t.1 k l
value_by_place vs standing chain j c d high s t k l f = tight vs standing Upper j (c.value j) (d.value j) s.1 t.1 k l
value_by_place vs standing chain j c d start s t k l f = s.1 ∙ sym t.1

code : (vs : Variables) (listed standing : List Row) (n : ℕ) (chain : ℕ → Configuration) → IsChain vs listed standing n chain → ℕ → Code
code vs listed standing n chain ch i j = (placed vs listed standing n chain i j ch).place

code_says : (vs : Variables) (listed standing : List Row) (n : ℕ) (chain : ℕ → Configuration) (ch : IsChain vs listed standing n chain) (i j : ℕ) → i ≤ n → j < size vs
    → Says vs standing chain j (chain i) (code vs listed standing n chain ch i j)
unfolding code
code_says vs listed standing n chain ch i j l m = (placed vs listed standing n chain i j ch).says l m

codes_apart : (vs : Variables) (listed standing : List Row) (n : ℕ) (chain : ℕ → Configuration) (ch : IsChain vs listed standing n chain) (i m : ℕ) → i ≤ m → suc m ≤ n
    → ¬ Agree (size vs) (code vs listed standing n chain ch (suc m)) (code vs listed standing n chain ch i)
codes_apart vs listed standing n chain ch i m h l agree =
    none_twice vs listed standing n chain ch i (suc m) (omega arith) l
    (record {
      free = λ j k.
          free_by_place vs standing chain j (chain i) _ (here j k) ∙ sym (free_by_place vs standing chain j (chain (suc m)) _ (there j k));
      values = λ j f.
          let keep = λ (e : (chain (suc m)).is_free j ≡ true). (ch.pivot m (omega arith)).after j (f.0, e) in
          value_by_place vs standing chain j (chain i) (chain (suc m)) _ (here j f.0) (there j f.0)
          ((ch.pivot i (omega arith)).before j f)
          (keep (free_by_place vs standing chain j (chain (suc m)) _ (there j f.0) ∙ sym (free_by_place vs standing chain j (chain i) _ (here j f.0)) ∙ f.1)) f.1;
    })
  where
    here : (j : ℕ) → j < size vs → Says vs standing chain j (chain i) (code vs listed standing n chain ch i j)
    here j k = code_says vs listed standing n chain ch i j (omega arith) k

    there : (j : ℕ) → j < size vs → Says vs standing chain j (chain (suc m)) (code vs listed standing n chain ch i j)
    there j k = subst (Says vs standing chain j (chain (suc m))) (agree j k) (code_says vs listed standing n chain ch (suc m) j l k)

-- ---- all codes of a chain
abbrev up_to : (ℕ → Code) → ℕ → List Code
up_to f zero = f 0 ∷ []
up_to f (suc m) = f (suc m) ∷ up_to f m

up_to_length : (f : ℕ → Code) (m : ℕ) → length (up_to f m) ≡ m + 1
up_to_length f zero = refl
up_to_length f (suc m) = let h = up_to_length f m in omega arith

up_to_all : (P : Code → Type 0) (f : ℕ → Code) (m : ℕ) → ((i : ℕ) → i ≤ m → P (f i)) → AllIn P (up_to f m)
up_to_all P f zero h = (h 0 (omega arith), tt)
up_to_all P f (suc m) h = (h (suc m) (omega arith), up_to_all P f m (λ i l. h i (omega arith)))

up_to_apart : (k n : ℕ) (f : ℕ → Code) (m : ℕ) → ((i m : ℕ) → i ≤ m → suc m ≤ n → ¬ Agree k (f (suc m)) (f i)) → m ≤ n → Apart k (up_to f m)
up_to_apart k n f zero h l = (tt, tt)
up_to_apart k n f (suc m) h l = (up_to_all (λ y. ¬ Agree k (f (suc m)) y) f m (λ i p. h i m p l), up_to_apart k n f m h (omega arith))

count_same : (n : ℕ) (f g : ℕ → Bool) → ((j : ℕ) → j < n → f j ≡ g j) → count_below n f ≡ count_below n g
count_same zero f g h = refl
count_same (suc n) f g h = ap₂ (λ s t. s + t) (count_same n f g (λ j l. h j (omega arith))) (ap one_if (h n (omega arith)))

code_places : (vs : Variables) (listed standing : List Row) (n : ℕ) (chain : ℕ → Configuration) (ch : IsChain vs listed standing n chain) (i : ℕ) → i ≤ n
    → HasPlaces (size vs) vs.terms (code vs listed standing n chain ch i)
code_places vs listed standing n chain ch i l =
    sym (count_same (size vs) (chain i).is_free (λ j. is_free_at (code vs listed standing n chain ch i j))
    (λ j m. free_by_place vs standing chain j (chain i) _ (code_says vs listed standing n chain ch i j l m)))
    ∙ (ch.each i l).count

pub at_most_so_many : AtMostSoMany
at_most_so_many vs listed standing n chain ch =
    let xs = up_to (code vs listed standing n chain ch) n in
    let long = up_to_length (code vs listed standing n chain ch) n in
    let few = codes_at_most (size vs) vs.terms (up_to (code vs listed standing n chain ch) n)
    (up_to_apart (size vs) n (code vs listed standing n chain ch) n (codes_apart vs listed standing n chain ch) (omega arith))
    (up_to_all (HasPlaces (size vs) vs.terms) (code vs listed standing n chain ch) n (code_places vs listed standing n chain ch)) in
    subst (λ k. k ≤ 3 ^ vs.terms * choose (size vs) vs.terms) long few
