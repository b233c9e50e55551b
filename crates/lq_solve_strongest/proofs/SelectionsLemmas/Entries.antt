-- The coefficients of parts in ascending order, at each number.
use Rattle.std.proofs.Common.{◌≡◌, ◌≢◌, ◌⊎◌, inl, inr, ℕ, ℤ, zero, suc, pos, ◌*◌, ◌<◌, ◌≤◌, ◌==◌, if◌then◌else◌, arith, refl, sym, ap, subst, ◌∙◌, Bool, true, false, [], ◌∷◌, All, unsigned_abs}
use Rattle.std.specs.Int.{◌∣◌}
use Rattle.std.specs.List.{AllByRecursion}
use Rattle.std.proofs.Math.IntN.{◌*ℤ◌, *ℤ-zero}
use Rattle.std.proofs.Math.Nat.{mul-pos}
use Rattle.std.proofs.lemmas.Bool.{cases_lt}
use Rattle.std.proofs.lemmas.Int.{unsigned_abs-mul}
use Rattle.std.proofs.lemmas.List.Elements.{All-nil, All-cons, All-head, All-tail}
use Rattle.std.proofs.lemmas.Nat.Gcd.{dvd-zero}
use Rattle.lq_logic_rows.specs.Difference.{TermsBelow}
use Rattle.lq_logic_rows.specs.Forms.{Parts, DividesAll, times}
use Rattle.lq_logic_rows.specs.Row.{AscendsFrom}
use Rattle.lq_logic_predicates.specs.Comparison.{entry}
use Rattle.lq_logic_predicates.proofs.RowParts.{entry-below, entry-here, entry-past}
use Rattle.lq_prover_pivots.proofs.CramerLemmas.Places.{eqb_by}
use Rattle.lq_prover_pivots.specs.Work.Sizes.{larger, largest_part}
use Rattle.lq_prover_pivots.proofs.WorkLemmas.Rows.{larger_most}
use Rattle.lq_prover_pivots.proofs.WorkLemmas.Scaled.{some_size}

abbrev pub AreSome : Parts → Type 0
AreSome parts = All (λ (part : ℕ × ℤ). part.1 ≢ pos 0) parts

-- ---- products

pub entry_times : (f : ℤ) (parts : Parts) (q : ℕ) → entry (times f parts) q ≡ f *ℤ entry parts q
entry_times f [] q = sym (*ℤ-zero f)
entry_times f (part ∷ parts) q = by (part.0 == q) (entry_times f parts q)
  where
    by : (b : Bool) → entry (times f parts) q ≡ f *ℤ entry parts q → (if b then f *ℤ part.1 else entry (times f parts) q) ≡ f *ℤ (if b then part.1 else entry parts q)
    by true h = refl
    by false h = h

pub ascends_times : (low : ℕ) (f : ℤ) (parts : Parts) → AscendsFrom low parts → AscendsFrom low (times f parts)
ascends_times low f [] a = tt
ascends_times low f (part ∷ parts) a = (a.0, ascends_times (suc part.0) f parts a.1)

pub product_some : (f z : ℤ) → f ≢ pos 0 → z ≢ pos 0 → f *ℤ z ≢ pos 0
product_some f z m n e =
    let size : unsigned_abs f * unsigned_abs z ≡ 0 = sym (unsigned_abs-mul f z) ∙ ap unsigned_abs e in
    let some : 0 < unsigned_abs f * unsigned_abs z = mul-pos (some_size f m) (some_size z n) in absurd (omega arith)

pub some_times : (f : ℤ) (parts : Parts) → f ≢ pos 0 → AreSome parts → AreSome (times f parts)
some_times f [] m a = All-nil _
some_times f (part ∷ parts) m a =
    All-cons (λ (p : ℕ × ℤ). p.1 ≢ pos 0) (part.0, f *ℤ part.1) (times f parts) (product_some f part.1 m (All-head (λ (p : ℕ × ℤ). p.1 ≢ pos 0) part parts a))
    (some_times f parts m (All-tail (λ (p : ℕ × ℤ). p.1 ≢ pos 0) part parts a))

pub form_some : (f : ℤ) (parts : Parts) → AreSome (times f parts) → AreSome parts
form_some f [] a = All-nil _
form_some f (part ∷ parts) a =
    All-cons (λ (p : ℕ × ℤ). p.1 ≢ pos 0) part parts
    (λ e. All-head (λ (p : ℕ × ℤ). p.1 ≢ pos 0) (part.0, f *ℤ part.1) (times f parts) a (ap (λ z. f *ℤ z) e ∙ *ℤ-zero f))
    (form_some f parts (All-tail (λ (p : ℕ × ℤ). p.1 ≢ pos 0) (part.0, f *ℤ part.1) (times f parts) a))

-- ---- each size

-- what holds of each size at a number, 0 among them, holds of each part's
abbrev pub AllSizes : (ℕ → Type 0) → Parts → Type 0
AllSizes P [] = Unit {0}
AllSizes P (part ∷ parts) = P (unsigned_abs part.1) × AllSizes P parts

pub all_sizes : (P : ℕ → Type 0) → P 0 → (low : ℕ) (parts : Parts) → AscendsFrom low parts → ((q : ℕ) → P (unsigned_abs (entry parts q))) → AllSizes P parts
all_sizes P none low [] a h = tt
all_sizes P none low (part ∷ parts) a h = (
  subst (λ z. P (unsigned_abs z)) (entry-here part parts) (h part.0),
  all_sizes P none (suc part.0) parts a.1 (λ q. by q (cases_lt part.0 q)),
)
  where
    by : (q : ℕ) → (part.0 < q) ⊎ (q ≤ part.0) → P (unsigned_abs (entry parts q))
    by q (inl l) = subst (λ z. P (unsigned_abs z)) (entry-below part parts q l) (h q)
    by q (inr m) = subst (λ z. P (unsigned_abs z)) (sym (entry-past (suc part.0) q parts a.1 (omega arith))) none

pub size_at : (P : ℕ → Type 0) → P 0 → (parts : Parts) (q : ℕ) → AllSizes P parts → P (unsigned_abs (entry parts q))
size_at P none [] q h = none
size_at P none (part ∷ parts) q h =
    eqb_by part.0 q (λ e k. subst (λ b. P (unsigned_abs (if b then part.1 else entry parts q))) (sym e) h.0)
    (λ e k. subst (λ b. P (unsigned_abs (if b then part.1 else entry parts q))) (sym e) (size_at P none parts q h.1))

sizes_divide : (d : ℕ) (parts : Parts) → AllSizes (λ n. d ∣ n) parts → DividesAll d parts
sizes_divide d [] h = tt
sizes_divide d (part ∷ parts) h = (h.0, sizes_divide d parts h.1)

divide_sizes : (d : ℕ) (parts : Parts) → DividesAll d parts → AllSizes (λ n. d ∣ n) parts
divide_sizes d [] h = tt
divide_sizes d (part ∷ parts) h = (h.0, divide_sizes d parts h.1)

pub divides_at : (d : ℕ) (parts : Parts) (q : ℕ) → DividesAll d parts → d ∣ unsigned_abs (entry parts q)
divides_at d parts q h = size_at (λ n. d ∣ n) (dvd-zero d) parts q (divide_sizes d parts h)

pub divides_each : (d low : ℕ) (parts : Parts) → AscendsFrom low parts → ((q : ℕ) → d ∣ unsigned_abs (entry parts q)) → DividesAll d parts
divides_each d low parts a h = sizes_divide d parts (all_sizes (λ n. d ∣ n) (dvd-zero d) low parts a h)

sizes_most : (c : ℕ) (parts : Parts) → AllSizes (λ n. n ≤ c) parts → largest_part parts ≤ c
sizes_most c [] h = omega arith
sizes_most c (part ∷ parts) h = larger_most (unsigned_abs part.1) (largest_part parts) c h.0 (sizes_most c parts h.1)

larger_first : (a b : ℕ) → a ≤ larger a b
larger_first zero b = omega arith
larger_first (suc a) zero = omega arith
larger_first (suc a) (suc b) = let h = larger_first a b in omega arith

larger_second : (a b : ℕ) → b ≤ larger a b
larger_second zero b = omega arith
larger_second (suc a) zero = omega arith
larger_second (suc a) (suc b) = let h = larger_second a b in omega arith

sizes_within : (c : ℕ) (parts : Parts) → largest_part parts ≤ c → AllSizes (λ n. n ≤ c) parts
sizes_within c [] h = tt
sizes_within c (part ∷ parts) h =
    let a = larger_first (unsigned_abs part.1) (largest_part parts) in
    let b = larger_second (unsigned_abs part.1) (largest_part parts) in
    (omega arith, sizes_within c parts (omega arith))

pub most_at : (parts : Parts) (q : ℕ) → unsigned_abs (entry parts q) ≤ largest_part parts
most_at parts q = size_at (λ n. n ≤ largest_part parts) (omega arith) parts q (sizes_within (largest_part parts) parts (omega arith))

pub most_each : (c low : ℕ) (parts : Parts) → AscendsFrom low parts → ((q : ℕ) → unsigned_abs (entry parts q) ≤ c) → largest_part parts ≤ c
most_each c low parts a h = sizes_most c parts (all_sizes (λ n. n ≤ c) (omega arith) low parts a h)

-- ---- numbers below

pub terms_below : (n : ℕ) (parts : Parts) → AllByRecursion (λ (e : ℕ × ℤ). e.0 < n) parts → TermsBelow n parts
terms_below n [] h = tt
terms_below n (part ∷ parts) h = (h.0, terms_below n parts h.1)

pub entry_above : (n q : ℕ) (parts : Parts) → TermsBelow n parts → n ≤ q → entry parts q ≡ pos 0
entry_above n q [] b l = refl
entry_above n q (part ∷ parts) b l =
    let first = b.0 in
    eqb_by part.0 q (λ e k. absurd (omega arith)) (λ e k. ap (λ c. if c then part.1 else entry parts q) e ∙ entry_above n q parts b.1 l)
