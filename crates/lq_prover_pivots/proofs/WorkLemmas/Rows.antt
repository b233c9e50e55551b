-- What the sizes of rows say of each row and of each form.
use Rattle.std.proofs.Common.{◌≡◌, ◌≢◌, ℕ, ℤ, zero, suc, pos, negsuc, ◌+◌, ◌*◌, ◌/◌, ◌<◌, ◌≤◌, arith, refl, sym, ap, subst, false, List, [], ◌∷◌, length, slice_get, Some, get_or, unsigned_abs}
use Rattle.std.proofs.Math.IntN.{◌*ℤ◌}
use Rattle.std.proofs.Math.Nat.{div-mul_cancel, dvd-mul_right, pos_of_dvd_of_pos}
use Rattle.std.proofs.lemmas.Int.{unsigned_abs-mul}
use Rattle.std.proofs.lemmas.Nat.Gcd.{dvd-zero, dvd_trans}
use Rattle.std.proofs.lemmas.Option.{slice_get_within, get_or_from_slice_get}
use Rattle.std.specs.Int.{◌∣◌}
use Rattle.std.specs.List.{Contains}
use Rattle.lq_base_numbers.specs.Rationals.Lcm.{gcd_exists}
use Rattle.lq_logic_rows.specs.Difference.{TermsBelow}
use Rattle.lq_logic_rows.specs.Forms.{Parts, DividesAll, FirstAbove, times}
use Rattle.lq_logic_rows.specs.Row.{Row, AscendsFrom}
use Rattle.lq_prover_pivots.proofs.CramerLemmas.Parts.{IsAbsent, NamesOnce, AllWithin}
use Rattle.lq_prover_pivots.proofs.CramerLemmas.Sizes.{mul_at_most}
use Rattle.lq_prover_pivots.specs.Work.Sizes.{larger, largest_part, largest_coefficient, largest_constant, IsGreatestDivisor, IsDivisor}
use Rattle.lq_prover_pivots.proofs.WorkLemmas.Scaled.{part_within}

-- ---- the larger of two
larger_first : (a b : ℕ) → a ≤ larger a b
larger_first zero b = omega arith
larger_first (suc a) zero = omega arith
larger_first (suc a) (suc b) = let h = larger_first a b in omega arith

larger_second : (a b : ℕ) → b ≤ larger a b
larger_second zero b = omega arith
larger_second (suc a) zero = omega arith
larger_second (suc a) (suc b) = let h = larger_second a b in omega arith

pub larger_most : (a b c : ℕ) → a ≤ c → b ≤ c → larger a b ≤ c
larger_most zero b c l m = m
larger_most (suc a) zero c l m = l
larger_most (suc a) (suc b) zero l m = absurd (omega arith)
larger_most (suc a) (suc b) (suc c) l m = let h = larger_most a b c (omega arith) (omega arith) in omega arith

pub all_within : (c : ℕ) (parts : Parts) → largest_part parts ≤ c → AllWithin c parts
all_within c [] h = tt
all_within c (part ∷ parts) h =
    let one = larger_first (unsigned_abs part.1) (largest_part parts) in
    let rest = larger_second (unsigned_abs part.1) (largest_part parts) in
    (omega arith, all_within c parts (omega arith))

pub coefficient_most : (forms : List Parts) (k : ℕ) → largest_part (get_or forms k []) ≤ largest_coefficient forms
coefficient_most [] k = omega arith
coefficient_most (form ∷ forms) zero = larger_first (largest_part form) (largest_coefficient forms)
coefficient_most (form ∷ forms) (suc k) =
    let h = coefficient_most forms k in
    let l = larger_second (largest_part form) (largest_coefficient forms) in
    omega arith

-- where each form is small, so is the largest coefficient
pub coefficient_least : (c : ℕ) (forms : List Parts) → ((k : ℕ) → k < length forms → largest_part (get_or forms k []) ≤ c) → largest_coefficient forms ≤ c
coefficient_least c [] h = omega arith
coefficient_least c (form ∷ forms) h =
    larger_most (largest_part form) (largest_coefficient forms) c (h 0 (omega arith)) (coefficient_least c forms (λ k l. h (suc k) (omega arith)))

constant_at : (rows : List Row) (k : ℕ) (d : Row) → k < length rows → unsigned_abs (get_or rows k d).constant ≤ largest_constant rows
constant_at [] k d l = absurd (omega arith)
constant_at (row ∷ rows) zero d l = larger_first (unsigned_abs row.constant) (largest_constant rows)
constant_at (row ∷ rows) (suc k) d l =
    let h = constant_at rows k d (omega arith) in
    let m = larger_second (unsigned_abs row.constant) (largest_constant rows) in
    omega arith

pub constant_most : (rows : List Row) (row : Row) → Contains rows row → unsigned_abs row.constant ≤ largest_constant rows
constant_most rows row there =
    subst (λ (r : Row). unsigned_abs r.constant ≤ largest_constant rows) there.2 (constant_at rows there.0 row there.1)

pub constant_some : (rows : List Row) → 1 ≤ largest_constant rows
constant_some [] = omega arith
constant_some (row ∷ rows) =
    let h = constant_some rows in
    let m = larger_second (unsigned_abs row.constant) (largest_constant rows) in
    omega arith

pub contains_at : (rows : List Row) (k : ℕ) (row : Row) → slice_get rows k ≡ Some row → Contains rows row
contains_at rows k row e = (k, slice_get_within rows k row e, get_or_from_slice_get rows k row row e)

-- ---- parts in order
pub ascends_length : (low n : ℕ) (parts : Parts) → AscendsFrom low parts → TermsBelow n parts → low ≤ n → low + length parts ≤ n
ascends_length low n [] a t l = omega arith
ascends_length low n (part ∷ parts) a t l =
    let first = a.0 in
    let below = t.0 in
    let h = ascends_length (suc part.0) n parts a.1 t.1 (omega arith) in
    omega arith

absent_below : (low t : ℕ) (parts : Parts) → AscendsFrom low parts → t < low → IsAbsent t parts
absent_below low t [] a l = tt
absent_below low t (part ∷ parts) a l =
    let first = a.0 in
    let apart : part.0 ≢ t = omega arith in
    (apart, absent_below (suc part.0) t parts a.1 (omega arith))

pub names_once : (low : ℕ) (parts : Parts) → AscendsFrom low parts → NamesOnce parts
names_once low [] a = tt
names_once low (part ∷ parts) a = (absent_below (suc part.0) part.0 parts a.1 (omega arith), names_once (suc part.0) parts a.1)

pub form_ascends : (low : ℕ) (f : ℤ) (parts : Parts) → AscendsFrom low (times f parts) → AscendsFrom low parts
form_ascends low f [] a = tt
form_ascends low f (part ∷ parts) a = (a.0, form_ascends (suc part.0) f parts a.1)

pub form_below : (n : ℕ) (f : ℤ) (parts : Parts) → TermsBelow n (times f parts) → TermsBelow n parts
form_below n f [] t = tt
form_below n f (part ∷ parts) t = (t.0, form_below n f parts t.1)

pub times_within : (c g : ℕ) (f : ℤ) (parts : Parts) → unsigned_abs f ≤ g → AllWithin c parts → AllWithin (c * g) (times f parts)
times_within c g f [] h w = tt
times_within c g f (part ∷ parts) h w =
    let p : unsigned_abs (f *ℤ part.1) ≡ unsigned_abs f * unsigned_abs part.1 = unsigned_abs-mul f part.1 in
    let q : unsigned_abs f * unsigned_abs part.1 ≤ g * c = mul_at_most (unsigned_abs f) (unsigned_abs part.1) g c h w.0 in
    (omega arith, times_within c g f parts h w.1)

-- ---- divisors
divides_less : (d e : ℕ) (parts : Parts) → d ∣ e → DividesAll e parts → DividesAll d parts
divides_less d e [] h w = tt
divides_less d e (part ∷ parts) h w = (dvd_trans d h w.0, divides_less d e parts h w.1)

greatest_exists : (parts : Parts) → (g : ℕ) × IsGreatestDivisor parts g
greatest_exists [] = (0, record { divides = tt; greatest = λ d h. dvd-zero d })
greatest_exists (part ∷ parts) =
    let rest = greatest_exists parts in
    let found = gcd_exists (unsigned_abs part.1) rest.0 in (
      found.0,
      record {
        divides = (found.1.0, divides_less found.0 rest.0 parts found.1.1 rest.1.divides);
        greatest = λ d h. found.1.2 d h.0 (rest.1.greatest d h.1);
      },
    )

pub divisor_exists : (parts : Parts) → (g : ℕ) × IsDivisor parts g
divisor_exists [] = (1, refl)
divisor_exists (part ∷ parts) = greatest_exists (part ∷ parts)

pub times_divides : (f : ℤ) (parts : Parts) → DividesAll (unsigned_abs f) (times f parts)
times_divides f [] = tt
times_divides f (part ∷ parts) =
    (subst (λ t. unsigned_abs f ∣ t) (sym (unsigned_abs-mul f part.1)) (dvd-mul_right (unsigned_abs f) (unsigned_abs part.1)), times_divides f parts)

-- the factor by which a row is a form divides the row's divisor
pub factor_divides : (f : ℤ) (parts : Parts) (g : ℕ) → FirstAbove false parts → IsDivisor (times f parts) g → unsigned_abs f ∣ g
factor_divides f [] g above is = absurd above
factor_divides f (part ∷ parts) g above is = is.greatest (unsigned_abs f) (times_divides f (part ∷ parts))

-- ---- a multiple of a size is one of the number
pub record IsTimes (f : ℤ) (m : ℕ) : Type 0 where
  pub by : ℤ
  pub is : pos m ≡ f *ℤ by
  pub within : unsigned_abs by ≤ m

pub times_of : (f : ℤ) (m : ℕ) → 0 < m → unsigned_abs f ∣ m → IsTimes f m
times_of (pos n) m some h =
    let u : m / n * n ≡ m = div-mul_cancel n h in
    let positive = pos_of_dvd_of_pos h some in
    record { by = pos (m / n); is = ap pos (let e : m ≡ n * (m / n) = omega arith in e); within = part_within n (m / n) m positive (omega arith) }
times_of (negsuc n) m some h = by (m / suc n) (div-mul_cancel (suc n) h)
  where
    by : (q : ℕ) → q * suc n ≡ m → IsTimes (negsuc n) m
    by zero e = absurd (omega arith)
    by (suc q) e =
        record { by = negsuc q; is = ap pos (let i : m ≡ suc n * suc q = omega arith in i); within = let l : suc q ≤ m = part_within (suc n) (suc q) m (omega arith) (omega arith) in l }
