-- Rows over so many terms have variables.
use Rattle.std.proofs.Common.{◌≡◌, ◌≢◌, ◌⊎◌, inl, inr, ℕ, ℤ, zero, suc, pos, ◌+◌, ◌<◌, ◌≤◌, arith, refl, sym, ap, ap₂, subst, ◌∙◌, append_assoc, Bool, true, false, List, [], ◌∷◌, ◌++◌, Some, length, slice_get, get_or, unsigned_abs}
use Rattle.std.specs.List.{Contains}
use Rattle.std.specs.Int.Signed.{◌<ℤ◌}
use Rattle.std.specs.Ordering.{int_eq}
use Rattle.std.proofs.Math.Nat.{eq-one_of_dvd-one}
use Rattle.std.proofs.lemmas.Bool.{cases_lt}
use Rattle.std.proofs.lemmas.Bool.Decides.{Decides-int_eq}
use Rattle.std.proofs.lemmas.Int.{ints}
use Rattle.std.proofs.lemmas.List.{append-nil, get_or_append_left, get_or_push, length_push}
use Rattle.std.proofs.lemmas.List.Elements.{Contains-append_cases}
use Rattle.std.proofs.lemmas.Nat.Gcd.{dvd_refl}
use Rattle.std.proofs.lemmas.Option.{slice_get_within}
use Rattle.lq_logic_rows.specs.Difference.{TermsBelow}
use Rattle.lq_logic_rows.specs.Forms.{Parts, IsNormal, IsMultiple, times}
use Rattle.lq_logic_rows.specs.Row.{Row, IsRow}
use Rattle.lq_prover_pivots.specs.Pivots.Rows.{Variables, size, form}
use Rattle.lq_prover_pivots.specs.Pivots.Variables.{AreVariables, ComesAt, IsOf}
use Rattle.lq_prover_pivots.proofs.CramerLemmas.Places.{eqb_by}
use Rattle.lq_prover_pivots.proofs.WorkLemmas.Normal.{normal_once}
use Rattle.lq_prover_pivots.proofs.WorkLemmas.Part.{cases_in, no_row, tail_in}
use Rattle.lq_prover_pivots.proofs.WorkLemmas.Rows.{contains_at, form_below}
use Rattle.lq_solve_strongest.proofs.SelectionsLemmas.Forming.{HasForm, form_of}

-- ---- whether a form is there

same_or : (p q : Parts) → (p ≡ q) ⊎ (p ≢ q)
same_or [] [] = inl refl
same_or [] (y ∷ q) = inr (λ e. absurd (cc))
same_or (x ∷ p) [] = inr (λ e. absurd (cc))
same_or (x ∷ p) (y ∷ q) = both (same_or p q)
  where
    term : ℕ × ℤ → Parts → Parts → ℕ
    term d [] r = d.0
    term d (z ∷ l) r = z.0

    both : (p ≡ q) ⊎ (p ≢ q) → (x ∷ p ≡ y ∷ q) ⊎ (x ∷ p ≢ y ∷ q)
    both (inr n) = inr (λ e. n (let t : p ≡ q = cc in t))
    both (inl e) = eqb_by x.0 y.0 (λ b k. whole k (int_eq x.1 y.1) refl) (λ b n. inr (λ d. n (let h : x ≡ y = cc in ap (λ (z : ℕ × ℤ). z.0) h)))
      where
        whole : x.0 ≡ y.0 → (b : Bool) → int_eq x.1 y.1 ≡ b → (x ∷ p ≡ y ∷ q) ⊎ (x ∷ p ≢ y ∷ q)
        whole k true b = inl (ap₂ (λ z l. z ∷ l) (ap₂ (λ (m : ℕ) (z : ℤ). (m, z)) k ((Decides-int_eq x.1 y.1).0 b)) e)
        whole k false b =
            inr (λ d. let h : x ≡ y = cc in let t : int_eq x.1 y.1 ≡ true = (Decides-int_eq x.1 y.1).1 (ap (λ (z : ℕ × ℤ). z.1) h) in absurd (cc))

data IsThere (forms : List Parts) (f : Parts) : Type 0 where
  found : (k : ℕ) → k < length forms → get_or forms k [] ≡ f → IsThere forms f
  missing : ((k : ℕ) → k < length forms → get_or forms k [] ≢ f) → IsThere forms f

is_there : (forms : List Parts) (f : Parts) → IsThere forms f
is_there [] f = IsThere.missing (λ k l. absurd (omega arith))
is_there (g ∷ forms) f = by (same_or g f) (is_there forms f)
  where
    by : (g ≡ f) ⊎ (g ≢ f) → IsThere forms f → IsThere (g ∷ forms) f
    by (inl e) rest = IsThere.found 0 (omega arith) e
    by (inr n) (IsThere.found k l e) = IsThere.found (suc k) (omega arith) e
    by (inr n) (IsThere.missing none) = IsThere.missing each
      where
        each : (k : ℕ) → k < suc (length forms) → get_or (g ∷ forms) k [] ≢ f
        each zero l = n
        each (suc k) l = none k (omega arith)

-- ---- a row at the end

front_at : {X : Type 0} (xs ys : List X) (i : ℕ) → i < length xs → slice_get (xs ++ ys) i ≡ slice_get xs i
front_at [] ys i l = absurd (omega arith)
front_at (x ∷ xs) ys zero l = refl
front_at (x ∷ xs) ys (suc i) l = front_at xs ys i (omega arith)

last_at : {X : Type 0} (xs : List X) (y : X) → slice_get (xs ++ y ∷ []) (length xs) ≡ Some y
last_at [] y = refl
last_at (x ∷ xs) y = last_at xs y

-- what comes at a place comes at it or at the end
comes_front : (rows : List Row) (row : Row) (vs : Variables) (k i : ℕ) → ComesAt vs rows k i → ComesAt vs (rows ++ row ∷ []) k i
comes_front rows row vs k i c = (c.0, front_at rows (row ∷ []) i (slice_get_within rows i c.0 c.1) ∙ c.1, c.2)

comes_back : (rows : List Row) (row : Row) (vs : Variables) (k i : ℕ) → ComesAt vs (rows ++ row ∷ []) k i → ComesAt vs rows k i ⊎ (length rows ≤ i)
comes_back rows row vs k i c = elim (cases_lt i (length rows)) [
  | inl l ↦ inl (c.0, sym (front_at rows (row ∷ []) i l) ∙ c.1, c.2)
  | inr m ↦ inr m
]

in_last : (row r : Row) → Contains (row ∷ []) r → row ≡ r
in_last row r h = elim (cases_in row [] r h) [ inl e ↦ e | inr n ↦ no_row r n ]

-- ---- a row of a variable that is there, or without terms

keep : (rows : List Row) (row : Row) (vs : Variables) → AreVariables rows vs → (row.parts ≢ [] → (k : ℕ) × (k < size vs) × IsOf vs k row)
    → AreVariables (rows ++ row ∷ []) vs
keep rows row vs are own = record {
  terms_in = are.terms_in;
  named = are.named;
  normal = are.normal;
  once = are.once;
  has = λ r there some. elim (Contains-append_cases rows (row ∷ []) r there) [
    | inl h ↦ are.has r h some
    | inr h ↦
        let e = in_last row r h in
        subst (λ (x : Row). x.parts ≢ [] → (k : ℕ) × (k < size vs) × IsOf vs k x) e own some
  ];
  longer = are.longer;
  comes = λ k l m. let c = are.comes k l m in (c.0, comes_front rows row vs k c.0 c.1);
  ordered = λ j k i l less m c. elim (comes_back rows row vs k i c) [
    | inl h ↦ let o = are.ordered j k i l less m h in (o.0, o.1, comes_front rows row vs j o.0 o.2)
    | inr h ↦
        let o = are.comes j l (omega arith) in
        let w = slice_get_within rows o.0 o.1.0 o.1.1 in
        (o.0, (omega arith), comes_front rows row vs j o.0 o.1)
  ];
}

-- ---- a row of a further form

abbrev with_last : Variables → Parts → Variables
with_last vs f = record { terms = vs.terms; forms = vs.forms ++ f ∷ [] }

module _ (rows : List Row) (row : Row) (vs : Variables) (are : AreVariables rows vs) (f : Parts) (f_normal : IsNormal f) (multiple : IsMultiple f row.parts)
    (absent : (k : ℕ) → k < size vs → form vs k ≢ f) (long : 2 ≤ length f) where
  abbrev us : Variables
  us = with_last vs f

  grown : size us ≡ size vs + 1
  grown = length_push vs.forms f

  old : (k : ℕ) → k < size vs → form us k ≡ form vs k
  old k l = get_or_append_left vs.forms (f ∷ []) [] k l

  new : form us (size vs) ≡ f
  new = get_or_push vs.forms f [] (size vs) refl

  last_or : (k : ℕ) → k < size us → (k < size vs) ⊎ (size vs ≡ k)
  last_or k l = elim (cases_lt k (size vs)) [ inl m ↦ inl m | inr m ↦ inr (let g = grown in omega arith) ]

  old_of : (k : ℕ) (r : Row) → k < size vs → IsOf vs k r → IsOf us k r
  old_of k r l is = subst (λ (g : Parts). IsMultiple g r.parts) (sym (old k l)) is

  old_comes : (k i : ℕ) → k < size vs → ComesAt vs rows k i → ComesAt us (rows ++ row ∷ []) k i
  old_comes k i l c = (c.0, front_at rows (row ∷ []) i (slice_get_within rows i c.0 c.1) ∙ c.1, old_of k c.0 l c.2)

  back_comes : (k i : ℕ) → k < size vs → ComesAt us rows k i → ComesAt vs rows k i
  back_comes k i l c = (c.0, c.1, subst (λ (g : Parts). IsMultiple g c.0.parts) (old k l) c.2)

  each : (P : ℕ → Type 0) → ((k : ℕ) → k < size vs → P k) → P (size vs) → (k : ℕ) → k < size us → P k
  each P first last k l = elim (last_or k l) [ inl m ↦ first k m | inr e ↦ subst P e last ]

  some_parts : (r : Row) → IsMultiple f r.parts → r.parts ≢ []
  some_parts r m e = none f f_normal (sym m.is ∙ e)
    where
      none : (g : Parts) → IsNormal g → times m.factor g ≡ [] → ⊥
      none [] n h = n.above
      none (x ∷ g) n h = absurd (cc)

  -- no row before is of it
  not_before : (r : Row) → Contains rows r → IsMultiple f r.parts → ⊥
  not_before r there m =
      let h = are.has r there (some_parts r m) in absurd (absent h.0 h.1 (normal_once r.parts (form vs h.0) f (are.normal h.0 h.1) f_normal h.2 m))

  first_of : (j : ℕ) → vs.terms ≤ j → j < size vs → (i : ℕ) × (i < length rows) × ComesAt us (rows ++ row ∷ []) j i
  first_of j l m = let o = are.comes j l m in (o.0, slice_get_within rows o.0 o.1.0 o.1.1, old_comes j o.0 m o.1)

  ordered : (j k i : ℕ) → vs.terms ≤ j → j < k → k < size us → ComesAt us (rows ++ row ∷ []) k i → (h : ℕ) × (h < i) × ComesAt us (rows ++ row ∷ []) j h
  ordered j k i l less m c = by (last_or k m) (comes_back rows row us k i c)
    where
      late : j < size vs → length rows ≤ i → (h : ℕ) × (h < i) × ComesAt us (rows ++ row ∷ []) j h
      late n o = let q = first_of j l n in let w = q.1 in (q.0, (omega arith), q.2)

      by : (k < size vs) ⊎ (size vs ≡ k) → ComesAt us rows k i ⊎ (length rows ≤ i) → (h : ℕ) × (h < i) × ComesAt us (rows ++ row ∷ []) j h
      by (inl n) (inl h) =
          let o = are.ordered j k i l less n (back_comes k i n h) in
          (o.0, o.1, old_comes j o.0 (omega arith) o.2)
      by (inl n) (inr h) = late (omega arith) h
      by (inr e) (inr h) = late (omega arith) h
      by (inr e) (inl h) =
          absurd (not_before h.0 (contains_at rows i h.0 h.1) (subst (λ (g : Parts). IsMultiple g h.0.parts) (ap (form us) (sym e) ∙ new) h.2))

  further : AreVariables (rows ++ row ∷ []) us
  further = record {
    terms_in = (let t = are.terms_in in let g = grown in omega arith);
    named = λ t l. let n = are.terms_in in old t (omega arith) ∙ are.named t l;
    normal = each (λ k. IsNormal (form us k)) (λ k l. subst IsNormal (sym (old k l)) (are.normal k l)) (subst IsNormal (sym new) f_normal);
    once = λ j k l m e. once j k e (last_or j l) (last_or k m);
    has = λ r there some. elim (Contains-append_cases rows (row ∷ []) r there) [
      | inl h ↦ let o = are.has r h some in let w = o.1 in let g = grown in (o.0, (omega arith), old_of o.0 r o.1 o.2)
      | inr h ↦
          let g = grown in
          (size vs, (omega arith), subst (λ (x : Row). IsMultiple (form us (size vs)) x.parts) (in_last row r h) own)
    ];
    longer = λ k l m. each (λ k. vs.terms ≤ k → 2 ≤ length (form us k)) (λ k n t. subst (λ (g : Parts). 2 ≤ length g) (sym (old k n)) (are.longer k t n)) (λ t. subst (λ (g : Parts). 2 ≤ length g) (sym new) long) k m l;
    comes = λ k l m. each (λ k. vs.terms ≤ k → (i : ℕ) × ComesAt us (rows ++ row ∷ []) k i) (λ k n t. let o = first_of k t n in (o.0, o.2)) (λ t. (length rows, (row, last_at rows row, own))) k m l;
    ordered = ordered;
  }
    where
      own : IsMultiple (form us (size vs)) row.parts
      own = subst (λ (g : Parts). IsMultiple g row.parts) (sym new) multiple

      once : (j k : ℕ) → form us j ≡ form us k → (j < size vs) ⊎ (size vs ≡ j) → (k < size vs) ⊎ (size vs ≡ k) → j ≡ k
      once j k e (inl l) (inl m) = are.once j k l m (sym (old j l) ∙ e ∙ old k m)
      once j k e (inl l) (inr d) = absurd (absent j l (sym (old j l) ∙ e ∙ ap (form us) (sym d) ∙ new))
      once j k e (inr d) (inl m) = absurd (absent k m (sym (old k m) ∙ sym e ∙ ap (form us) (sym d) ∙ new))
      once j k e (inr d) (inr c) = sym d ∙ c

-- ---- a further row

-- a form of one part is a term
long_form : (vs : Variables) → vs.terms ≤ size vs → ((t : ℕ) → t < vs.terms → form vs t ≡ (t, pos 1) ∷ []) → (f : Parts) → IsNormal f → TermsBelow vs.terms f
    → ((k : ℕ) → k < size vs → form vs k ≢ f) → 2 ≤ length f
long_form vs inside named [] normal below absent = absurd normal.above
long_form vs inside named (x ∷ []) normal below absent =
    let one : unsigned_abs x.1 ≡ 1 = normal.lowest (unsigned_abs x.1) (dvd_refl (unsigned_abs x.1), tt) in
    let above : pos 0 <ℤ x.1 = normal.above in
    let is : x.1 ≡ pos 1 = omega (arith, ints) in
    let l = below.0 in
    absurd (absent x.0 (omega arith) (named x.0 below.0 ∙ ap (λ (z : ℤ). (x.0, z) ∷ []) (sym is)))
long_form vs inside named (x ∷ y ∷ f) normal below absent = omega arith

pub record HasVariables (rows : List Row) (terms : ℕ) : Type 0 where
  pub variables : Variables
  pub same : variables.terms ≡ terms
  pub are : AreVariables rows variables

one_more : (rows : List Row) (row : Row) (vs : Variables) → AreVariables rows vs → IsRow row → TermsBelow vs.terms row.parts
    → HasVariables (rows ++ row ∷ []) vs.terms
one_more rows row vs are is below = by row.parts refl
  where
    placed : (h : HasForm row.parts) → IsThere vs.forms h.form → HasVariables (rows ++ row ∷ []) vs.terms
    placed h (IsThere.found k l e) = record {
      variables = vs;
      same = refl;
      are = keep rows row vs are (λ n. (k, l, subst (λ (g : Parts). IsMultiple g row.parts) (sym e) h.multiple));
    }
    placed h (IsThere.missing none) = record {
      variables = with_last vs h.form;
      same = refl;
      are =
          further rows row vs are h.form h.normal h.multiple none
          (long_form vs are.terms_in are.named h.form h.normal
          (form_below vs.terms h.multiple.factor h.form (subst (TermsBelow vs.terms) h.multiple.is below)) none);
    }

    by : (p : Parts) → row.parts ≡ p → HasVariables (rows ++ row ∷ []) vs.terms
    by [] e = record { variables = vs; same = refl; are = keep rows row vs are (λ n. absurd (n e)) }
    by (x ∷ p) e = let h = form_of row.parts (λ n. absurd (cc)) is.nonzero in placed h (is_there vs.forms h.form)

more : (done rest : List Row) (vs : Variables) (n : ℕ) → vs.terms ≡ n → AreVariables done vs
    → ((row : Row) → Contains rest row → IsRow row × TermsBelow n row.parts) → HasVariables (done ++ rest) n
more done [] vs n e are each = subst (λ l. HasVariables l n) (sym (append-nil done)) (record { variables = vs; same = e; are = are })
more done (row ∷ rest) vs n e are each =
    let here = each row (0, omega arith, refl) in
    let one = one_more done row vs are here.0 (subst (λ m. TermsBelow m row.parts) (sym e) here.1) in
    subst (λ l. HasVariables l n) (append_assoc done (row ∷ []) rest)
    (more (done ++ row ∷ []) rest one.variables n (one.same ∙ e) one.are (λ r there. each r (tail_in row rest r there)))

-- ---- the terms alone

abbrev singles : ℕ → ℕ → List Parts
singles low zero = []
singles low (suc n) = ((low, pos 1) ∷ []) ∷ singles (suc low) n

count_singles : (low n : ℕ) → length (singles low n) ≡ n
count_singles low zero = refl
count_singles low (suc n) = ap suc (count_singles (suc low) n)

at_singles : (low n t : ℕ) → t < n → get_or (singles low n) t [] ≡ (low + t, pos 1) ∷ []
at_singles low zero t l = absurd (omega arith)
at_singles low (suc n) zero l = ap (λ (k : ℕ). (k, pos 1) ∷ []) (let e : low ≡ low + 0 = omega arith in e)
at_singles low (suc n) (suc t) l =
    at_singles (suc low) n t (omega arith) ∙ ap (λ (k : ℕ). (k, pos 1) ∷ []) (let e : suc low + t ≡ low + suc t = omega arith in e)

abbrev alone : ℕ → Variables
alone n = record { terms = n; forms = singles 0 n }

abbrev term_of : Parts → ℕ
term_of [] = 0
term_of (x ∷ p) = x.0

named : (n t : ℕ) → t < n → form (alone n) t ≡ (t, pos 1) ∷ []
named n t l = at_singles 0 n t l ∙ ap (λ (k : ℕ). (k, pos 1) ∷ []) (let e : 0 + t ≡ t = omega arith in e)

single_normal : (t : ℕ) → IsNormal ((t, pos 1) ∷ [])
single_normal t = record { above = omega (arith, ints); lowest = λ d h. eq-one_of_dvd-one h.0 }

start : (n : ℕ) → AreVariables [] (alone n)
start n = record {
  terms_in = (let c = count_singles 0 n in omega arith);
  named = named n;
  normal = λ k l. let c = count_singles 0 n in subst IsNormal (sym (named n k (omega arith))) (single_normal k);
  once = λ j k l m e. let c = count_singles 0 n in ap term_of (sym (named n j (omega arith)) ∙ e ∙ named n k (omega arith));
  has = λ row there some. no_row row there;
  longer = λ k l m. let c = count_singles 0 n in absurd (omega arith);
  comes = λ k l m. let c = count_singles 0 n in absurd (omega arith);
  ordered = λ j k i l less m c. let d = count_singles 0 n in absurd (omega arith);
}

pub variables_exist : (rows : List Row) (n : ℕ) → ((row : Row) → Contains rows row → IsRow row × TermsBelow n row.parts) → HasVariables rows n
variables_exist rows n each = more [] rows (alone n) n refl (start n) each
