-- The walk from a term to the earlier ones that apply its function.
use Rattle.std.proofs.Common.{◌≡◌, ◌⊎◌, inl, inr, ℕ, zero, suc, ◌+◌, ◌<◌, ◌≤◌, List, [], ◌∷◌, Bool, true, false, Option, Some, None, slice_get, get_or, length, refl, sym, ap, subst, ◌∙◌, arith, All, nat_eq, nat_le}
use Rattle.std.specs.Ordering.{nat_cmp}
use Rattle.std.specs.declared.cmp.Ordering.{Ordering}
use Rattle.std.specs.declared.cmp.Ordering.TheVariants.{Less, Equal, Greater}
use Rattle.std.proofs.lemmas.Bool.Decides.{nat_tests}
use Rattle.lq_base_numbers.specs.Rationals.Rational.{ℚ}
use Rattle.std.specs.List.{Contains}
use Rattle.std.proofs.lemmas.List.Elements.{Contains-append_left, Contains-append_right, All-contains, All-contains_itself}
use Rattle.lq_logic_predicates.specs.Sum.{Sum, whole, var, neg, add, sub, mul, div, rem, len, measure}
use Rattle.lq_logic_predicates.specs.Table.{index_of}
use Rattle.lq_logic_predicates.specs.Numbering.{slice_get-index_of, slice_get-has_term, index_of-present}
use Rattle.lq_logic_predicates.specs.Comparison.{Comparison, CanGather}
use Rattle.lq_logic_predicates.specs.Points.{Point, form_at}
use Rattle.lq_logic_predicates.specs.ClosedImplication.{Agree, AgreeOrApart, AreApart}
use Rattle.lq_logic_predicates.specs.Literals.{pair_rows, rows_with, all_pairs}
use Rattle.lq_logic_points.specs.declared.agreeing.Function.{Function}
use Rattle.lq_logic_points.specs.declared.agreeing.Function.TheVariants.{Product, Quotient, Remainder, Length, Measure}
use Rattle.lq_logic_points.specs.Function.{applied}
use Rattle.lq_logic_points.specs.Agreeing.{AgreesBefore, AllAgree}
use Rattle.lq_logic_points.specs.Nearest.{Applies, IsNearest, HasEarlier}

abbrev pub place_or_zero : Option ℕ → ℕ
place_or_zero None = 0
place_or_zero (Some k) = k + 1

-- each earlier application of the n-th term's function agrees with it, or stands at the next place or before it
pub record Pending (p : Point) (terms : List Sum) (n : ℕ) (next : Option ℕ) : Type 0 where
  pub below : (j : ℕ) → next ≡ Some j → j < n
  pub chain : (j : ℕ) (t : Sum) (f : Function) → next ≡ Some j → slice_get terms n ≡ Some t → applied t ≡ Some f → Applies terms j f
  pub done : (i : ℕ) (s t : Sum) (f : Function) → i < n → slice_get terms i ≡ Some s → slice_get terms n ≡ Some t → applied s ≡ Some f → applied t ≡ Some f
      → Agree p s t ⊎ ((j : ℕ) × (next ≡ Some j) × (i ≤ j))

some_once : {A : Type 0} (x y : A) → Some x ≡ Some y → x ≡ y
some_once x y h = cc

compare : (i k : ℕ) → (i ≤ k) ⊎ (k + 1 ≤ i)
compare i k = by (nat_le i k) refl
  where
    by : (b : Bool) → nat_le i k ≡ b → (i ≤ k) ⊎ (k + 1 ≤ i)
    by true h = inl (grind (arith, nat_tests))
    by false h = inr (grind (arith, nat_tests))

-- what stands before the n-th term is at the nearest place or before it
to_nearest : (terms : List Sum) (n : ℕ) (f : Function) (o : Option ℕ) → IsNearest terms n f o → (i : ℕ) (s : Sum) → i < n → slice_get terms i ≡ Some s → applied s ≡ Some f
    → (j : ℕ) × (o ≡ Some j) × (i ≤ j)
to_nearest terms n f None h i s w e a = absurd (h i s (omega arith) w e a)
to_nearest terms n f (Some k) h i s w e a = elim (compare i k) [ inl m ↦ (k, refl, m) | inr m ↦ absurd (h.2 i s m w e a) ]

nearest_applies : (terms : List Sum) (n : ℕ) (f : Function) (o : Option ℕ) (j : ℕ) → IsNearest terms n f o → o ≡ Some j → Applies terms j f
nearest_applies terms n f None j h e = cc
nearest_applies terms n f (Some k) j h e = subst (λ x. Applies terms x f) (some_once k j e) h.1

pub pending_start : (p : Point) (terms : List Sum) (n : ℕ) (earlier : List (Option ℕ)) → HasEarlier terms (length terms) earlier → n < length terms
    → Pending p terms n (get_or earlier n None)
pending_start p terms n earlier h w = record {
  below = λ j e. h.below n j w e;
  chain = λ j t f e g a. nearest_applies terms n f (get_or earlier n None) j (h.nearest n t f w g a) e;
  done = λ i s t f v e g a b. inr (to_nearest terms n f (get_or earlier n None) (h.nearest n t f w g b) i s v e a);
}

pub pending_step : (p : Point) (terms : List Sum) (n j : ℕ) (u t : Sum) (earlier : List (Option ℕ)) (next : Option ℕ) → HasEarlier terms (length terms) earlier → n < length terms
    → next ≡ Some j → slice_get terms j ≡ Some u → slice_get terms n ≡ Some t → Agree p u t → Pending p terms n next → Pending p terms n (get_or earlier j None)
pending_step p terms n j u t earlier next h w e g k agrees q = record {
  below = λ i x. let a = h.below j i within x in let b = q.below j e in omega (arith, a, b);
  chain = λ i v f x y a. nearest_applies terms j f (get_or earlier j None) i (nearest v f y a) x;
  done = λ i s v f m x y a b. by i s v f x y a b (q.done i s v f m x y a b);
}
  where
    within : j < length terms
    within = let b = q.below j e in omega (arith, b, w)

    nearest : (v : Sum) (f : Function) → slice_get terms n ≡ Some v → applied v ≡ Some f → IsNearest terms j f (get_or earlier j None)
    nearest v f y a = let r = q.chain j v f e y a in h.nearest j r.term f within r.at r.is

    here : (i : ℕ) (s v : Sum) → i ≡ j → slice_get terms i ≡ Some s → slice_get terms n ≡ Some v → Agree p s v
    here i s v same x y =
        let a : s ≡ u = some_once s u (sym x ∙ ap (slice_get terms) same ∙ g) in
        let b : v ≡ t = some_once v t (sym y ∙ k) in
        subst (λ z. Agree p z v) (sym a) (subst (λ z. Agree p u z) (sym b) agrees)

    earlier_one : (i : ℕ) (s v : Sum) (f : Function) → slice_get terms i ≡ Some s → slice_get terms n ≡ Some v → applied s ≡ Some f → applied v ≡ Some f → i ≤ j
        → (nat_eq i j ≡ true) ⊎ (nat_eq i j ≡ false) → Agree p s v ⊎ ((l : ℕ) × (get_or earlier j None ≡ Some l) × (i ≤ l))
    earlier_one i s v f x y a b m (inl z) = inl (here i s v (grind (arith, nat_tests)) x y)
    earlier_one i s v f x y a b m (inr z) = inr (to_nearest terms j f (get_or earlier j None) (nearest v f y b) i s (grind (arith, nat_tests)) x a)

    decide : (b : Bool) → (b ≡ true) ⊎ (b ≡ false)
    decide true = inl refl
    decide false = inr refl

    by : (i : ℕ) (s v : Sum) (f : Function) → slice_get terms i ≡ Some s → slice_get terms n ≡ Some v → applied s ≡ Some f → applied v ≡ Some f
        → Agree p s v ⊎ ((l : ℕ) × (next ≡ Some l) × (i ≤ l)) → Agree p s v ⊎ ((l : ℕ) × (get_or earlier j None ≡ Some l) × (i ≤ l))
    by i s v f x y a b (inl r) = inl r
    by i s v f x y a b (inr r) =
        let same : r.0 ≡ j = some_once r.0 j (sym r.1 ∙ e) in
        let m : i ≤ j = subst (λ z. i ≤ z) same r.2 in
        earlier_one i s v f x y a b m (decide (nat_eq i j))

-- two terms agree if they do where they apply one function
agree_if : (p : Point) (s t : Sum) → ((f : Function) → applied s ≡ Some f → applied t ≡ Some f → Agree p s t) → Agree p s t
agree_if p (mul a b) (mul c d) h = h Product refl refl
agree_if p (mul a b) _ h = tt
agree_if p (div a b) (div c d) h = h Quotient refl refl
agree_if p (div a b) _ h = tt
agree_if p (rem a b) (rem c d) h = h Remainder refl refl
agree_if p (rem a b) _ h = tt
agree_if p (len a) (len b) h = h Length refl refl
agree_if p (len a) _ h = tt
agree_if p (measure f a) (measure g b) h = λ e. h (Measure f) refl (ap (λ m. Some (Measure m)) (sym e)) e
agree_if p (measure f a) _ h = tt
agree_if p (whole n) t h = tt
agree_if p (var x) t h = tt
agree_if p (neg a) t h = tt
agree_if p (add a b) t h = tt
agree_if p (sub a b) t h = tt

pub pending_end : (p : Point) (terms : List Sum) (n : ℕ) → Pending p terms n None → AgreesBefore p terms n
pending_end p terms n q = λ i s t w e g. agree_if p s t (λ f a b. by s t (q.done i s t f w e g a b))
  where
    by : {i : ℕ} (s t : Sum) → Agree p s t ⊎ ((j : ℕ) × (None ≡ Some j) × (i ≤ j)) → Agree p s t
    by s t (inl h) = h
    by s t (inr h) = let e = h.1 in cc

-- ---- pairs
swap : (p : Point) (a b c d : Sum) (x y : ℚ) → AgreeOrApart p a b c d x y → AgreeOrApart p c d a b y x
swap p a b c d x y (inl h) = inl (sym h.0, sym h.1, sym h.2)
swap p a b c d x y (inr (inl h)) = inr (inl (turned h))
  where
    turned : AreApart (form_at p a) (form_at p c) → AreApart (form_at p c) (form_at p a)
    turned (inl k) = inr k
    turned (inr k) = inl k
swap p a b c d x y (inr (inr h)) = inr (inr (turned h))
  where
    turned : AreApart (form_at p b) (form_at p d) → AreApart (form_at p d) (form_at p b)
    turned (inl k) = inr k
    turned (inr k) = inl k

agree_symm : (p : Point) (s t : Sum) → Agree p s t → Agree p t s
agree_symm p (mul a b) (mul c d) h = swap p a b c d (p.number (mul a b)) (p.number (mul c d)) h
agree_symm p (div a b) (div c d) h = swap p a b c d (p.number (div a b)) (p.number (div c d)) h
agree_symm p (rem a b) (rem c d) h = swap p a b c d (p.number (rem a b)) (p.number (rem c d)) h
agree_symm p (len a) (len b) h = λ e. sym (h (sym e))
agree_symm p (measure f a) (measure g b) h = λ e k. sym (h (sym e) (sym k))
agree_symm p (mul a b) t h = agree_if p t (mul a b) (λ f x y. cc)
agree_symm p (div a b) t h = agree_if p t (div a b) (λ f x y. cc)
agree_symm p (rem a b) t h = agree_if p t (rem a b) (λ f x y. cc)
agree_symm p (len a) t h = agree_if p t (len a) (λ f x y. cc)
agree_symm p (measure g a) t h = agree_if p t (measure g a) (λ f x y. cc)
agree_symm p (whole n) t h = agree_if p t (whole n) (λ f x y. cc)
agree_symm p (var n) t h = agree_if p t (var n) (λ f x y. cc)
agree_symm p (neg a) t h = agree_if p t (neg a) (λ f x y. cc)
agree_symm p (add a b) t h = agree_if p t (add a b) (λ f x y. cc)
agree_symm p (sub a b) t h = agree_if p t (sub a b) (λ f x y. cc)

agree_refl : (p : Point) (s : Sum) → Agree p s s
agree_refl p (mul a b) = inl (refl, refl, refl)
agree_refl p (div a b) = inl (refl, refl, refl)
agree_refl p (rem a b) = inl (refl, refl, refl)
agree_refl p (len a) = λ e. refl
agree_refl p (measure f a) = λ e k. refl
agree_refl p (whole n) = tt
agree_refl p (var x) = tt
agree_refl p (neg a) = tt
agree_refl p (add a b) = tt
agree_refl p (sub a b) = tt

pub all_from_before : (p : Point) (terms : List Sum) → ((n : ℕ) → n < length terms → AgreesBefore p terms n) → AllAgree p terms
all_from_before p terms h s t a b = by (nat_cmp (index_of terms s) (index_of terms t)) refl
  where
    one : slice_get terms (index_of terms s) ≡ Some s
    one = slice_get-index_of terms s a

    two : slice_get terms (index_of terms t) ≡ Some t
    two = slice_get-index_of terms t b

    by : (o : Ordering) → nat_cmp (index_of terms s) (index_of terms t) ≡ o → Agree p s t
    by Less e = h (index_of terms t) (index_of-present terms t b) (index_of terms s) s t (grind (arith, nat_tests)) one two
    by Greater e = agree_symm p t s (h (index_of terms s) (index_of-present terms s a) (index_of terms t) t s (grind (arith, nat_tests)) two one)
    by Equal e =
        let i : index_of terms s ≡ index_of terms t = grind (arith, nat_tests) in
        let same : s ≡ t = some_once s t (sym one ∙ ap (slice_get terms) i ∙ two) in subst (λ z. Agree p s z) same (agree_refl p s)

pub before_from_all : (p : Point) (terms : List Sum) (n : ℕ) → AllAgree p terms → AgreesBefore p terms n
before_from_all p terms n h i s t w e g = h s t (slice_get-has_term terms i s e) (slice_get-has_term terms n t g)

rows_among : (s : Sum) (ts : List Sum) (j : ℕ) (t : Sum) (c : Comparison) → slice_get ts j ≡ Some t → Contains (pair_rows s t) c → Contains (rows_with s ts) c
rows_among s [] j t c e h = cc
rows_among s (u ∷ ts) zero t c e h =
    let same : u ≡ t = some_once u t e in Contains-append_left (pair_rows s u) (rows_with s ts) c (subst (λ z. Contains (pair_rows s z) c) (sym same) h)
rows_among s (u ∷ ts) (suc j) t c e h = Contains-append_right (pair_rows s u) (rows_with s ts) c (rows_among s ts j t c e h)

pub pair_among : (terms : List Sum) (i j : ℕ) (s t : Sum) (c : Comparison) → i < j → slice_get terms i ≡ Some s → slice_get terms j ≡ Some t → Contains (pair_rows s t) c → Contains (all_pairs terms) c
pair_among [] i j s t c w e g h = cc
pair_among (u ∷ ts) i zero s t c w e g h = absurd (omega (arith, w))
pair_among (u ∷ ts) zero (suc j) s t c w e g h =
    let same : u ≡ s = some_once u s e in
    Contains-append_left (rows_with u ts) (all_pairs ts) c (subst (λ z. Contains (rows_with z ts) c) (sym same) (rows_among s ts j t c g h))
pair_among (u ∷ ts) (suc i) (suc j) s t c w e g h = Contains-append_right (rows_with u ts) (all_pairs ts) c (pair_among ts i j s t c (omega (arith, w)) e g h)

pub pair_fits : (terms : List Sum) (i j : ℕ) (s t : Sum) → i < j → slice_get terms i ≡ Some s → slice_get terms j ≡ Some t → All CanGather (all_pairs terms) → All CanGather (pair_rows s t)
pair_fits terms i j s t w e g fits = λ k d v.
    All-contains CanGather (all_pairs terms) (get_or (pair_rows s t) k d) fits (pair_among terms i j s t (get_or (pair_rows s t) k d) w e g (All-contains_itself (pair_rows s t) k d v))
