-- A configuration with one more form is one.
use Rattle.std.proofs.Common.{◌≡◌, ℕ, zero, suc, pos, ◌<◌, ◌⊎◌, inl, inr, arith, refl, sym, ap, ap₂, subst, ◌∙◌, Bool, true, false, ◌==◌, if◌then◌else◌, List, [], ◌∷◌, ◌++◌, length, get_or}
use Rattle.std.proofs.lemmas.Bool.{cases_eq}
use Rattle.std.proofs.lemmas.List.{length_push}
use Rattle.std.proofs.lemmas.List.Elements.{Contains-append_left}
use Rattle.lq_base_numbers.specs.Rationals.Rational.{ℚ, whole, ◌+ℚ◌, ◌-ℚ◌, ◌*ℚ◌}
use Rattle.lq_base_numbers.specs.Rationals.Solver.{var, con, ◌⊕◌, ◌⊖◌, ◌⊗◌, solve}
use Rattle.lq_logic_rows.specs.Difference.{TermsBelow}
use Rattle.lq_logic_rows.specs.Forms.{Parts}
use Rattle.lq_logic_rows.specs.Row.{Row, Valuation, sum_at}
use Rattle.lq_logic_rows.specs.Bounds.{Bounds}
use Rattle.lq_logic_rows.specs.declared.bound.Side.{Side}
use Rattle.lq_prover_pivots.specs.Pivots.Ranges.{one_if, count_below, only_if, combine}
use Rattle.lq_prover_pivots.specs.Pivots.Rows.{Variables, size, form, at, Gives}
use Rattle.lq_prover_pivots.specs.Pivots.Configurations.{Configuration, Free, Basic, IsCombination, IsConfiguration}
use Rattle.lq_prover_pivots.proofs.PivotsLemmas.Ranges.{unit, sum_below-same, sum_below-zero, sum_below-plus, sum_below-scale, combine-unit, combine-values, combine-entries, combine-plus_minus}
use Rattle.lq_prover_pivots.proofs.CramerLemmas.Places.{eqb_by}
use Rattle.lq_prover_pivots.proofs.CramerLemmas.Members.{split}
use Rattle.lq_prover_pivots.proofs.CramerLemmas.Sizes.{count_same}
use Rattle.lq_prover_pivots.specs.Work.Work.{entry_of}
use Rattle.lq_prover_pivots.specs.Work.Extension.{with_form, extended, TermsFirst, FormsCanBeAdded}

-- ---- at the last number and before it
last_is : (n : ℕ) {A : Type 0} (x y : A) → (if n == n then x else y) ≡ x
last_is n x y = eqb_by n n (λ q e. ap (λ b. if b then x else y) q) (λ q e. absurd (e refl))

earlier_is : (k n : ℕ) {A : Type 0} (x y : A) → k < n → (if k == n then x else y) ≡ y
earlier_is k n x y l = eqb_by k n (λ q e. absurd (omega arith)) (λ q e. ap (λ b. if b then x else y) q)

get_first : (xs : List Parts) (y d : Parts) (k : ℕ) → k < length xs → get_or (xs ++ y ∷ []) k d ≡ get_or xs k d
get_first [] y d k l = absurd (omega arith)
get_first (x ∷ xs) y d zero l = refl
get_first (x ∷ xs) y d (suc k) l = get_first xs y d k (omega arith)

get_last : (xs : List Parts) (y d : Parts) → get_or (xs ++ y ∷ []) (length xs) d ≡ y
get_last [] y d = refl
get_last (x ∷ xs) y d = get_last xs y d

-- ---- sums of combinations
only_none : (b : Bool) (x : ℚ) → only_if b (whole (pos 0) *ℚ x) ≡ whole (pos 0)
only_none true x = solve (x ∷ []) (con (pos 0) ⊗ var 0) (con (pos 0)) refl
only_none false x = refl

only_step : (b : Bool) (z e s x : ℚ) → only_if b ((z *ℚ e +ℚ s) *ℚ x) ≡ z *ℚ only_if b (e *ℚ x) +ℚ only_if b (s *ℚ x)
only_step true z e s x = solve (z ∷ e ∷ s ∷ x ∷ []) ((var 0 ⊗ var 1 ⊕ var 2) ⊗ var 3) (var 0 ⊗ (var 1 ⊗ var 3) ⊕ var 2 ⊗ var 3) refl
only_step false z e s x = solve (z ∷ []) (con (pos 0)) (var 0 ⊗ con (pos 0) ⊕ con (pos 0)) refl

combination_none : (n : ℕ) (is_in : ℕ → Bool) (x : ℕ → ℚ) → combine n is_in (λ j. whole (pos 0)) x ≡ whole (pos 0)
combination_none n is_in x = sum_below-same n _ (λ j. whole (pos 0)) (λ j l. only_none (is_in j) (x j)) ∙ sum_below-zero n

combination_step : (n : ℕ) (is_in : ℕ → Bool) (z : ℚ) (e s x : ℕ → ℚ) → combine n is_in (λ j. z *ℚ e j +ℚ s j) x ≡ z *ℚ combine n is_in e x +ℚ combine n is_in s x
combination_step n is_in z e s x =
    sum_below-same n _ (λ j. z *ℚ only_if (is_in j) (e j *ℚ x j) +ℚ only_if (is_in j) (s j *ℚ x j)) (λ j l. only_step (is_in j) z (e j) (s j) (x j))
    ∙ sum_below-plus n (λ j. z *ℚ only_if (is_in j) (e j *ℚ x j)) (λ j. only_if (is_in j) (s j *ℚ x j))
    ∙ ap (λ t. t +ℚ combine n is_in s x) (sum_below-scale n z (λ j. only_if (is_in j) (e j *ℚ x j)))

sum_of_combinations : (n : ℕ) (is_in : ℕ → Bool) (e : ℕ → ℕ → ℚ) (x : ℕ → ℚ) (f : Parts)
    → sum_at (λ t. combine n is_in (e t) x) f ≡ combine n is_in (λ j. sum_at (λ t. e t j) f) x
sum_of_combinations n is_in e x [] = sym (combination_none n is_in x)
sum_of_combinations n is_in e x (part ∷ f) =
    ap (λ s. whole part.1 *ℚ combine n is_in (e part.0) x +ℚ s) (sum_of_combinations n is_in e x f)
    ∙ sym (combination_step n is_in (whole part.1) (e part.0) (λ j. sum_at (λ t. e t j) f) x)

-- sums at values that agree on the terms
sum_same : (n : ℕ) (v w : Valuation) (f : Parts) → TermsBelow n f → ((t : ℕ) → t < n → v t ≡ w t) → sum_at v f ≡ sum_at w f
sum_same n v w [] b h = refl
sum_same n v w (part ∷ f) b h = ap₂ (λ s r. whole part.1 *ℚ s +ℚ r) (h part.0 b.0) (sum_same n v w f b.1 h)

-- ---- a basis member, or all free
record HasBasic (n : ℕ) (is_in : ℕ → Bool) : Type 0 where
  member : ℕ
  inside : member < n
  basic : is_in member ≡ false

find_basic : (n : ℕ) (is_in : ℕ → Bool) → HasBasic n is_in ⊎ ((k : ℕ) → k < n → is_in k ≡ true)
find_basic zero is_in = inr (λ k l. absurd (omega arith))
find_basic (suc n) is_in = by (find_basic n is_in) (split (is_in n))
  where
    by : HasBasic n is_in ⊎ ((k : ℕ) → k < n → is_in k ≡ true) → (is_in n ≡ true) ⊎ (is_in n ≡ false) → HasBasic (suc n) is_in ⊎ ((k : ℕ) → k < suc n → is_in k ≡ true)
    by (inl h) e = let l = h.inside in inl (record { member = h.member; inside = omega arith; basic = h.basic })
    by (inr h) (inr e) = inl (record { member = n; inside = omega arith; basic = e })
    by (inr h) (inl e) = inr (λ k l. elim (cases_eq k n) [ inl q ↦ subst (λ m. is_in m ≡ true) (sym q) e | inr u ↦ h k (omega arith) ])

count_full : (n : ℕ) (is_in : ℕ → Bool) → ((k : ℕ) → k < n → is_in k ≡ true) → count_below n is_in ≡ n
count_full zero is_in h = refl
count_full (suc n) is_in h =
    let before = count_full n is_in (λ k l. h k (omega arith)) in
    let e : one_if (is_in n) ≡ 1 = ap one_if (h n (omega arith)) in
    omega arith

-- ---- of one configuration
term_at : (vs : Variables) (first : TermsFirst vs) (v : Valuation) (t : ℕ) → t < vs.terms → at vs v t ≡ v t
term_at vs first v t l = ap (sum_at v) (first.named t l) ∙ solve (v t ∷ []) (con (pos 1) ⊗ var 0 ⊕ con (pos 0)) (var 0) refl

entry_at : (c : Configuration) (k : ℕ) (b : Bool) → c.is_free k ≡ b → (j : ℕ) → entry_of c k j ≡ (if b then unit k j else c.entry k j)
entry_at c k b e j = ap (λ b. if b then unit k j else c.entry k j) e

-- each variable is the combination of its entries, also where it is free
variable_is : (vs : Variables) (c : Configuration) (x : ℕ → ℚ) (k : ℕ) → k < size vs
    → (Basic vs c k → x k ≡ combine (size vs) c.is_free (c.entry k) x) → x k ≡ combine (size vs) c.is_free (entry_of c k) x
variable_is vs c x k l h =
    elim (split (c.is_free k)) [
      | inl e ↦ sym (combine-entries (size vs) c.is_free (entry_of c k) (unit k) x (λ j m i. entry_at c k true e j) ∙ combine-unit (size vs) k c.is_free x l e)
      | inr e ↦ h (l, e) ∙ combine-entries (size vs) c.is_free (c.entry k) (entry_of c k) x (λ j m i. sym (entry_at c k false e j))
    ]

-- what the form is at each valuation, and at the values
abbrev entries : Configuration → Parts → ℕ → ℚ
entries c f j = sum_at (λ t. entry_of c t j) f

form_is : (vs : Variables) (listed : List Row) (c : Configuration) (f : Parts) → TermsFirst vs → TermsBelow vs.terms f → IsConfiguration vs listed c → (v : Valuation)
    → sum_at v f ≡ combine (size vs) c.is_free (entries c f) (at vs v)
form_is vs listed c f first below is v =
    let in_terms = first.terms_in in
    sum_same vs.terms v (λ t. combine (size vs) c.is_free (entry_of c t) (at vs v)) f below
    (λ t l. sym (term_at vs first v t l) ∙ variable_is vs c (at vs v) t (omega arith) (λ b. (is.combined t b).always v))
    ∙ sum_of_combinations (size vs) c.is_free (entry_of c) (at vs v) f

value_is : (vs : Variables) (listed : List Row) (c : Configuration) (f : Parts) → TermsFirst vs → TermsBelow vs.terms f → IsConfiguration vs listed c
    → sum_at c.value f ≡ combine (size vs) c.is_free (entries c f) c.value
value_is vs listed c f first below is =
    let in_terms = first.terms_in in
    sum_same vs.terms c.value (λ t. combine (size vs) c.is_free (entry_of c t) c.value) f below
    (λ t l. variable_is vs c c.value t (omega arith) (λ b. is.valued t b))
    ∙ sum_of_combinations (size vs) c.is_free (entry_of c) c.value f

-- the free ones are independent: two combinations that agree at each valuation are one
independent : (vs : Variables) (listed : List Row) (c : Configuration) → TermsFirst vs → IsConfiguration vs listed c → (a b : ℕ → ℚ)
    → ((v : Valuation) → combine (size vs) c.is_free a (at vs v) ≡ combine (size vs) c.is_free b (at vs v)) → (j : ℕ) → Free vs c j → a j ≡ b j
independent vs listed c first is a b same j free = by (find_basic (size vs) c.is_free)
  where
    cancel : (x y z : ℚ) → z +ℚ x -ℚ y ≡ z → x ≡ y
    cancel x y z e =
        solve (x ∷ y ∷ z ∷ []) (var 0) (var 2 ⊕ var 0 ⊖ var 1 ⊖ var 2 ⊕ var 1) refl
        ∙ ap (λ t. t -ℚ z +ℚ y) e ∙ solve (y ∷ z ∷ []) (var 1 ⊖ var 1 ⊕ var 0) (var 0) refl

    through : (g : ℕ) → Basic vs c g → a j ≡ b j
    through g basic =
        cancel (a j) (b j) (c.entry g j)
        (is.once g (λ i. c.entry g i +ℚ a i -ℚ b i) basic
        (record {
          always = λ v.
              (is.combined g basic).always v
              ∙ solve (combine (size vs) c.is_free (c.entry g) (at vs v) ∷ combine (size vs) c.is_free a (at vs v) ∷ []) (var 0) (var 0 ⊕ var 1 ⊖ var 1) refl
              ∙ ap (λ t. combine (size vs) c.is_free (c.entry g) (at vs v) +ℚ combine (size vs) c.is_free a (at vs v) -ℚ t) (same v)
              ∙ sym (combine-plus_minus (size vs) c.is_free (c.entry g) a b (at vs v));
        })
        j free)

    one : ((k : ℕ) → k < size vs → c.is_free k ≡ true) → (x : ℕ → ℚ) → combine (size vs) c.is_free x (at vs (unit j)) ≡ x j
    one all x =
        let count = count_full (size vs) c.is_free all in
        let is_terms = is.count in
        combine-values (size vs) c.is_free x (at vs (unit j)) (unit j) (λ k l. term_at vs first (unit j) k (omega arith))
        ∙ sum_below-same (size vs) _ (λ k. only_if (c.is_free k) (unit j k *ℚ x k)) (λ k l. ap (only_if (c.is_free k)) (solve (x k ∷ unit j k ∷ []) (var 0 ⊗ var 1) (var 1 ⊗ var 0) refl))
        ∙ combine-unit (size vs) j c.is_free x free.0 free.1

    by : HasBasic (size vs) c.is_free ⊎ ((k : ℕ) → k < size vs → c.is_free k ≡ true) → a j ≡ b j
    by (inl h) = through h.member (h.inside, h.basic)
    by (inr all) = sym (one all a) ∙ same (unit j) ∙ one all b

-- ---- with the form
size_more : (vs : Variables) (f : Parts) → size (with_form vs f) ≡ suc (size vs)
size_more vs f = let e = length_push vs.forms f in omega arith

form_first : (vs : Variables) (f : Parts) (k : ℕ) → k < size vs → form (with_form vs f) k ≡ form vs k
form_first vs f k l = get_first vs.forms f [] k l

free_first : (vs : Variables) (c : Configuration) (f : Parts) (k : ℕ) → k < size vs → (extended vs c f).is_free k ≡ c.is_free k
free_first vs c f k l = earlier_is k (size vs) false (c.is_free k) l

free_last : (vs : Variables) (c : Configuration) (f : Parts) → (extended vs c f).is_free (size vs) ≡ false
free_last vs c f = last_is (size vs) false (c.is_free (size vs))

entry_first : (vs : Variables) (c : Configuration) (f : Parts) (k j : ℕ) → k < size vs → (extended vs c f).entry k j ≡ c.entry k j
entry_first vs c f k j l = earlier_is k (size vs) (entries c f j) (c.entry k j) l

entry_last : (vs : Variables) (c : Configuration) (f : Parts) (j : ℕ) → (extended vs c f).entry (size vs) j ≡ entries c f j
entry_last vs c f j = last_is (size vs) (entries c f j) (c.entry (size vs) j)

value_first : (vs : Variables) (c : Configuration) (f : Parts) (k : ℕ) → k < size vs → (extended vs c f).value k ≡ c.value k
value_first vs c f k l = earlier_is k (size vs) (sum_at c.value f) (c.value k) l

value_last : (vs : Variables) (c : Configuration) (f : Parts) → (extended vs c f).value (size vs) ≡ sum_at c.value f
value_last vs c f = last_is (size vs) (sum_at c.value f) (c.value (size vs))

at_first : (vs : Variables) (f : Parts) (v : Valuation) (k : ℕ) → k < size vs → at (with_form vs f) v k ≡ at vs v k
at_first vs f v k l = ap (sum_at v) (form_first vs f k l)

combine_more : (vs : Variables) (c : Configuration) (f : Parts) (a x y : ℕ → ℚ) → ((j : ℕ) → j < size vs → x j ≡ y j)
    → combine (size (with_form vs f)) (extended vs c f).is_free a x ≡ combine (size vs) c.is_free a y
combine_more vs c f a x y h =
    let n : ℕ = size vs in
    ap (λ m. combine m (extended vs c f).is_free a x) (size_more vs f)
    ∙ ap₂ (λ s b. s +ℚ only_if b (a n *ℚ x n))
    (sum_below-same n _ (λ j. only_if (c.is_free j) (a j *ℚ y j)) (λ j l. ap₂ (λ b t. only_if b (a j *ℚ t)) (free_first vs c f j l) (h j l)))
    (free_last vs c f)
    ∙ solve (combine n c.is_free a y ∷ []) (var 0 ⊕ con (pos 0)) (var 0) refl

count_more : (vs : Variables) (c : Configuration) (f : Parts) → count_below (size (with_form vs f)) (extended vs c f).is_free ≡ count_below (size vs) c.is_free
count_more vs c f =
    let before = ap (λ m. count_below m (extended vs c f).is_free) (size_more vs f) in
    let first = count_same (size vs) (extended vs c f).is_free c.is_free (free_first vs c f) in
    let last : one_if ((extended vs c f).is_free (size vs)) ≡ 0 = ap one_if (free_last vs c f) in
    omega (arith, before)

-- a variable is an earlier one, or the form
which : (vs : Variables) (f : Parts) (k : ℕ) → k < size (with_form vs f) → (k < size vs) ⊎ (k ≡ size vs)
which vs f k l =
    let e = size_more vs f in
    elim (cases_eq k (size vs)) [ inl q ↦ inr q | inr u ↦ inl (omega arith) ]

free_back : (vs : Variables) (c : Configuration) (f : Parts) (j : ℕ) → Free (with_form vs f) (extended vs c f) j → Free vs c j
free_back vs c f j free =
    elim (which vs f j free.0) [
      | inl l ↦ (l, sym (free_first vs c f j l) ∙ free.1)
      | inr q ↦
          let e : (extended vs c f).is_free j ≡ false = subst (λ m. (extended vs c f).is_free m ≡ false) (sym q) (free_last vs c f) in
          let g = free.1 in absurd (cc)
    ]

basic_back : (vs : Variables) (c : Configuration) (f : Parts) (k : ℕ) → k < size vs → Basic (with_form vs f) (extended vs c f) k → Basic vs c k
basic_back vs c f k l basic = (l, sym (free_first vs c f k l) ∙ basic.1)

at_more : (vs : Variables) (c : Configuration) (f : Parts) (a : ℕ → ℚ) (v : Valuation)
    → combine (size (with_form vs f)) (extended vs c f).is_free a (at (with_form vs f) v) ≡ combine (size vs) c.is_free a (at vs v)
at_more vs c f a v = combine_more vs c f a (at (with_form vs f) v) (at vs v) (at_first vs f v)

combined_more : (vs : Variables) (listed : List Row) (c : Configuration) (f : Parts) → TermsFirst vs → TermsBelow vs.terms f → IsConfiguration vs listed c
    → (k : ℕ) → Basic (with_form vs f) (extended vs c f) k → IsCombination (with_form vs f) (extended vs c f) k ((extended vs c f).entry k)
combined_more vs listed c f first below is k basic =
    elim (which vs f k basic.0) [
      | inl l ↦ record {
        always = λ v.
            at_first vs f v k l ∙ (is.combined k (basic_back vs c f k l basic)).always v
            ∙ sym (at_more vs c f ((extended vs c f).entry k) v
            ∙ combine-entries (size vs) c.is_free ((extended vs c f).entry k) (c.entry k) (at vs v) (λ j m i. entry_first vs c f k j l));
      }
      | inr q ↦ subst (λ m. IsCombination (with_form vs f) (extended vs c f) m ((extended vs c f).entry m)) (sym q)
          (record {
            always = λ v.
                ap (sum_at v) (get_last vs.forms f []) ∙ form_is vs listed c f first below is v
                ∙ sym (at_more vs c f ((extended vs c f).entry (size vs)) v
                ∙ combine-entries (size vs) c.is_free ((extended vs c f).entry (size vs)) (entries c f) (at vs v) (λ j m i. entry_last vs c f j));
          })
    ]

once_more : (vs : Variables) (listed : List Row) (c : Configuration) (f : Parts) → TermsFirst vs → TermsBelow vs.terms f → IsConfiguration vs listed c
    → (k : ℕ) (a : ℕ → ℚ) → Basic (with_form vs f) (extended vs c f) k → IsCombination (with_form vs f) (extended vs c f) k a
    → (j : ℕ) → Free (with_form vs f) (extended vs c f) j → a j ≡ (extended vs c f).entry k j
once_more vs listed c f first below is k a basic h j free =
    independent vs listed c first is a ((extended vs c f).entry k)
    (λ v. sym (at_more vs c f a v) ∙ sym (h.always v) ∙ (combined_more vs listed c f first below is k basic).always v
    ∙ at_more vs c f ((extended vs c f).entry k) v)
    j (free_back vs c f j free)

gives_more : (vs : Variables) (listed more : List Row) (f : Parts) (side : Side) (k : ℕ) (x : ℚ) → Gives vs listed side k x → Gives (with_form vs f) (listed ++ more) side k x
gives_more vs listed more f side k x g =
    let e = size_more vs f in
    let l = g.inside in
    record {
      row = g.row;
      there = Contains-append_left listed more g.row g.there;
      inside = omega arith;
      bounds = subst (λ (ps : Parts). Bounds ps g.row side x) (sym (form_first vs f k l)) g.bounds;
    }

rests_more : (vs : Variables) (listed more : List Row) (c : Configuration) (f : Parts) → IsConfiguration vs listed c → (j : ℕ) → Free (with_form vs f) (extended vs c f) j
    → ((extended vs c f).value j ≡ whole (pos 0)) ⊎ ((side : Side) × Gives (with_form vs f) (listed ++ more) side j ((extended vs c f).value j))
rests_more vs listed more c f is j free =
    let b = free_back vs c f j free in
    let same = value_first vs c f j b.0 in
    elim (is.rests j b) [
      | inl z ↦ inl (same ∙ z)
      | inr g ↦ inr (g.0, subst (Gives (with_form vs f) (listed ++ more) g.0 j) (sym same) (gives_more vs listed more f g.0 j (c.value j) g.1))
    ]

valued_more : (vs : Variables) (listed : List Row) (c : Configuration) (f : Parts) → TermsFirst vs → TermsBelow vs.terms f → IsConfiguration vs listed c
    → (k : ℕ) → Basic (with_form vs f) (extended vs c f) k
    → (extended vs c f).value k ≡ combine (size (with_form vs f)) (extended vs c f).is_free ((extended vs c f).entry k) (extended vs c f).value
valued_more vs listed c f first below is k basic =
    elim (which vs f k basic.0) [
      | inl l ↦
          value_first vs c f k l ∙ is.valued k (basic_back vs c f k l basic)
          ∙ sym (combine_more vs c f ((extended vs c f).entry k) (extended vs c f).value c.value (value_first vs c f)
          ∙ combine-entries (size vs) c.is_free ((extended vs c f).entry k) (c.entry k) c.value (λ j m i. entry_first vs c f k j l))
      | inr q ↦ subst
          (λ m. (extended vs c f).value m ≡ combine (size (with_form vs f)) (extended vs c f).is_free ((extended vs c f).entry m) (extended vs c f).value) (sym q)
          (value_last vs c f ∙ value_is vs listed c f first below is
          ∙ sym (combine_more vs c f ((extended vs c f).entry (size vs)) (extended vs c f).value c.value (value_first vs c f)
          ∙ combine-entries (size vs) c.is_free ((extended vs c f).entry (size vs)) (entries c f) c.value (λ j m i. entry_last vs c f j)))
    ]

pub forms_can_be_added : FormsCanBeAdded
forms_can_be_added vs listed more c f first below is = record {
  count = count_more vs c f ∙ is.count;
  combined = combined_more vs listed c f first below is;
  once = once_more vs listed c f first below is;
  rests = rests_more vs listed more c f is;
  valued = valued_more vs listed c f first below is;
}
