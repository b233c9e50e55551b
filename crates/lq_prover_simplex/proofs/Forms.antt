-- Forms: their parts, their values, and what a further form leaves as it was.
use Rattle.std.proofs.Common.{◌≡◌, ◌≢◌, ℕ, ℤ, zero, suc, pos, ◌+◌, ◌<◌, ◌≤◌, ◌⊎◌, inl, inr, arith, refl, sym, ap, ap₂, subst, ◌∙◌, List, [], ◌∷◌, ◌++◌, length, take, get_or}
use Rattle.std.proofs.lemmas.List.{take_more, get_or_past, get_or_push, get_or_append_left, length_push}
use Rattle.std.proofs.lemmas.Bool.{cases_lt}
use Rattle.std.proofs.lemmas.Bool.Decides.{Decides-int_eq}
use Rattle.std.specs.Ordering.{int_eq}
use Rattle.std.proofs.Common.{Bool, true, false, ◌&&◌, nat_eq, eqb-true, eq-eqb, IsTrue}
use mathlib.Core.Bool.{true≢false}
use lib.Pointwise.{pointwise}
use Rattle.std.proofs.Math.Nat.{eq-one_of_dvd-one}
use Rattle.std.proofs.lemmas.Int.{ints}
use Rattle.lq_base_numbers.specs.Rationals.Rational.{whole, ◌+ℚ◌, ◌*ℚ◌}
use Rattle.lq_base_numbers.specs.Rationals.Solver.{var, con, ◌⊕◌, ◌⊗◌, solve}
use Rattle.lq_base_numbers.specs.declared.fractions.frac.Frac.{Frac}
use Rattle.lq_base_numbers.specs.Fractions.Value.{value_of}
use Rattle.lq_logic_rows.specs.Row.{Valuation, sum_at}
use Rattle.lq_logic_rows.specs.Steps.{valuation_of, value_or_zero}
use Rattle.lq_prover_simplex.specs.declared.line.Entry.{Entry}
use Rattle.lq_prover_simplex.specs.Lines.{combine, unit, factor_of, IsLine, IsOwnLine}
use Rattle.lq_logic_rows.specs.Forms.{Parts, IsNormal}
use Rattle.lq_logic_rows.specs.Difference.{TermsBelow}
use Rattle.lq_prover_simplex.specs.Systems.{System, form_at, line_at, Fits, Meets, IsFree, form_values, AreForms, AreCounted, AreLines, IsSystem, GoesOn}
use Rattle.lq_prover_simplex.specs.Configurations.{AllStay}
use Rattle.lq_prover_simplex.proofs.Combinations.{one_apart, unit_here, unit_elsewhere, eq_or}
use Rattle.lq_prover_simplex.proofs.Values.{get_push_old, get_push_here, last_or_before}

pub sum_at-push : (v : Valuation) (parts : Parts) (p : ℕ × ℤ) → sum_at v (parts ++ p ∷ []) ≡ sum_at v parts +ℚ whole p.1 *ℚ v p.0
sum_at-push v [] p = solve ((whole p.1 *ℚ v p.0) ∷ []) (var 0 ⊕ con (pos 0)) (con (pos 0) ⊕ var 0) refl
sum_at-push v (q ∷ parts) p =
    ap (λ x. whole q.1 *ℚ v q.0 +ℚ x) (sum_at-push v parts p)
    ∙ solve ((whole q.1 *ℚ v q.0) ∷ sum_at v parts ∷ (whole p.1 *ℚ v p.0) ∷ []) (var 0 ⊕ (var 1 ⊕ var 2)) (var 0 ⊕ var 1 ⊕ var 2) refl

pub sum_at-more : (v : Valuation) (parts : Parts) (i : ℕ) (d : ℕ × ℤ) → i < length parts
    → sum_at v (take (i + 1) parts) ≡ sum_at v (take i parts) +ℚ whole (get_or parts i d).1 *ℚ v (get_or parts i d).0
sum_at-more v parts i d h = ap (sum_at v) (take_more parts i d h) ∙ sum_at-push v (take i parts) (get_or parts i d)

pub term_below : (n : ℕ) (parts : Parts) (i : ℕ) (d : ℕ × ℤ) → TermsBelow n parts → i < length parts → (get_or parts i d).0 < n
term_below n [] i d b h = absurd (omega arith)
term_below n (p ∷ parts) zero d b h = b.0
term_below n (p ∷ parts) (suc i) d b h = term_below n parts i d b.1 (omega arith)

pub terms_below : (m n : ℕ) (parts : Parts) → TermsBelow m parts → m ≤ n → TermsBelow n parts
terms_below m n [] b h = tt
terms_below m n (p ∷ parts) b h = (let l = b.0 in omega arith, terms_below m n parts b.1 h)

-- valuations that agree on the terms
pub sum_at-same : (n : ℕ) (v w : Valuation) (parts : Parts) → TermsBelow n parts → ((t : ℕ) → t < n → v t ≡ w t) → sum_at v parts ≡ sum_at w parts
sum_at-same n v w [] b h = refl
sum_at-same n v w (p ∷ parts) b h = ap₂ (λ s t. whole p.1 *ℚ s +ℚ t) (h p.0 b.0) (sum_at-same n v w parts b.1 h)

-- ---- the values of the forms fit them
pub forms_fit : (terms : ℕ) (forms : List Parts) (v : Valuation) → AreForms terms forms → Fits forms (form_values forms v)
forms_fit terms forms v a k h =
    sum_at-same terms v (form_values forms v) (form_at forms k) (a.below k)
    (λ t l. sym (ap (sum_at v) (a.named t l) ∙ solve (v t ∷ []) (con (pos 1) ⊗ var 0 ⊕ con (pos 0)) (var 0) refl))

-- so at every valuation a variable's form is its combination
pub form_is_line : (terms : ℕ) (forms : List Parts) (lines : List (List Entry)) (v : Valuation) (k : ℕ) → AreForms terms forms → AreLines forms lines → k < length forms
    → sum_at v (form_at forms k) ≡ combine (form_values forms v) (line_at lines k)
form_is_line terms forms lines v k a l h = l.meets (form_values forms v) (forms_fit terms forms v a) k (let e = l.same in omega arith)

-- ---- a further variable
at_old : {A : Type 0} (xs : List A) (x d : A) (k : ℕ) → k < length xs → get_or (xs ++ x ∷ []) k d ≡ get_or xs k d
at_old xs x d k h = get_or_append_left xs (x ∷ []) d k h

at_last : {A : Type 0} (xs : List A) (x d : A) (k : ℕ) → length xs ≡ k → get_or (xs ++ x ∷ []) k d ≡ x
at_last xs x d k e = get_or_push xs x d k e

at_past : {A : Type 0} (xs : List A) (x d : A) (k : ℕ) → length xs < k → get_or (xs ++ x ∷ []) k d ≡ d
at_past xs x d k h = get_or_past (xs ++ x ∷ []) k d (let e = length_push xs x in omega arith)

data Place (k n : ℕ) : Type 0 where
  old : k < n → Place k n
  last : n ≡ k → Place k n
  past : n < k → Place k n

place : (k n : ℕ) → Place k n
place k n = elim (cases_lt k n) [ inl l ↦ old l | inr m ↦ elim (cases_lt n k) [ inl l ↦ past l | inr p ↦ last (omega arith) ] ]

pub further_forms : (terms : ℕ) (forms : List Parts) (form : Parts) → AreForms terms forms → TermsBelow terms form → IsNormal form
    → ((k : ℕ) → k < length forms → form_at forms k ≢ form) → AreForms terms (forms ++ form ∷ [])
further_forms terms forms form a b n absent = record {
  terms_in = let e = length_push forms form in let h = a.terms_in in omega arith;
  named = λ t h. at_old forms form [] t (let l = a.terms_in in omega arith) ∙ a.named t h;
  below = λ k. by k (place k (length forms));
  normal = λ k h. normal_by k (place k (length forms)) h;
  once = λ j k g h. once_by j k (place j (length forms)) (place k (length forms)) g h;
}
  where
    normal_by : (k : ℕ) → Place k (length forms) → k < length (forms ++ form ∷ []) → IsNormal (form_at (forms ++ form ∷ []) k)
    normal_by k (old l) h = subst IsNormal (sym (at_old forms form [] k l)) (a.normal k l)
    normal_by k (last e) h = subst IsNormal (sym (at_last forms form [] k e)) n
    normal_by k (past l) h = absurd (let p = length_push forms form in omega arith)

    once_by : (j k : ℕ) → Place j (length forms) → Place k (length forms) → j < length (forms ++ form ∷ []) → k < length (forms ++ form ∷ [])
        → form_at (forms ++ form ∷ []) j ≡ form_at (forms ++ form ∷ []) k → j ≡ k
    once_by j k (old l) (old m) g h e = a.once j k l m (sym (at_old forms form [] j l) ∙ e ∙ at_old forms form [] k m)
    once_by j k (old l) (last q) g h e = absurd (absent j l (sym (at_old forms form [] j l) ∙ e ∙ at_last forms form [] k q))
    once_by j k (last p) (old m) g h e = absurd (absent k m (sym (at_old forms form [] k m) ∙ sym e ∙ at_last forms form [] j p))
    once_by j k (last p) (last q) g h e = sym p ∙ q
    once_by j k (past l) m g h e = absurd (let p = length_push forms form in omega arith)
    once_by j k (old l) (past m) g h e = absurd (let p = length_push forms form in omega arith)
    once_by j k (last q) (past m) g h e = absurd (let p = length_push forms form in omega arith)

    by : (k : ℕ) → Place k (length forms) → TermsBelow terms (form_at (forms ++ form ∷ []) k)
    by k (old h) = subst (TermsBelow terms) (sym (at_old forms form [] k h)) (a.below k)
    by k (last e) = subst (TermsBelow terms) (sym (at_last forms form [] k e)) b
    by k (past h) = subst (TermsBelow terms) (sym (at_past forms form [] k h)) tt

still_free : (lines : List (List Entry)) (line : List Entry) (j : ℕ) → IsFree lines j → IsFree (lines ++ line ∷ []) j
still_free lines line j f = record {
  inside = let e = length_push lines line in let h = f.inside in omega arith;
  own = λ i. ap (λ es. factor_of es i) (at_old lines line [] j f.inside) ∙ f.own i;
}

sum_free : (lines : List (List Entry)) (parts : Parts) (j : ℕ) → ((t : ℕ) → (factor_of (line_at lines t) j ≡ whole (pos 0)) ⊎ IsFree lines j)
    → (sum_at (λ t. factor_of (line_at lines t) j) parts ≡ whole (pos 0)) ⊎ IsFree lines j
sum_free lines [] j h = inl refl
sum_free lines (p ∷ parts) j h =
    elim (h p.0) [
      | inr f ↦ inr f
      | inl z ↦ elim (sum_free lines parts j h) [
        | inr f ↦ inr f
        | inl y ↦ inl (ap₂ (λ s t. whole p.1 *ℚ s +ℚ t) z y ∙ solve (whole p.1 ∷ []) (var 0 ⊗ con (pos 0) ⊕ con (pos 0)) (con (pos 0)) refl)
      ]
    ]

further_meets : (terms : ℕ) (forms : List Parts) (lines : List (List Entry)) (form : Parts) (line : List Entry) (x : Valuation) → AreForms terms forms → AreLines forms lines
    → TermsBelow terms form → ((y : Valuation) → combine y line ≡ sum_at (λ t. combine y (line_at lines t)) form) → Meets lines x → combine x line ≡ sum_at x form
further_meets terms forms lines form line x a l b s m =
    s x ∙ sum_at-same terms (λ t. combine x (line_at lines t)) x form b (λ t h. sym (m t (let e = l.same in let k = a.terms_in in omega arith)))

old_fits : (forms : List Parts) (form : Parts) (x : Valuation) → Fits (forms ++ form ∷ []) x → Fits forms x
old_fits forms form x f k h = f k (let e = length_push forms form in omega arith) ∙ ap (sum_at x) (at_old forms form [] k h)

old_meets : (lines : List (List Entry)) (line : List Entry) (x : Valuation) → Meets (lines ++ line ∷ []) x → Meets lines x
old_meets lines line x m k h = m k (let e = length_push lines line in omega arith) ∙ ap (combine x) (at_old lines line [] k h)

pub further_lines : (terms : ℕ) (forms : List Parts) (lines : List (List Entry)) (form : Parts) (line : List Entry) → AreForms terms forms → AreLines forms lines
    → TermsBelow terms form → IsLine line → ((y : Valuation) → combine y line ≡ sum_at (λ t. combine y (line_at lines t)) form) → AreLines (forms ++ form ∷ []) (lines ++ line ∷ [])
further_lines terms forms lines form line a l b il s = record {
  same = length_push lines line ∙ ap (λ n. n + 1) l.same ∙ sym (length_push forms form);
  line = λ k. line_by k (place k (length lines));
  free = λ k j. free_by k j (place k (length lines));
  meets = λ x f k h. meets_by x f k (place k (length lines)) h;
  fits = λ x m k h. fits_by x m k (place k (length forms)) h;
}
  where
    line_by : (k : ℕ) → Place k (length lines) → IsLine (line_at (lines ++ line ∷ []) k)
    line_by k (old h) = subst IsLine (sym (at_old lines line [] k h)) (l.line k)
    line_by k (last e) = subst IsLine (sym (at_last lines line [] k e)) il
    line_by k (past h) = subst IsLine (sym (at_past lines line [] k h)) tt

    free_by : (k j : ℕ) → Place k (length lines) → (factor_of (line_at (lines ++ line ∷ []) k) j ≡ whole (pos 0)) ⊎ IsFree (lines ++ line ∷ []) j
    free_by k j (old h) = elim (l.free k j) [ inl z ↦ inl (ap (λ es. factor_of es j) (at_old lines line [] k h) ∙ z) | inr f ↦ inr (still_free lines line j f) ]
    free_by k j (last e) = elim (sum_free lines form j (λ t. l.free t j)) [
      | inl z ↦ inl (ap (λ es. factor_of es j) (at_last lines line [] k e) ∙ s (unit j) ∙ z)
      | inr f ↦ inr (still_free lines line j f)
    ]
    free_by k j (past h) = inl (ap (λ es. factor_of es j) (at_past lines line [] k h))

    meets_by : (x : Valuation) → Fits (forms ++ form ∷ []) x → (k : ℕ) → Place k (length lines) → k < length (lines ++ line ∷ []) → x k ≡ combine x (line_at (lines ++ line ∷ []) k)
    meets_by x f k (old h) i = l.meets x (old_fits forms form x f) k h ∙ sym (ap (combine x) (at_old lines line [] k h))
    meets_by x f k (last e) i =
        f k (let p = length_push forms form in let q = l.same in omega arith) ∙ ap (sum_at x) (at_last forms form [] k (sym l.same ∙ e))
        ∙ sym (further_meets terms forms lines form line x a l b s (l.meets x (old_fits forms form x f)))
        ∙ sym (ap (combine x) (at_last lines line [] k e))
    meets_by x f k (past h) i = absurd (let p = length_push lines line in omega arith)

    fits_by : (x : Valuation) → Meets (lines ++ line ∷ []) x → (k : ℕ) → Place k (length forms) → k < length (forms ++ form ∷ []) → x k ≡ sum_at x (form_at (forms ++ form ∷ []) k)
    fits_by x m k (old h) i = l.fits x (old_meets lines line x m) k h ∙ sym (ap (sum_at x) (at_old forms form [] k h))
    fits_by x m k (last e) i =
        m k (let p = length_push lines line in let q = l.same in omega arith) ∙ ap (combine x) (at_last lines line [] k (l.same ∙ e))
        ∙ further_meets terms forms lines form line x a l b s (old_meets lines line x m)
        ∙ sym (ap (sum_at x) (at_last forms form [] k e))
    fits_by x m k (past h) i = absurd (let p = length_push forms form in omega arith)

further_values : (terms : ℕ) (forms : List Parts) (form : Parts) (values : List Frac) (f : Frac) → AreForms terms forms → TermsBelow terms form → length values ≡ length forms
    → Fits forms (valuation_of values) → value_of f ≡ sum_at (valuation_of values) form → Fits (forms ++ form ∷ []) (valuation_of (values ++ f ∷ []))
further_values terms forms form values f a b n fit e k h = by (place k (length forms))
  where
    agree : (t : ℕ) → t < terms → valuation_of values t ≡ valuation_of (values ++ f ∷ []) t
    agree t l = sym (ap value_or_zero (get_push_old values f t (let q = a.terms_in in omega arith)))

    by : Place k (length forms) → valuation_of (values ++ f ∷ []) k ≡ sum_at (valuation_of (values ++ f ∷ [])) (form_at (forms ++ form ∷ []) k)
    by (old l) =
        ap value_or_zero (get_push_old values f k (omega arith)) ∙ fit k l
        ∙ sum_at-same terms (valuation_of values) (valuation_of (values ++ f ∷ [])) (form_at forms k) (a.below k) agree
        ∙ sym (ap (sum_at (valuation_of (values ++ f ∷ []))) (at_old forms form [] k l))
    by (last q) =
        ap (valuation_of (values ++ f ∷ [])) (sym (n ∙ q)) ∙ ap value_or_zero (get_push_here values f) ∙ e
        ∙ sum_at-same terms (valuation_of values) (valuation_of (values ++ f ∷ [])) form b agree
        ∙ sym (ap (sum_at (valuation_of (values ++ f ∷ []))) (at_last forms form [] k q))
    by (past l) = absurd (let p = length_push forms form in omega arith)

-- the further variable isn't free, and the others stay as they are
further_free : (s : System) (form : Parts) (line : List Entry) (j : ℕ) → IsSystem s → ((y : Valuation) → combine y line ≡ sum_at (λ t. combine y (line_at s.lines t)) form)
    → IsFree (s.lines ++ line ∷ []) j → IsFree s.lines j
further_free s form line j i sum free = by (place j (length s.lines))
  where
    by : Place j (length s.lines) → IsFree s.lines j
    by (old h) = record { inside = h; own = λ k. sym (ap (λ es. factor_of es k) (at_old s.lines line [] j h)) ∙ free.own k }
    by (last e) = elim (sum_free s.lines form j (λ t. i.are_lines.free t j)) [
      | inl z ↦ absurd (one_apart (sym (ap (λ es. factor_of es j) (at_last s.lines line [] j e) ∙ sum (unit j) ∙ z) ∙ free.own j ∙ unit_here j))
      | inr g ↦ absurd (let h = g.inside in omega arith)
    ]
    by (past h) = absurd (let e = length_push s.lines line in let g = free.inside in omega arith)

further_counted : (s : System) (form : Parts) (line : List Entry) → IsSystem s → ((y : Valuation) → combine y line ≡ sum_at (λ t. combine y (line_at s.lines t)) form)
    → AreCounted s.terms (s.lines ++ line ∷ [])
further_counted s form line i sum = record {
  free_at = i.counted.free_at;
  free = λ t h. still_free s.lines line (i.counted.free_at t) (i.counted.free t h);
  all = λ j free. i.counted.all j (further_free s form line j i sum free);
  once = i.counted.once;
}

pub further_system : (s : System) (form : Parts) (line : List Entry) (f : Frac) → IsSystem s → TermsBelow s.terms form → IsNormal form
    → ((k : ℕ) → k < length s.forms → form_at s.forms k ≢ form) → IsLine line
    → ((y : Valuation) → combine y line ≡ sum_at (λ t. combine y (line_at s.lines t)) form) → value_of f ≡ sum_at (valuation_of s.values) form
    → IsSystem (record { terms = s.terms; forms = s.forms ++ form ∷ []; lines = s.lines ++ line ∷ []; values = s.values ++ f ∷ [] })
further_system s form line f i b n absent il sum e =
    let lines : AreLines (s.forms ++ form ∷ []) (s.lines ++ line ∷ []) = further_lines s.terms s.forms s.lines form line i.are_forms i.are_lines b il sum in
    record {
      are_forms = further_forms s.terms s.forms form i.are_forms b n absent;
      are_lines = lines;
      counted = further_counted s form line i sum;
      valued = length_push s.values f ∙ ap (λ n. n + 1) i.valued ∙ sym (length_push s.forms form);
      values = lines.meets (valuation_of (s.values ++ f ∷ []))
          (further_values s.terms s.forms form s.values f i.are_forms b i.valued (i.are_lines.fits (valuation_of s.values) i.values) e);
    }

pub further_stays : (s : System) (form : Parts) (line : List Entry) (f : Frac) → IsSystem s → ((y : Valuation) → combine y line ≡ sum_at (λ t. combine y (line_at s.lines t)) form)
    → AllStay s (record { terms = s.terms; forms = s.forms ++ form ∷ []; lines = s.lines ++ line ∷ []; values = s.values ++ f ∷ [] })
further_stays s form line f i sum j free =
    let before = further_free s form line j i sum free in
    let h = before.inside in (before, ap value_or_zero (get_push_old s.values f j (let e = i.valued in let g = i.are_lines.same in omega arith)))

-- ---- equal parts
and_first : (s t : Bool) → (s && t) ≡ true → s ≡ true
and_first true t h = refl
and_first false t h = h

and_second : (s t : Bool) → (s && t) ≡ true → t ≡ true
and_second true t h = h
and_second false t h = absurd (true≢false (sym h))

same_whole : (x y : ℤ) → int_eq x y ≡ true → x ≡ y
same_whole x y h = (Decides-int_eq x y).0 (let k : IsTrue (int_eq x y) = h in k)

pub same_parts : (xs ys : Parts) → pointwise (λ (x y : ℕ × ℤ). nat_eq x.0 y.0 && int_eq x.1 y.1) xs ys ≡ true → xs ≡ ys
same_parts [] [] h = refl
same_parts [] (y ∷ ys) h = absurd (true≢false (sym h))
same_parts (x ∷ xs) [] h = absurd (true≢false (sym h))
same_parts (x ∷ xs) (y ∷ ys) h =
    let f = and_first (nat_eq x.0 y.0 && int_eq x.1 y.1) (pointwise (λ (x y : ℕ × ℤ). nat_eq x.0 y.0 && int_eq x.1 y.1) xs ys) h in
    ap₂ (λ a b. a ∷ b)
    (ap₂ (λ a b. (a, b)) (eqb-true x.0 y.0 (and_first (nat_eq x.0 y.0) (int_eq x.1 y.1) f)) (same_whole x.1 y.1 (and_second (nat_eq x.0 y.0) (int_eq x.1 y.1) f)))
    (same_parts xs ys (and_second (nat_eq x.0 y.0 && int_eq x.1 y.1) (pointwise (λ (x y : ℕ × ℤ). nat_eq x.0 y.0 && int_eq x.1 y.1) xs ys) h))

both : (s t : Bool) → s ≡ true → t ≡ true → (s && t) ≡ true
both true t g h = h
both false t g h = absurd (true≢false (sym g))

whole_same : (x y : ℤ) → x ≡ y → int_eq x y ≡ true
whole_same x y e = let k : IsTrue (int_eq x y) = (Decides-int_eq x y).1 e in k

parts_same : (xs : Parts) → pointwise (λ (x y : ℕ × ℤ). nat_eq x.0 y.0 && int_eq x.1 y.1) xs xs ≡ true
parts_same [] = refl
parts_same (x ∷ xs) =
    both (nat_eq x.0 x.0 && int_eq x.1 x.1) (pointwise (λ (x y : ℕ × ℤ). nat_eq x.0 y.0 && int_eq x.1 y.1) xs xs)
    (both (nat_eq x.0 x.0) (int_eq x.1 x.1) (eq-eqb x.0 x.0 refl) (whole_same x.1 x.1 refl)) (parts_same xs)

pub other_parts : (xs ys : Parts) → pointwise (λ (x y : ℕ × ℤ). nat_eq x.0 y.0 && int_eq x.1 y.1) xs ys ≡ false → xs ≢ ys
other_parts xs ys h e =
    true≢false (sym (subst (λ zs. pointwise (λ (x y : ℕ × ℤ). nat_eq x.0 y.0 && int_eq x.1 y.1) xs zs ≡ true) e (parts_same xs)) ∙ h)

-- ---- the terms alone
term_normal : (t : ℕ) → IsNormal ((t, pos 1) ∷ [])
term_normal t = record { above = omega (arith, ints); lowest = λ d h. eq-one_of_dvd-one h.0 }

abbrev first_term : Parts → ℕ
first_term [] = 0
first_term (p ∷ parts) = p.0

pub record Start (n : ℕ) (forms : List Parts) (lines : List (List Entry)) (values : List Frac) : Type 0 where
  pub forms_count : length forms ≡ n
  pub lines_count : length lines ≡ n
  pub values_count : length values ≡ n
  pub form : (t : ℕ) → t < n → form_at forms t ≡ (t, pos 1) ∷ []
  pub line : (t : ℕ) → t < n → IsOwnLine t (line_at lines t)
  pub value : (k : ℕ) → valuation_of values k ≡ whole (pos 0)

push_zero : (values : List Frac) (f : Frac) → value_of f ≡ whole (pos 0) → ((k : ℕ) → valuation_of values k ≡ whole (pos 0)) → (k : ℕ) → valuation_of (values ++ f ∷ []) k ≡ whole (pos 0)
push_zero [] f e h zero = e
push_zero [] f e h (suc k) = h k
push_zero (v ∷ values) f e h zero = h 0
push_zero (v ∷ values) f e h (suc k) = push_zero values f e (λ i. h (suc i)) k

pub start_step : (n : ℕ) (forms : List Parts) (lines : List (List Entry)) (values : List Frac) (form : Parts) (line : List Entry) (value : Frac) → Start n forms lines values
    → form ≡ (n, pos 1) ∷ [] → IsOwnLine n line → value_of value ≡ whole (pos 0) → Start (n + 1) (forms ++ form ∷ []) (lines ++ line ∷ []) (values ++ value ∷ [])
start_step n forms lines values form line value s e o z = record {
  forms_count = length_push forms form ∙ ap (λ m. m + 1) s.forms_count;
  lines_count = length_push lines line ∙ ap (λ m. m + 1) s.lines_count;
  values_count = length_push values value ∙ ap (λ m. m + 1) s.values_count;
  form = λ t h. elim (last_or_before t n h) [
    | inl l ↦ at_old forms form [] t (let q = s.forms_count in omega arith) ∙ s.form t l
    | inr q ↦ at_last forms form [] t (s.forms_count ∙ sym q) ∙ e ∙ ap (λ m. (m, pos 1) ∷ []) (sym q)
  ];
  line = λ t h. elim (last_or_before t n h) [
    | inl l ↦ subst (IsOwnLine t) (sym (at_old lines line [] t (let q = s.lines_count in omega arith))) (s.line t l)
    | inr q ↦ subst (IsOwnLine t) (sym (at_last lines line [] t (s.lines_count ∙ sym q))) (subst (λ m. IsOwnLine m line) (sym q) o)
  ];
  value = push_zero values value z s.value;
}

own_combine : (x : Valuation) (t : ℕ) (line : List Entry) → IsOwnLine t line → combine x line ≡ x t
own_combine x t line o = ap (combine x) o.is ∙ ap (λ s. s *ℚ x t +ℚ whole (pos 0)) o.one ∙ solve (x t ∷ []) (con (pos 1) ⊗ var 0 ⊕ con (pos 0)) (var 0) refl

own_is_line : (t : ℕ) (line : List Entry) → IsOwnLine t line → IsLine line
own_is_line t line o = subst IsLine (sym o.is) (omega arith, λ z. one_apart (sym z ∙ o.one), tt)

pub start_system : (n : ℕ) (forms : List Parts) (lines : List (List Entry)) (values : List Frac) → Start n forms lines values
    → IsSystem (record { terms = n; forms = forms; lines = lines; values = values })
start_system n forms lines values s = record {
  are_forms = record {
    terms_in = let e = s.forms_count in omega arith;
    named = λ t h. s.form t h;
    below = λ k. below k (cases_lt k n);
    normal = λ k h. subst IsNormal (sym (s.form k (let e = s.forms_count in omega arith))) (term_normal k);
    once = λ j k g h e.
        let q : (j, pos 1) ∷ [] ≡ (k, pos 1) ∷ [] = sym (s.form j (let c = s.forms_count in omega arith)) ∙ e ∙ s.form k (let c = s.forms_count in omega arith) in
        ap first_term q;
  };
  are_lines = record {
    same = s.lines_count ∙ sym s.forms_count;
    line = λ k. is_line k (cases_lt k n);
    free = λ k j. free k j (cases_lt k n);
    meets = λ x f k h. meet x k (let e = s.lines_count in omega arith);
    fits = λ x m k h. let l : k < n = (let e = s.forms_count in omega arith) in sym (ap (sum_at x) (s.form k l) ∙ solve (x k ∷ []) (con (pos 1) ⊗ var 0 ⊕ con (pos 0)) (var 0) refl);
  };
  counted = record {
    free_at = λ t. t;
    free = λ t h. own_free t h;
    all = λ j f. (j, (let g = f.inside in let e = s.lines_count in omega arith), refl);
    once = λ t u h g e. e;
  };
  valued = s.values_count ∙ sym s.forms_count;
  values = λ k h. meet (valuation_of values) k (let e = s.lines_count in omega arith);
}
  where
    meet : (x : Valuation) (k : ℕ) → k < n → x k ≡ combine x (line_at lines k)
    meet x k h = sym (own_combine x k (line_at lines k) (s.line k h))

    below : (k : ℕ) → (k < n) ⊎ (n ≤ k) → TermsBelow n (form_at forms k)
    below k (inl h) = subst (TermsBelow n) (sym (s.form k h)) (h, tt)
    below k (inr h) = subst (TermsBelow n) (sym (get_or_past forms k [] (let e = s.forms_count in omega arith))) tt

    is_line : (k : ℕ) → (k < n) ⊎ (n ≤ k) → IsLine (line_at lines k)
    is_line k (inl h) = own_is_line k (line_at lines k) (s.line k h)
    is_line k (inr h) = subst IsLine (sym (get_or_past lines k [] (let e = s.lines_count in omega arith))) tt

    own_free : (k : ℕ) → k < n → IsFree lines k
    own_free k h = record { inside = let q = s.lines_count in omega arith; own = λ i. own_combine (unit i) k (line_at lines k) (s.line k h) }

    free : (k j : ℕ) → (k < n) ⊎ (n ≤ k) → (factor_of (line_at lines k) j ≡ whole (pos 0)) ⊎ IsFree lines j
    free k j (inl h) = elim (eq_or j k) [
      | inl e ↦ inr (subst (IsFree lines) (sym e) (own_free k h))
      | inr m ↦ inl (own_combine (unit j) k (line_at lines k) (s.line k h) ∙ unit_elsewhere j k m)
    ]
    free k j (inr h) = inl (ap (λ es. factor_of es j) (get_or_past lines k [] (let e = s.lines_count in omega arith)))
