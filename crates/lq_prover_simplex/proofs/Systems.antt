-- What keeps a system one: a shift, a pivot and a further form.
use Rattle.std.proofs.Common.{◌≡◌, ◌≢◌, ℕ, pos, ◌+◌, ◌<◌, ◌≤◌, ◌⊎◌, inl, inr, arith, refl, sym, ap, ap₂, subst, ◌∙◌, List, [], ◌∷◌, ◌++◌, Option, Some, None, length, slice_get, ◌==◌, if◌then◌else◌}
use Rattle.std.proofs.lemmas.Bool.{cases_lt}
use Rattle.std.proofs.lemmas.List.{get_or_past, get_or_push, get_or_append_left, length_push}
use Rattle.lq_base_numbers.specs.Rationals.Rational.{ℚ, whole, ◌+ℚ◌, ◌-ℚ◌, ◌*ℚ◌, neg_ℚ}
use Rattle.lq_base_numbers.specs.Rationals.RationalQuotient.{*ℚ_cancel, ◌/ℚ◌, /ℚ_is}
use Rattle.lq_base_numbers.specs.Rationals.Solver.{var, con, ◌⊕◌, ◌⊖◌, ◌⊗◌, solve}
use Rattle.lq_base_numbers.specs.declared.fractions.frac.Frac.{Frac}
use Rattle.lq_base_numbers.specs.Fractions.Value.{value_of}
use Rattle.lq_logic_rows.specs.Row.{Valuation}
use Rattle.lq_logic_rows.specs.Steps.{valuation_of}
use Rattle.lq_prover_simplex.specs.declared.line.Entry.{Entry}
use Rattle.lq_prover_simplex.specs.Lines.{combine, unit, factor_of, IsLine}
use Rattle.lq_logic_rows.specs.Forms.{Parts}
use Rattle.lq_prover_simplex.specs.Systems.{System, line_at, Meets, IsFree, AreCounted, AreLines, IsSystem, after, change_at, IsChange, IsAdded, IsShifted}
use Rattle.lq_prover_simplex.proofs.Values.{last_or_before}
use Rattle.lq_prover_simplex.proofs.Combinations.{one_apart, eq_or, eqb_by, combine-same, combine-plus, entry_is, entry_apart, unit_here, unit_elsewhere, own_combination}

-- ---- entries are of free variables
pub entry_free : (forms : List Parts) (lines : List (List Entry)) (k i : ℕ) (e : Entry) → AreLines forms lines → slice_get (line_at lines k) i ≡ Some e → IsFree lines e.variable
entry_free forms lines k i e a h =
    elim (a.free k e.variable) [
      | inl z ↦ absurd (entry_apart (line_at lines k) 0 i e (a.line k) h (sym (entry_is (line_at lines k) 0 i e (a.line k) h) ∙ z))
      | inr f ↦ f
    ]

-- ---- a shift
pub shift_meets : (forms : List Parts) (lines : List (List Entry)) (x y : Valuation) (v : ℕ) (d : ℚ) → AreLines forms lines → Meets lines x
    → ((k : ℕ) → k < length lines → y k ≡ x k +ℚ factor_of (line_at lines k) v *ℚ d) → Meets lines y
shift_meets forms lines x y v d a m shift k h =
    shift k h ∙ ap (λ t. t +ℚ factor_of (line_at lines k) v *ℚ d) (m k h)
    ∙ sym (combine-plus x (unit v) d (line_at lines k))
    ∙ combine-same (λ j. x j +ℚ unit v j *ℚ d) y (line_at lines k)
    (λ i e at. let f = entry_free forms lines k i e a at in sym (shift e.variable f.inside ∙ ap (λ t. x e.variable +ℚ t *ℚ d) (f.own v)))

pub shifted_system : (s : System) (values : List Frac) (v : ℕ) (d : ℚ) → IsSystem s → IsShifted s.lines s.values v d values
    → IsSystem (record { terms = s.terms; forms = s.forms; lines = s.lines; values = values })
shifted_system s values v d i h = record {
  are_forms = i.are_forms;
  are_lines = i.are_lines;
  counted = i.counted;
  valued = h.0 ∙ i.are_lines.same;
  values = shift_meets s.forms s.lines (valuation_of s.values) (valuation_of values) v d i.are_lines i.values h.1;
}

-- ---- a pivot
zero_from : (r f : ℚ) → ¬ (f ≡ whole (pos 0)) → r *ℚ f ≡ whole (pos 0) → r ≡ whole (pos 0)
zero_from r f n e = *ℚ_cancel r f (whole (pos 0)) n (e ∙ solve (f ∷ []) (con (pos 0)) (con (pos 0) ⊗ var 0) refl)

pub record IsPivot (lines new : List (List Entry)) (b k : ℕ) (f : ℚ) (zero : List Entry) : Type 0 where
  pub same : length new ≡ length lines
  pub inside : b < length lines
  pub apart : k ≢ b
  pub free : IsFree lines k
  pub factor : factor_of (line_at lines b) k ≡ f
  pub some : ¬ (f ≡ whole (pos 0))
  pub zero_is : (x : Valuation) → combine x zero *ℚ f ≡ x b -ℚ combine x (line_at lines b)
  pub sum : (r : ℕ) (x : Valuation) → r < length lines → combine x (line_at new r) ≡ combine x (line_at lines r) +ℚ factor_of (line_at lines r) k *ℚ combine x zero
  pub line : (r : ℕ) → IsLine (line_at new r)

-- where the old lines meet, the added combination is 0
pivot_zero : (lines new : List (List Entry)) (b k : ℕ) (f : ℚ) (zero : List Entry) (x : Valuation) → IsPivot lines new b k f zero → Meets lines x → combine x zero ≡ whole (pos 0)
pivot_zero lines new b k f zero x p m =
    zero_from (combine x zero) f p.some
    (p.zero_is x ∙ ap (λ t. t -ℚ combine x (line_at lines b)) (m b p.inside) ∙ solve (combine x (line_at lines b) ∷ []) (var 0 ⊖ var 0) (con (pos 0)) refl)

pivot_meets : (lines new : List (List Entry)) (b k : ℕ) (f : ℚ) (zero : List Entry) (x : Valuation) → IsPivot lines new b k f zero → Meets lines x → Meets new x
pivot_meets lines new b k f zero x p m r h =
    let l : r < length lines = (let e = p.same in omega arith) in
    m r l ∙ solve (combine x (line_at lines r) ∷ factor_of (line_at lines r) k ∷ []) (var 0) (var 0 ⊕ var 1 ⊗ con (pos 0)) refl
    ∙ ap (λ t. combine x (line_at lines r) +ℚ factor_of (line_at lines r) k *ℚ t) (sym (pivot_zero lines new b k f zero x p m)) ∙ sym (p.sum r x l)

-- and where the new ones do
pivot_back : (forms : List Parts) (lines new : List (List Entry)) (b k : ℕ) (f : ℚ) (zero : List Entry) (x : Valuation) → AreLines forms lines → IsPivot lines new b k f zero → Meets new x → Meets lines x
pivot_back forms lines new b k f zero x a p m r h =
    let q = p.same in let kin = p.free.inside in
    let at : x k ≡ x k +ℚ whole (pos 1) *ℚ combine x zero =
    m k (omega arith) ∙ p.sum k x kin
    ∙ ap₂ (λ s t. s +ℚ t *ℚ combine x zero) (own_combination x (line_at lines k) k (a.line k) p.free.own) (p.free.own k ∙ unit_here k) in
    let z : combine x zero ≡ whole (pos 0) =
    solve (combine x zero ∷ x k ∷ []) (var 0) (var 1 ⊕ con (pos 1) ⊗ var 0 ⊖ var 1) refl ∙ ap (λ t. t -ℚ x k) (sym at) ∙ solve (x k ∷ []) (var 0 ⊖ var 0) (con (pos 0)) refl in
    m r (omega arith) ∙ p.sum r x h ∙ ap (λ t. combine x (line_at lines r) +ℚ factor_of (line_at lines r) k *ℚ t) z
    ∙ solve (combine x (line_at lines r) ∷ factor_of (line_at lines r) k ∷ []) (var 0 ⊕ var 1 ⊗ con (pos 0)) (var 0) refl

-- the leaving variable is free
pub pivot_leaving : (lines new : List (List Entry)) (b k : ℕ) (f : ℚ) (zero : List Entry) → IsPivot lines new b k f zero → IsFree new b
pivot_leaving lines new b k f zero p = record {
  inside = let e = p.same in let h = p.inside in omega arith;
  own = λ i.
      p.sum b (unit i) p.inside
      ∙ ap (λ t. factor_of (line_at lines b) i +ℚ t *ℚ factor_of zero i) p.factor
      ∙ solve (factor_of (line_at lines b) i ∷ f ∷ factor_of zero i ∷ []) (var 0 ⊕ var 1 ⊗ var 2) (var 0 ⊕ var 2 ⊗ var 1) refl
      ∙ ap (λ t. factor_of (line_at lines b) i +ℚ t) (p.zero_is (unit i))
      ∙ solve (factor_of (line_at lines b) i ∷ unit i b ∷ []) (var 0 ⊕ (var 1 ⊖ var 0)) (var 1) refl;
}

-- the other free ones stay free
pub pivot_others : (lines new : List (List Entry)) (b k : ℕ) (f : ℚ) (zero : List Entry) (j : ℕ) → IsPivot lines new b k f zero → IsFree lines j → j ≢ k → IsFree new j
pivot_others lines new b k f zero j p free n = record {
  inside = let e = p.same in let h = free.inside in omega arith;
  own = λ i.
      p.sum j (unit i) free.inside
      ∙ ap₂ (λ s t. s +ℚ t *ℚ factor_of zero i) (free.own i) (free.own k ∙ unit_elsewhere k j (λ e. n (sym e)))
      ∙ solve (unit i j ∷ factor_of zero i ∷ []) (var 0 ⊕ con (pos 0) ⊗ var 1) (var 0) refl;
}

-- the entering one stands in no line
pub pivot_entering : (lines new : List (List Entry)) (b k : ℕ) (f : ℚ) (zero : List Entry) (r : ℕ) → IsPivot lines new b k f zero → r < length lines → factor_of (line_at new r) k ≡ whole (pos 0)
pivot_entering lines new b k f zero r p h =
    let minus : factor_of zero k ≡ neg_ℚ (whole (pos 1)) =
    *ℚ_cancel (factor_of zero k) f (neg_ℚ (whole (pos 1))) p.some
    (p.zero_is (unit k) ∙ ap₂ (λ s t. s -ℚ t) (unit_elsewhere k b p.apart) p.factor ∙ solve (f ∷ []) (con (pos 0) ⊖ var 0) ((con (pos 0) ⊖ con (pos 1)) ⊗ var 0) refl) in
    p.sum r (unit k) h ∙ ap (λ t. factor_of (line_at lines r) k +ℚ factor_of (line_at lines r) k *ℚ t) minus
    ∙ solve (factor_of (line_at lines r) k ∷ []) (var 0 ⊕ var 0 ⊗ (con (pos 0) ⊖ con (pos 1))) (con (pos 0)) refl

-- where neither line has a variable, the new one has it neither
pivot_absent : (lines new : List (List Entry)) (b k : ℕ) (f : ℚ) (zero : List Entry) (r j : ℕ) → IsPivot lines new b k f zero → r < length lines → j ≢ b
    → factor_of (line_at lines r) j ≡ whole (pos 0) → factor_of (line_at lines b) j ≡ whole (pos 0) → factor_of (line_at new r) j ≡ whole (pos 0)
pivot_absent lines new b k f zero r j p h n zr zb =
    let z : factor_of zero j ≡ whole (pos 0) =
    zero_from (factor_of zero j) f p.some
    (p.zero_is (unit j) ∙ ap₂ (λ s t. s -ℚ t) (unit_elsewhere j b n) zb ∙ solve [] (con (pos 0) ⊖ con (pos 0)) (con (pos 0)) refl) in
    p.sum r (unit j) h ∙ ap₂ (λ s t. s +ℚ factor_of (line_at lines r) k *ℚ t) zr z
    ∙ solve (factor_of (line_at lines r) k ∷ []) (con (pos 0) ⊕ var 0 ⊗ con (pos 0)) (con (pos 0)) refl

-- what is free but for the leaving one was free before
pub pivot_free_before : (forms : List Parts) (lines new : List (List Entry)) (b k : ℕ) (f : ℚ) (zero : List Entry) (j : ℕ) → AreLines forms lines → IsPivot lines new b k f zero
    → IsFree new j → j ≢ b → IsFree lines j × (j ≢ k)
pivot_free_before forms lines new b k f zero j a p free n =
    let inside : j < length lines = (let e = p.same in let h = free.inside in omega arith) in
    let one : factor_of (line_at new j) j ≡ whole (pos 1) = free.own j ∙ unit_here j in (
      elim (a.free j j) [
        | inr before ↦ before
        | inl zj ↦ elim (a.free b j) [ inr before ↦ before | inl zb ↦ absurd (one_apart (sym (pivot_absent lines new b k f zero j j p inside n zj zb) ∙ one)) ]
      ],
      (λ e. one_apart (sym (pivot_entering lines new b k f zero j p inside) ∙ ap (factor_of (line_at new j)) (sym e) ∙ one)),
    )

past_line : (lines : List (List Entry)) (r j : ℕ) → length lines ≤ r → factor_of (line_at lines r) j ≡ whole (pos 0)
past_line lines r j h = ap (λ es. factor_of es j) (get_or_past lines r [] h)

in_or_past : (r n : ℕ) → (r < n) ⊎ (n ≤ r)
in_or_past r n = cases_lt r n

pivot_freedom : (forms : List Parts) (lines new : List (List Entry)) (b k : ℕ) (f : ℚ) (zero : List Entry) (r j : ℕ) → AreLines forms lines → IsPivot lines new b k f zero
    → (factor_of (line_at new r) j ≡ whole (pos 0)) ⊎ IsFree new j
pivot_freedom forms lines new b k f zero r j a p =
    elim (in_or_past r (length lines)) [
      | inr past ↦ inl (past_line new r j (let e = p.same in omega arith))
      | inl h ↦ elim (eq_or j k) [
        | inl e ↦ inl (ap (factor_of (line_at new r)) e ∙ pivot_entering lines new b k f zero r p h)
        | inr n ↦ elim (eq_or j b) [
          | inl e ↦ inr (subst (IsFree new) (sym e) (pivot_leaving lines new b k f zero p))
          | inr m ↦ elim (a.free r j) [
            | inr free ↦ inr (pivot_others lines new b k f zero j p free n)
            | inl zr ↦ elim (a.free b j) [
              | inr free ↦ inr (pivot_others lines new b k f zero j p free n)
              | inl zb ↦ inl (pivot_absent lines new b k f zero r j p h m zr zb)
            ]
          ]
        ]
      ]
    ]

pub pivot_lines : (forms : List Parts) (lines new : List (List Entry)) (b k : ℕ) (f : ℚ) (zero : List Entry) → AreLines forms lines → IsPivot lines new b k f zero → AreLines forms new
pivot_lines forms lines new b k f zero a p = record {
  same = p.same ∙ a.same;
  line = p.line;
  free = λ r j. pivot_freedom forms lines new b k f zero r j a p;
  meets = λ x h. pivot_meets lines new b k f zero x p (a.meets x h);
  fits = λ x m. a.fits x (pivot_back forms lines new b k f zero x a p m);
}

-- ---- the leaving variable takes the entering one's place among the free ones
in_place : ℕ → ℕ → ℕ → ℕ
in_place k b j = if j == k then b else j

in_place_here : (k b j : ℕ) → j ≡ k → in_place k b j ≡ b
unfolding in_place
in_place_here k b j e = eqb_by j k (λ q r. ap (λ t. if t then b else j) q) (λ q n. absurd (n e))

in_place_else : (k b j : ℕ) → j ≢ k → in_place k b j ≡ j
unfolding in_place
in_place_else k b j n = eqb_by j k (λ q r. absurd (n r)) (λ q r. ap (λ t. if t then b else j) q)

pivot_bound : (lines new : List (List Entry)) (b k : ℕ) (f : ℚ) (zero : List Entry) → IsPivot lines new b k f zero → ¬ (IsFree lines b)
pivot_bound lines new b k f zero p free = p.some (sym p.factor ∙ free.own k ∙ unit_elsewhere k b p.apart)

pub pivot_counted : (n : ℕ) (forms : List Parts) (lines new : List (List Entry)) (b k : ℕ) (f : ℚ) (zero : List Entry) → AreLines forms lines → IsPivot lines new b k f zero
    → AreCounted n lines → AreCounted n new
pivot_counted n forms lines new b k f zero a p c = record {
  free_at = λ t. in_place k b (c.free_at t);
  free = λ t h. elim (eq_or (c.free_at t) k) [
    | inl e ↦ subst (IsFree new) (sym (in_place_here k b (c.free_at t) e)) (pivot_leaving lines new b k f zero p)
    | inr m ↦ subst (IsFree new) (sym (in_place_else k b (c.free_at t) m)) (pivot_others lines new b k f zero (c.free_at t) p (c.free t h) m)
  ];
  all = λ j free. elim (eq_or j b) [
    | inl e ↦ let t = c.all k p.free in (t.0, t.1, in_place_here k b (c.free_at t.0) t.2 ∙ sym e)
    | inr m ↦
        let before = pivot_free_before forms lines new b k f zero j a p free m in
        let t = c.all j before.0 in (t.0, t.1, in_place_else k b (c.free_at t.0) (λ e. before.1 (sym t.2 ∙ e)) ∙ t.2)
  ];
  once = λ t u h g e. elim (eq_or (c.free_at t) k) [
    | inl q ↦ elim (eq_or (c.free_at u) k) [
      | inl r ↦ c.once t u h g (q ∙ sym r)
      | inr m ↦ absurd (pivot_bound lines new b k f zero p
          (subst (IsFree lines) (sym (sym (in_place_here k b (c.free_at t) q) ∙ e ∙ in_place_else k b (c.free_at u) m)) (c.free u g)))
    ]
    | inr l ↦ elim (eq_or (c.free_at u) k) [
      | inl r ↦ absurd (pivot_bound lines new b k f zero p
          (subst (IsFree lines) (sym (in_place_else k b (c.free_at t) l) ∙ e ∙ in_place_here k b (c.free_at u) r) (c.free t h)))
      | inr m ↦ c.once t u h g (sym (in_place_else k b (c.free_at t) l) ∙ e ∙ in_place_else k b (c.free_at u) m)
    ]
  ];
}

-- the lines so far have been changed
pub record AddedSoFar (lines : List (List Entry)) (variable : ℕ) (nil : List Entry) (changed : List (Option (List Entry))) (n : ℕ) : Type 0 where
  pub count : length changed ≡ n
  pub each : (k : ℕ) → k < n → IsChange (line_at lines k) variable nil (change_at changed k)

pub added_step : (lines : List (List Entry)) (variable : ℕ) (nil : List Entry) (changed : List (Option (List Entry))) (n : ℕ) (o : Option (List Entry))
    → AddedSoFar lines variable nil changed n → IsChange (line_at lines n) variable nil o → AddedSoFar lines variable nil (changed ++ o ∷ []) (n + 1)
added_step lines variable nil changed n o a c = record {
  count = length_push changed o ∙ ap (λ m. m + 1) a.count;
  each = λ k h. elim (last_or_before k n h) [
    | inl l ↦ subst (IsChange (line_at lines k) variable nil) (sym (get_or_append_left changed (o ∷ []) None k (let e = a.count in omega arith))) (a.each k l)
    | inr e ↦ subst (λ m. IsChange (line_at lines m) variable nil (change_at (changed ++ o ∷ []) m)) (sym e)
        (subst (IsChange (line_at lines n) variable nil) (sym (get_or_push changed o None n a.count)) c)
  ];
}

pub added_all : (lines : List (List Entry)) (variable : ℕ) (nil : List Entry) (changed : List (Option (List Entry))) (n : ℕ)
    → AddedSoFar lines variable nil changed n → n ≡ length lines → IsAdded lines variable nil changed
added_all lines variable nil changed n a e = record {
  same = a.count ∙ e;
  sum = λ k x h. (a.each k (omega arith)).sum x;
  line = λ k. by k (in_or_past k n);
}
  where
    by : (k : ℕ) → (k < n) ⊎ (n ≤ k) → IsLine (after (change_at changed k) (line_at lines k))
    by k (inl h) = (a.each k h).line
    by k (inr h) =
        subst (λ o. IsLine (after o (line_at lines k))) (sym (get_or_past changed k None (let q = a.count in omega arith)))
        (subst IsLine (sym (get_or_past lines k [] (omega arith))) tt)

pub pivot_of : (s : System) (new : List (List Entry)) (b at : ℕ) (e : Entry) (nil : List Entry) (changed : List (Option (List Entry)))
    → IsSystem s → b < length s.forms → slice_get (line_at s.lines b) at ≡ Some e → e.variable ≢ b
    → ((x : Valuation) → combine x nil *ℚ value_of e.factor ≡ x b -ℚ combine x (line_at s.lines b))
    → IsAdded s.lines e.variable nil changed → length new ≡ length s.lines → ((r : ℕ) → line_at new r ≡ after (change_at changed r) (line_at s.lines r))
    → IsPivot s.lines new b e.variable (value_of e.factor) nil
pivot_of s new b at e nil changed i inside there apart zero_is added same put =
    let l = i.are_lines in
    record {
      same = same;
      inside = let q = l.same in omega arith;
      apart = apart;
      free = entry_free s.forms s.lines b at e l there;
      factor = entry_is (line_at s.lines b) 0 at e (l.line b) there;
      some = entry_apart (line_at s.lines b) 0 at e (l.line b) there;
      zero_is = zero_is;
      sum = λ r x h. ap (combine x) (put r) ∙ added.sum r x h;
      line = λ r. subst IsLine (sym (put r)) (added.line r);
    }

pub pivoted_system : (s : System) (new : List (List Entry)) (values : List Frac) (b k : ℕ) (f d : ℚ) (nil : List Entry) → IsSystem s → IsPivot s.lines new b k f nil
    → IsShifted s.lines s.values k d values → IsSystem (record { terms = s.terms; forms = s.forms; lines = new; values = values })
pivoted_system s new values b k f d nil i pivot shifted = record {
  are_forms = i.are_forms;
  are_lines = pivot_lines s.forms s.lines new b k f nil i.are_lines pivot;
  counted = pivot_counted s.terms s.forms s.lines new b k f nil i.are_lines pivot i.counted;
  valued = shifted.0 ∙ i.are_lines.same;
  values = pivot_meets s.lines new b k f nil (valuation_of values) pivot
      (shift_meets s.forms s.lines (valuation_of s.values) (valuation_of values) k d i.are_lines i.values shifted.1);
}

-- ---- the inverse of a factor
pub inverse_times : (i w f : ℚ) → ¬ (f ≡ whole (pos 0)) → i ≡ w /ℚ f → w ≡ whole (pos 1) → i *ℚ f ≡ whole (pos 1)
inverse_times i w f n e o = ap (λ t. t *ℚ f) e ∙ /ℚ_is w f n ∙ o

pub inverse_apart : (i f : ℚ) → i *ℚ f ≡ whole (pos 1) → ¬ (i ≡ whole (pos 0))
inverse_apart i f e z = one_apart (solve (f ∷ []) (con (pos 0)) (con (pos 0) ⊗ var 0) refl ∙ ap (λ t. t *ℚ f) (sym z) ∙ e)

pub relation_is : (i t f xb line : ℚ) → i *ℚ f ≡ whole (pos 1) → t ≡ neg_ℚ i → ((i *ℚ xb +ℚ whole (pos 0)) +ℚ t *ℚ line) *ℚ f ≡ xb -ℚ line
relation_is i t f xb line e n =
    ap (λ t. ((i *ℚ xb +ℚ whole (pos 0)) +ℚ t *ℚ line) *ℚ f) n
    ∙ solve (i ∷ f ∷ xb ∷ line ∷ []) ((var 0 ⊗ var 2 ⊕ con (pos 0) ⊕ (con (pos 0) ⊖ var 0) ⊗ var 3) ⊗ var 1) (var 0 ⊗ var 1 ⊗ (var 2 ⊖ var 3)) refl
    ∙ ap (λ u. u *ℚ (xb -ℚ line)) e ∙ solve (xb ∷ line ∷ []) (con (pos 1) ⊗ (var 0 ⊖ var 1)) (var 0 ⊖ var 1) refl
