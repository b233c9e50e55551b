-- A system as a configuration, in the words of pivots.
use Rattle.std.proofs.Common.{◌≡◌, ℕ, suc, pos, ◌<◌, inl, inr, arith, refl, sym, ap, ap₂, subst, ◌∙◌, Bool, true, false, List, [], ◌∷◌, Some, length, slice_get}
use Rattle.lq_base_numbers.specs.Rationals.Rational.{ℚ, whole, ◌+ℚ◌, ◌*ℚ◌}
use Rattle.lq_base_numbers.specs.Rationals.Solver.{var, con, ◌⊕◌, ◌⊗◌, solve}
use Rattle.lq_base_numbers.specs.Fractions.Value.{value_of}
use Rattle.lq_logic_rows.specs.Row.{Row, Valuation}
use Rattle.lq_logic_rows.specs.Steps.{valuation_of}
use Rattle.lq_logic_rows.specs.declared.bound.Side.{Side}
use Rattle.lq_logic_rows.specs.declared.bound.Side.TheVariants.{Lower, Upper}
use Rattle.lq_prover_pivots.specs.Pivots.Ranges as ranges
use Rattle.lq_prover_pivots.specs.Pivots.Ranges.{sum_below, only_if, count_below}
use Rattle.lq_prover_pivots.specs.Pivots.Rows.{Gives}
use Rattle.lq_prover_pivots.specs.Pivots.Configurations as pivots
use Rattle.lq_prover_pivots.specs.Pivots.Configurations.{Configuration, Free, Basic, IsCombination}
use Rattle.lq_prover_pivots.proofs.PivotsLemmas.Ranges.{sum_below-same, sum_below-zero, sum_below-plus, sum_below-scale, combine-unit}
use Rattle.lq_prover_simplex.specs.declared.line.Entry.{Entry}
use Rattle.lq_prover_simplex.specs.Lines.{combine, unit, factor_of, owns}
use Rattle.lq_prover_simplex.specs.Systems.{System, line_at, form_values, IsFree, IsSystem}
use Rattle.lq_prover_simplex.specs.Configurations.{IsChosen, IsGiven, Rests}
use Rattle.lq_prover_simplex.specs.Bounds.{IsOn}
use Rattle.lq_prover_simplex.proofs.Combinations.{eqb_by, unit_elsewhere}
use Rattle.lq_prover_simplex.proofs.Systems.{entry_free}
use Rattle.lq_prover_simplex.proofs.Forms.{form_is_line}
use Rattle.lq_prover_simplex.proofs.Keeping.{owns_free, free_owns}
use Rattle.lq_prover_simplex.proofs.Resting.{configured}
use Rattle.lq_prover_simplex.proofs.Counting.{counted}
use Rattle.lq_prover_simplex.proofs.Bounding.{variables_of, reads_bounds}

-- a variable is free where it alone stands in its line, and a line has a factor for each variable
abbrev pub configuration_of : System → Configuration
configuration_of s = record {
  is_free = λ j. owns (line_at s.lines j) j;
  entry = λ k j. factor_of (line_at s.lines k) j;
  value = valuation_of s.values;
}

-- ---- free variables
pub free_of : (s : System) (j : ℕ) → IsSystem s → (configuration_of s).is_free j ≡ true → IsFree s.lines j
free_of s j i e = owns_free s.forms s.lines j i.are_lines e

pub of_free : (s : System) (j : ℕ) → IsSystem s → IsFree s.lines j → (configuration_of s).is_free j ≡ true
of_free s j i f = free_owns s.forms s.lines j i.are_lines f

pub free_inside : (s : System) (j : ℕ) → IsSystem s → IsFree s.lines j → Free (variables_of s) (configuration_of s) j
free_inside s j i f = (let h = f.inside in let e = i.are_lines.same in omega arith, of_free s j i f)

free_count : (s : System) → IsSystem s → count_below (length s.forms) (configuration_of s).is_free ≡ s.terms
free_count s i =
    let c = i.counted in
    counted (length s.forms) s.terms (configuration_of s).is_free c.free_at (record {
      below = λ u h. (free_inside s (c.free_at u) i (c.free u h)).0;
      admits = λ u h. of_free s (c.free_at u) i (c.free u h);
      all = λ j h e. c.all j (free_of s j i e);
      once = c.once;
    })

-- ---- a line as a sum over all variables
only_nothing : (b : Bool) (x : ℚ) → only_if b (whole (pos 0) *ℚ x) ≡ whole (pos 0)
only_nothing true x = solve (x ∷ []) (con (pos 0) ⊗ var 0) (con (pos 0)) refl
only_nothing false x = refl

only_more : (b : Bool) (f u g x : ℚ) → only_if b ((f *ℚ u +ℚ g) *ℚ x) ≡ f *ℚ only_if b (u *ℚ x) +ℚ only_if b (g *ℚ x)
only_more true f u g x = solve (f ∷ u ∷ g ∷ x ∷ []) ((var 0 ⊗ var 1 ⊕ var 2) ⊗ var 3) (var 0 ⊗ (var 1 ⊗ var 3) ⊕ var 2 ⊗ var 3) refl
only_more false f u g x = solve (f ∷ []) (con (pos 0)) (var 0 ⊗ con (pos 0) ⊕ con (pos 0)) refl

-- the unit of the numbers in their other order is the same
unit_turned : (k j : ℕ) → unit j k ≡ unit k j
unit_turned k j = eqb_by k j (λ e h. subst (λ i. unit i k ≡ unit k i) h refl) (λ e h. unit_elsewhere j k (λ q. h (sym q)) ∙ sym (unit_elsewhere k j h))

pub line_sum : (n : ℕ) (is_in : ℕ → Bool) (x : Valuation) (line : List Entry)
    → ((i : ℕ) (e : Entry) → slice_get line i ≡ Some e → (e.variable < n) × (is_in e.variable ≡ true)) → ranges.combine n is_in (factor_of line) x ≡ combine x line
line_sum n is_in x [] h = sum_below-same n _ (λ j. whole (pos 0)) (λ j l. only_nothing (is_in j) (x j)) ∙ sum_below-zero n
line_sum n is_in x (e ∷ line) h =
    let f = value_of e.factor in let k = e.variable in
    let here = h 0 e refl in
    sum_below-same n _ (λ j. f *ℚ only_if (is_in j) (unit k j *ℚ x j) +ℚ only_if (is_in j) (factor_of line j *ℚ x j))
    (λ j l. ap (λ u. only_if (is_in j) ((f *ℚ u +ℚ factor_of line j) *ℚ x j)) (unit_turned k j) ∙ only_more (is_in j) f (unit k j) (factor_of line j) (x j))
    ∙ sum_below-plus n (λ j. f *ℚ only_if (is_in j) (unit k j *ℚ x j)) (λ j. only_if (is_in j) (factor_of line j *ℚ x j))
    ∙ ap₂ (λ s t. s +ℚ t) (sum_below-scale n f (λ j. only_if (is_in j) (unit k j *ℚ x j)) ∙ ap (λ t. f *ℚ t) (combine-unit n k is_in x here.0 here.1))
    (line_sum n is_in x line (λ i g at. h (suc i) g at))

-- the line of a variable of a system
pub system_sum : (s : System) (k : ℕ) (x : Valuation) → IsSystem s
    → ranges.combine (length s.forms) (configuration_of s).is_free ((configuration_of s).entry k) x ≡ combine x (line_at s.lines k)
system_sum s k x i =
    line_sum (length s.forms) (configuration_of s).is_free x (line_at s.lines k)
    (λ at e h. free_inside s e.variable i (entry_free s.forms s.lines k at e i.are_lines h))

-- ---- the values that free ones rest on
gives_some : (rows : List Row) (s : System) (k : ℕ) (x : ℚ) → IsGiven rows s.forms k x → (side : Side) × Gives (variables_of s) rows side k x
gives_some rows s k x g = by g.gives.bound.turned refl
  where
    on : (side : Side) → IsOn side g.row.equal g.gives.bound.turned → Gives (variables_of s) rows side k x
    on side h =
        let b = reads_bounds s.forms g.row g.gives.bound side g.gives.reads h in
        subst (Gives (variables_of s) rows side k) g.gives.is
        (subst (λ j. Gives (variables_of s) rows side j (value_of g.gives.bound.value)) g.gives.bounds
        (record { row = g.row; there = g.there; inside = g.gives.reads.inside; bounds = b }))

    by : (t : Bool) → g.gives.bound.turned ≡ t → (side : Side) × Gives (variables_of s) rows side k x
    by true e = (Lower, on Lower (inr e))
    by false e = (Upper, on Upper (inr e))

-- ---- the configuration
-- at a point at which one free variable alone is 1 and each other 0, a combination is its entry there
entry_at : (s : System) (k j : ℕ) (a : ℕ → ℚ) → IsSystem s → Free (variables_of s) (configuration_of s) j → IsCombination (variables_of s) (configuration_of s) k a
    → (c : IsChosen s (unit j)) → form_values s.forms c.point k ≡ a j
entry_at s k j a i free is c =
    is.always c.point
    ∙ sum_below-same (length s.forms) _ (λ m. only_if ((configuration_of s).is_free m) (unit j m *ℚ a m)) (λ m l. at m ((configuration_of s).is_free m) refl)
    ∙ combine-unit (length s.forms) j (configuration_of s).is_free a free.0 free.1
  where
    at : (m : ℕ) (b : Bool) → (configuration_of s).is_free m ≡ b → only_if ((configuration_of s).is_free m) (a m *ℚ form_values s.forms c.point m)
        ≡ only_if ((configuration_of s).is_free m) (unit j m *ℚ a m)
    at m true e =
        ap (λ t. only_if ((configuration_of s).is_free m) (a m *ℚ t)) (c.meets m (free_of s m i e))
        ∙ ap (only_if ((configuration_of s).is_free m)) (solve (a m ∷ unit j m ∷ []) (var 0 ⊗ var 1) (var 1 ⊗ var 0) refl)
    at m false e = ap (λ b. only_if b (a m *ℚ form_values s.forms c.point m)) e ∙ ap (λ b. only_if b (unit j m *ℚ a m)) (sym e)

pub is_configuration : (rows : List Row) (s : System) → IsSystem s → Rests rows s → pivots.IsConfiguration (variables_of s) rows (configuration_of s)
is_configuration rows s i rests = record {
  count = free_count s i;
  combined = λ k b. line k b.0;
  once = λ k a b is j f. let c = (configured s i).chosen (unit j) in sym (entry_at s k j a i f is c) ∙ entry_at s k j ((configuration_of s).entry k) i f (line k b.0) c;
  rests = λ j f. elim (rests j (free_of s j i f.1)) [ inl z ↦ inl z | inr g ↦ inr (gives_some rows s j (valuation_of s.values j) g) ];
  valued = λ k b. i.values k (let h = b.0 in let e = i.are_lines.same in omega arith) ∙ sym (system_sum s k (valuation_of s.values) i);
}
  where
    line : (k : ℕ) → k < length s.forms → IsCombination (variables_of s) (configuration_of s) k ((configuration_of s).entry k)
    line k h = record { always = λ v. form_is_line s.terms s.forms s.lines v k i.are_forms i.are_lines h ∙ sym (system_sum s k (form_values s.forms v) i) }
