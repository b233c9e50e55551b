-- The bounds that the rows that stand give, in the words of pivots.
use Rattle.std.proofs.Common.{◌≡◌, ℕ, zero, suc, pos, ◌<◌, ◌⊎◌, inl, inr, arith, refl, sym, ap, ap₂, subst, ◌∙◌, Bool, true, false, List, [], ◌∷◌, Option, Some, None, length, get_or, slice_get}
use Rattle.std.specs.List.{Contains}
use Rattle.std.proofs.Math.IntN.{ℤ, neg_ℤ}
use Rattle.std.specs.Int.Signed.{◌<ℤ◌}
use Rattle.std.proofs.lemmas.Int.{ints}
use Rattle.lq_base_numbers.specs.Rationals.Rational.{ℚ, whole, ◌+ℚ◌, ◌-ℚ◌, ◌*ℚ◌, neg_ℚ}
use Rattle.lq_base_numbers.specs.Rationals.RationalQuotient.{*ℚ_cancel}
use Rattle.lq_base_numbers.specs.Rationals.Whole.{whole-product, whole_once}
use Rattle.lq_base_numbers.specs.Rationals.Solver.{var, con, ◌⊕◌, ◌⊖◌, ◌⊗◌, solve}
use Rattle.lq_base_numbers.specs.Fractions.Value.{value_of}
use Rattle.lq_logic_rows.specs.Row.{Row, Valuation, sum_at}
use Rattle.lq_logic_rows.specs.Forms.{Parts, times}
use Rattle.lq_logic_rows.specs.Bounds.{BoundsOn, Bounds}
use Rattle.lq_logic_rows.specs.declared.bound.Side.{Side}
use Rattle.lq_logic_rows.specs.declared.bound.Side.TheVariants.{Lower, Upper}
use Rattle.lq_prover_pivots.specs.Pivots.Rows as pivots
use Rattle.lq_prover_pivots.specs.Pivots.Rows.{Variables, Gives}
use Rattle.lq_prover_simplex.specs.declared.row.Bound.{Bound}
use Rattle.lq_prover_simplex.specs.declared.row.Standing.{Standing}
use Rattle.lq_prover_simplex.specs.declared.limits.Limit.{Limit}
use Rattle.lq_prover_simplex.specs.RowParts.{turned_by}
use Rattle.lq_prover_simplex.specs.Systems.{System, form_at, AreForms}
use Rattle.lq_prover_simplex.specs.Standing.{standing_of, scale_of, multiple_of, ReadsAs, ReadsBy, AllRead}
use Rattle.lq_prover_simplex.specs.Bounds.{IsOn, Limits, limit_of, interval_at, limit_at, bound_value, IsLimit, AreTightest, Covers, Keeps}
use Rattle.lq_prover_simplex.specs.Table.{untagged}
use Rattle.lq_prover_simplex.proofs.Limiting.{beyond_not_within}
use Rattle.lq_prover_simplex.proofs.Multiples.{multiples_once, multiple_both, times_once, times_none}
use Rattle.lq_prover_simplex.proofs.Readings.{turned_whole}
use Rattle.lq_prover_simplex.proofs.Appearing.{own_multiple}
use Rattle.lq_prover_simplex.proofs.Explaining.{read_at, limit_read}
use Rattle.lq_prover_simplex.proofs.Tables.{keeps_within}

abbrev pub variables_of : System → Variables
variables_of s = record { terms = s.terms; forms = s.forms }

-- the rows that stand
abbrev pub rows_of : List Standing → List Row
rows_of rows = untagged (standing_of rows)

-- ---- a row as a bound
times_sum : (k : ℤ) (v : Valuation) (form : Parts) → sum_at v (times k form) ≡ whole k *ℚ sum_at v form
times_sum k v [] = solve (whole k ∷ []) (con (pos 0)) (var 0 ⊗ con (pos 0)) refl
times_sum k v (q ∷ form) =
    ap₂ (λ c s. c *ℚ v q.0 +ℚ s) (sym (whole-product k q.1)) (times_sum k v form)
    ∙ solve (whole k ∷ whole q.1 ∷ v q.0 ∷ sum_at v form ∷ []) (var 0 ⊗ var 1 ⊗ var 2 ⊕ var 0 ⊗ var 3) (var 0 ⊗ (var 1 ⊗ var 2 ⊕ var 3)) refl

scale_is : (b : Bound) → whole (multiple_of b) ≡ scale_of b
scale_is b = turned_whole b.turned b.divisor

constant_is : (forms : List Parts) (row : Row) (b : Bound) → ReadsAs forms row b → whole (multiple_of b) *ℚ value_of b.value ≡ neg_ℚ (whole row.constant)
constant_is forms row b r =
    let v : Valuation = λ k. whole (pos 0) in
    let form = form_at forms b.variable in let s = sum_at v form in let m = whole (multiple_of b) in let x = value_of b.value in let c = whole row.constant in
    let e : m *ℚ s +ℚ c ≡ m *ℚ (s -ℚ x) =
    ap (λ t. t +ℚ c) (sym (ap (sum_at v) r.scaled ∙ times_sum (multiple_of b) v form)) ∙ r.level v ∙ ap (λ t. t *ℚ (s -ℚ x)) (sym (scale_is b)) in
    solve (m ∷ s ∷ x ∷ []) (var 0 ⊗ var 2) (var 0 ⊗ var 1 ⊖ var 0 ⊗ (var 1 ⊖ var 2)) refl ∙ ap (λ t. m *ℚ s -ℚ t) (sym e)
    ∙ solve (m ∷ s ∷ c ∷ []) (var 0 ⊗ var 1 ⊖ (var 0 ⊗ var 1 ⊕ var 2)) (con (pos 0) ⊖ var 2) refl

turned_apart : (t : Bool) (d : ℤ) → pos 0 <ℤ d → ¬ (turned_by t d ≡ pos 0)
turned_apart true d h e = let k : neg_ℤ d ≡ pos 0 = e in omega (arith, ints)
turned_apart false d h e = let k : d ≡ pos 0 = e in omega (arith, ints)

on_bounds : (side : Side) (equal t : Bool) (d : ℤ) → pos 0 <ℤ d → IsOn side equal t → (equal ≡ true) ⊎ BoundsOn side (turned_by t d)
on_bounds Lower equal t d h (inl e) = inl e
on_bounds Upper equal t d h (inl e) = inl e
on_bounds Lower equal true d h (inr e) = inr (omega (arith, ints))
on_bounds Lower equal false d h (inr e) = absurd (let k : ⊥ = cc in k)
on_bounds Upper equal true d h (inr e) = absurd (let k : ⊥ = cc in k)
on_bounds Upper equal false d h (inr e) = inr h

bounds_on : (side : Side) (equal t : Bool) (d : ℤ) → pos 0 <ℤ d → (equal ≡ true) ⊎ BoundsOn side (turned_by t d) → IsOn side equal t
bounds_on Lower equal t d h (inl e) = inl e
bounds_on Upper equal t d h (inl e) = inl e
bounds_on Lower equal true d h (inr e) = inr refl
bounds_on Lower equal false d h (inr e) = absurd (let k : ⊥ = omega (arith, ints) in k)
bounds_on Upper equal true d h (inr e) = absurd (let k : ⊥ = omega (arith, ints) in k)
bounds_on Upper equal false d h (inr e) = inr refl

pub reads_bounds : (forms : List Parts) (row : Row) (b : Bound) (side : Side) → ReadsAs forms row b → IsOn side row.equal b.turned
    → Bounds (form_at forms b.variable) row side (value_of b.value)
reads_bounds forms row b side r on = record {
  multiple = record { factor = multiple_of b; some = turned_apart b.turned b.divisor r.divides; is = r.scaled };
  on = on_bounds side row.equal b.turned b.divisor r.divides on;
  is = constant_is forms row b r;
}

-- the row's bound is of this variable and on this side, and has this value
pub record IsRead (row : Row) (b : Bound) (side : Side) (k : ℕ) (x : ℚ) : Type 0 where
  pub variable : b.variable ≡ k
  pub value : value_of b.value ≡ x
  pub on : IsOn side row.equal b.turned

pub bounds_read : (terms : ℕ) (forms : List Parts) (row : Row) (b : Bound) (side : Side) (k : ℕ) (x : ℚ) → AreForms terms forms → ReadsAs forms row b → k < length forms
    → Bounds (form_at forms k) row side x → IsRead row b side k x
bounds_read terms forms row b side k x f r inside h =
    let m = multiple_of b in let form = form_at forms k in
    let normal = f.normal k inside in
    let same : form ≡ form_at forms b.variable =
    multiples_once row.parts row.parts form (form_at forms b.variable) normal (f.normal b.variable r.inside) (multiple_both row.parts form h.multiple) r.form (own_multiple row.parts) in
    let factor : h.multiple.factor ≡ m =
    times_once h.multiple.factor m form normal.above (sym h.multiple.is ∙ r.scaled ∙ ap (times m) (sym same)) in
    let some : ¬ (whole m ≡ whole (pos 0)) = (λ e. turned_apart b.turned b.divisor r.divides (whole_once m (pos 0) e)) in
    let products : whole m *ℚ value_of b.value ≡ whole m *ℚ x = constant_is forms row b r ∙ sym h.is ∙ ap (λ t. whole t *ℚ x) factor in
    record {
      variable = f.once b.variable k r.inside inside (sym same);
      value = *ℚ_cancel (value_of b.value) (whole m) x some
          (solve (whole m ∷ value_of b.value ∷ []) (var 1 ⊗ var 0) (var 0 ⊗ var 1) refl ∙ products ∙ solve (whole m ∷ x ∷ []) (var 0 ⊗ var 1) (var 1 ⊗ var 0) refl);
      on = bounds_on side row.equal b.turned b.divisor r.divides (subst (λ z. (row.equal ≡ true) ⊎ BoundsOn side z) factor h.on);
    }

-- ---- rows among those that stand
pub record Stands (rows : List Standing) (row : Row) : Type 0 where
  pub place : ℕ
  pub standing : Standing
  pub there : slice_get rows place ≡ Some standing
  pub is : standing.row ≡ row

stands_at : (rows : List Standing) (i : ℕ) (row : Row) → i < length (rows_of rows) → get_or (rows_of rows) i row ≡ row → Stands rows row
stands_at [] i row h e = absurd (omega arith)
stands_at (s ∷ rows) zero row h e = record { place = 0; standing = s; there = refl; is = e }
stands_at (s ∷ rows) (suc i) row h e =
    let t = stands_at rows i row (omega arith) e in record { place = suc t.place; standing = t.standing; there = t.there; is = t.is }

contains_at : (rows : List Standing) (i : ℕ) (s : Standing) → slice_get rows i ≡ Some s → Contains (rows_of rows) s.row
contains_at [] i s h = absurd (cc)
contains_at (r ∷ rows) zero s h = let q : r ≡ s = cc in (0, omega arith, ap (λ (t : Standing). t.row) q)
contains_at (r ∷ rows) (suc i) s h = let c = contains_at rows i s h in (suc c.0, (let l = c.1 in omega arith), c.2)

-- ---- limits as bounds that rows give, and back
-- the variable is there, and the row that gives the limit bounds it by that value
pub limit_bounds : (s : System) (rows : List Standing) (side : Side) (k : ℕ) (l : Limit) → AllRead s.forms rows → (g : IsLimit rows side k l)
    → (k < length s.forms) × Bounds (form_at s.forms k) g.standing.row side (bound_value l)
limit_bounds s rows side k l read g =
    let r = limit_read rows s.forms side k l read g in (
      subst (λ j. j < length s.forms) g.bounds r.inside,
      subst (λ j. Bounds (form_at s.forms j) g.standing.row side (bound_value l)) g.bounds (reads_bounds s.forms g.standing.row l.bound side r g.on),
    )

pub limit_gives : (s : System) (rows : List Standing) (side : Side) (k : ℕ) (l : Limit) → AllRead s.forms rows → IsLimit rows side k l
    → Gives (variables_of s) (rows_of rows) side k (bound_value l)
limit_gives s rows side k l read g =
    let b = limit_bounds s rows side k l read g in
    record { row = g.standing.row; there = contains_at rows l.row g.standing g.stands; inside = b.0; bounds = b.1 }

-- the bound that a row gives is no tighter than the limit
pub gives_covered : (s : System) (rows : List Standing) (limits : Limits) (side : Side) (k : ℕ) (x : ℚ) → AreForms s.terms s.forms → AllRead s.forms rows
    → AreTightest rows (interval_at limits) → Gives (variables_of s) (rows_of rows) side k x → Covers side (limit_at limits side k) x
gives_covered s rows limits side k x f read tight g =
    let t = stands_at rows g.there.0 g.row g.there.1 g.there.2 in
    by t t.standing.bound refl (subst (λ (r : Row). Bounds (form_at s.forms k) r side x) (sym t.is) g.bounds)
  where
    by : (t : Stands rows g.row) (o : Option Bound) → t.standing.bound ≡ o → Bounds (form_at s.forms k) t.standing.row side x → Covers side (limit_at limits side k) x
    by t None e h =
        let none : t.standing.row.parts ≡ [] = subst (ReadsBy s.forms t.standing.row) e (read_at s.forms rows t.place t.standing read t.there) in
        absurd (times_none h.multiple.factor (form_at s.forms k) (f.normal k g.inside).above (sym h.multiple.is ∙ none))
    by t (Some b) e h =
        let r = subst (ReadsBy s.forms t.standing.row) e (read_at s.forms rows t.place t.standing read t.there) in
        let i = bounds_read s.terms s.forms t.standing.row b side k x f r g.inside h in
        subst (λ y. Covers side (limit_at limits side k) y) i.value
        (subst (λ j. Covers side (limit_of (interval_at limits j) side) (value_of b.value)) i.variable (tight.tight side t.place t.standing b t.there e i.on))

-- what keeps to its limits breaks no bound
pub keeps_unbroken : (s : System) (rows : List Standing) (limits : Limits) (k : ℕ) (x : ℚ) → AreForms s.terms s.forms → AllRead s.forms rows
    → AreTightest rows (interval_at limits) → ((side : Side) → Keeps side x (limit_at limits side k)) → ¬ pivots.Breaks (variables_of s) (rows_of rows) k x
keeps_unbroken s rows limits k x f read tight keeps b =
    beyond_not_within b.side x b.bound b.beyond
    (keeps_within b.side x b.bound (limit_at limits b.side k) (keeps b.side) (gives_covered s rows limits b.side k b.bound f read tight b.given))
