-- The rows that stand, and what the values and the bounds say of them.
use Rattle.std.proofs.Common.{◌≡◌, ◌≢◌, ℕ, zero, suc, pos, ◌<◌, ◌==◌, if◌then◌else◌, inl, inr, arith, refl, sym, ap, subst, ◌∙◌, Bool, true, false, List, [], ◌∷◌, ◌++◌, Option, Some, None, IfNone, IsNone, MatchBool, not, FitsSigned, to_z, of_z, length, take, slice_get}
use Rattle.std.proofs.lemmas.List.Elements.{All-nil}
use Rattle.std.specs.Option.{is_some}
use mathlib.Core.Bool.{true≢false}
use Rattle.std.proofs.Math.IntN.{ℤ, negsuc, neg_ℤ}
use Rattle.std.specs.Int.{w128}
use Rattle.std.specs.Int.Signed.{◌≤ℤ◌, ◌<ℤ◌, lt_z}
use Rattle.std.proofs.lemmas.Int.{ints}
use Rattle.lq_base_numbers.specs.Rationals.Rational.{ℚ, whole, ◌+ℚ◌, ◌-ℚ◌, ◌*ℚ◌, neg_ℚ}
use Rattle.lq_base_numbers.specs.Rationals.RationalOrder.{◌≤ℚ◌, ◌<ℚ◌, NotNegative, NotNegative-whole, ≤ℚ_refl}
use Rattle.lq_base_numbers.specs.Rationals.OrderLaws.{≤ℚ_antisym, ≤ℚ_product, ≤ℚ_sum, NotNegative_of}
use Rattle.lq_base_numbers.specs.Rationals.Whole.{whole_at_most, whole_below, whole-negation}
use Rattle.lq_base_numbers.specs.Rationals.Solver.{var, con, ◌⊕◌, ◌⊖◌, ◌⊗◌, solve}
use Rattle.lq_base_numbers.specs.declared.fractions.frac.Frac.{Frac}
use Rattle.lq_base_numbers.specs.Fractions.Value.{value_of}
use Rattle.lq_logic_rows.specs.Row.{Row, Valuation, level, sum_at, RowHolds}
use Rattle.lq_logic_rows.specs.Contradiction.{Tagged, Solves, tagged, IsFair, level_of, IsContradiction}
use Rattle.lq_logic_rows.specs.Steps.{valuation_of}
use Rattle.lq_prover_simplex.specs.declared.line.Entry.{Entry}
use Rattle.lq_prover_simplex.specs.declared.row.Bound.{Bound}
use Rattle.lq_prover_simplex.specs.declared.row.Standing.{Standing}
use Rattle.lq_logic_rows.specs.declared.bound.Side.{Side}
use Rattle.lq_logic_rows.specs.declared.bound.Side.TheVariants.{Lower, Upper}
use Rattle.lq_prover_simplex.specs.declared.limits.Limit.{Limit}
use Rattle.lq_prover_simplex.specs.declared.limits.Broken.{Broken}
use Rattle.lq_prover_simplex.specs.Lines.{combine, factor_of, VariablesBelow}
use Rattle.lq_logic_rows.specs.Forms.{Parts, times, AreMultiples}
use Rattle.lq_prover_simplex.specs.Systems.{System, form_at, line_at, Fits, IsSystem, GoesOn}
use Rattle.lq_prover_simplex.specs.Standing.{standing_of, multipliers_of, signed, scale_of, multiple_of, ReadsAs, ReadsBy, Reads, AllRead, HasNoTag, TagsApart, BareHolds, AllBare, BoundBelow}
use Rattle.lq_prover_simplex.specs.Bounds.{other, Within, IsOn, Limits, interval_at, limit_at, bound_value, Covers, Keeps, AreTightest, Breaks, blocking_of, AllBlocked}
use Rattle.lq_prover_simplex.specs.Conflicts.{AllGiven, AllKeep, IsKept}
use Rattle.lq_prover_simplex.proofs.Combinations.{entry_is, unit_here, one_apart}
use Rattle.lq_prover_simplex.proofs.Systems.{entry_free}
use Rattle.lq_prover_simplex.proofs.Forms.{form_is_line}
use Rattle.lq_prover_simplex.proofs.Limiting.{within_trans, within_refl}
use Rattle.lq_prover_simplex.proofs.Signs.{blocking_one}
use Rattle.lq_prover_simplex.proofs.Explaining.{tag_found, read_at}

-- ---- lists of rows
pub standing_push : (rows : List Standing) (s : Standing) → standing_of (rows ++ s ∷ []) ≡ standing_of rows ++ (s.tag, s.row) ∷ []
standing_push [] s = refl
standing_push (r ∷ rows) s = ap (λ l. (r.tag, r.row) ∷ l) (standing_push rows s)

pub standing_take : (n : ℕ) (rows : List Standing) → standing_of (take n rows) ≡ take n (standing_of rows)
standing_take zero rows = refl
standing_take (suc n) [] = refl
standing_take (suc n) (r ∷ rows) = ap (λ l. (r.tag, r.row) ∷ l) (standing_take n rows)

pub standing_length : (rows : List Standing) → length (standing_of rows) ≡ length rows
standing_length [] = refl
standing_length (r ∷ rows) = ap suc (standing_length rows)

pub multiplier_get : (ms : List (ℕ × Frac)) (i : ℕ) (m : ℕ × Frac) → slice_get ms i ≡ Some m → slice_get (multipliers_of ms) i ≡ Some (m.0, value_of m.1)
multiplier_get [] i m h = absurd (cc)
multiplier_get (n ∷ ms) zero m h = let q : n ≡ m = cc in ap (λ (k : ℕ × Frac). Some (k.0, value_of k.1)) q
multiplier_get (n ∷ ms) (suc i) m h = multiplier_get ms i m h

pub multiplier_past : (ms : List (ℕ × Frac)) (i : ℕ) → IsNone (slice_get ms i) → IsNone (slice_get (multipliers_of ms) i)
multiplier_past [] i h = h
multiplier_past (n ∷ ms) zero h = absurd (true≢false h)
multiplier_past (n ∷ ms) (suc i) h = multiplier_past ms i h

no_tag_take : (tag n : ℕ) (rows : List Standing) → HasNoTag tag rows → HasNoTag tag (take n rows)
no_tag_take tag zero rows h = tt
no_tag_take tag (suc n) [] h = tt
no_tag_take tag (suc n) (r ∷ rows) h = (h.0, no_tag_take tag n rows h.1)

pub apart_take : (n : ℕ) (rows : List Standing) → TagsApart rows → TagsApart (take n rows)
apart_take zero rows h = tt
apart_take (suc n) [] h = tt
apart_take (suc n) (r ∷ rows) h = (no_tag_take r.tag n rows h.0, apart_take n rows h.1)

pub read_take : (forms : List Parts) (n : ℕ) (rows : List Standing) → AllRead forms rows → AllRead forms (take n rows)
read_take forms zero rows h = tt
read_take forms (suc n) [] h = tt
read_take forms (suc n) (r ∷ rows) h = (h.0, read_take forms n rows h.1)

pub reads_on : (old new : List Parts) (row : Row) (o : Option Bound) → GoesOn old new → ReadsBy old row o → ReadsBy new row o
reads_on old new row None g r = r
reads_on old new row (Some b) g r = record {
  inside = (g b.variable r.inside).0;
  form = subst (AreMultiples row.parts) (sym (g b.variable r.inside).1) r.form;
  scaled = r.scaled ∙ ap (times (multiple_of b)) (sym (g b.variable r.inside).1);
  divides = r.divides;
  level = λ v. r.level v ∙ ap (λ f. scale_of b *ℚ (sum_at v f -ℚ value_of b.value)) (sym (g b.variable r.inside).1);
}

pub read_on : (old new : List Parts) (rows : List Standing) → GoesOn old new → AllRead old rows → AllRead new rows
read_on old new [] g r = tt
read_on old new (s ∷ rows) g r = (reads_on old new s.row s.bound g r.0, read_on old new rows g r.1)

pub read_push : (forms : List Parts) (rows : List Standing) (s : Standing) → AllRead forms rows → Reads forms s → AllRead forms (rows ++ s ∷ [])
read_push forms [] s a r = (r, tt)
read_push forms (t ∷ rows) s a r = (a.0, read_push forms rows s a.1 r)

no_tag_push : (tag : ℕ) (rows : List Standing) (s : Standing) → HasNoTag tag rows → s.tag ≢ tag → HasNoTag tag (rows ++ s ∷ [])
no_tag_push tag [] s h n = (n, tt)
no_tag_push tag (r ∷ rows) s h n = (h.0, no_tag_push tag rows s h.1 n)

fresh_head : (t : ℕ × Row) (rows : Tagged) (tag : ℕ) → IsNone (tagged (t ∷ rows) tag) → (t.0 ≢ tag) × IsNone (tagged rows tag)
fresh_head t rows tag h = by (t.0 == tag) refl
  where
    by : (b : Bool) → t.0 == tag ≡ b → (t.0 ≢ tag) × IsNone (tagged rows tag)
    by true e = absurd (true≢false (ap (λ b. is_some (if b then Some t.1 else tagged rows tag)) (sym e) ∙ h))
    by false e = ((λ q. absurd (let k : ⊥ = grind arith in k)), ap (λ b. is_some (if b then Some t.1 else tagged rows tag)) (sym e) ∙ h)

pub apart_push : (rows : List Standing) (s : Standing) → TagsApart rows → IsNone (tagged (standing_of rows) s.tag) → TagsApart (rows ++ s ∷ [])
apart_push [] s a f = (tt, tt)
apart_push (r ∷ rows) s a f =
    let h = fresh_head (r.tag, r.row) (standing_of rows) s.tag f in
    (no_tag_push r.tag rows s a.0 (λ e. h.0 (sym e)), apart_push rows s a.1 h.1)

pub bound_by : (forms : List Parts) (row : Row) (o : Option Bound) → ReadsBy forms row o → BoundBelow (length forms) o
bound_by forms row None r = tt
bound_by forms row (Some b) r = r.inside

-- ---- values that keep to the bounds solve the rows
pub keeps_within : (side : Side) (v b : ℚ) (o : Option Limit) → Keeps side v o → Covers side o b → Within side v b
keeps_within side v b None k c = absurd c
keeps_within side v b (Some l) k c = within_trans side v (bound_value l) b k c

above_zero : (d : ℤ) → pos 0 <ℤ d → NotNegative (whole d)
above_zero d h = NotNegative_of (whole d) (whole_at_most (pos 0) d (omega (arith, ints)))

below_bound : (d : ℤ) (x b : ℚ) → pos 0 <ℤ d → x ≤ℚ b → (whole d *ℚ (x -ℚ b)) ≤ℚ whole (pos 0)
below_bound d x b h k =
    subst (λ t. (whole d *ℚ (x -ℚ b)) ≤ℚ t) (solve (whole d ∷ b ∷ []) (var 0 ⊗ (var 1 ⊖ var 1)) (con (pos 0)) refl)
    (≤ℚ_product (whole d) (x -ℚ b) (b -ℚ b) (above_zero d h)
    (subst (λ t. t ≤ℚ (b -ℚ b)) (solve (x ∷ b ∷ []) (var 0 ⊕ (con (pos 0) ⊖ var 1)) (var 0 ⊖ var 1) refl)
    (subst (λ t. (x +ℚ neg_ℚ b) ≤ℚ t) (solve (b ∷ []) (var 0 ⊕ (con (pos 0) ⊖ var 0)) (var 0 ⊖ var 0) refl) (≤ℚ_sum x b (neg_ℚ b) (neg_ℚ b) k (≤ℚ_refl (neg_ℚ b))))))

above_bound : (d : ℤ) (x b : ℚ) → pos 0 <ℤ d → b ≤ℚ x → (neg_ℚ (whole d) *ℚ (x -ℚ b)) ≤ℚ whole (pos 0)
above_bound d x b h k =
    subst (λ t. t ≤ℚ whole (pos 0)) (solve (whole d ∷ x ∷ b ∷ []) (var 0 ⊗ (var 2 ⊖ var 1)) ((con (pos 0) ⊖ var 0) ⊗ (var 1 ⊖ var 2)) refl) (below_bound d b x h k)

row_by : (equal turned : Bool) (d : ℤ) (l x b : ℚ) → pos 0 <ℤ d → l ≡ signed turned (whole d) *ℚ (x -ℚ b) → ((side : Side) → IsOn side equal turned → Within side x b)
    → MatchBool equal (l ≡ whole (pos 0)) (l ≤ℚ whole (pos 0))
row_by true turned d l x b h e w =
    let same : x ≡ b = ≤ℚ_antisym x b (w Upper (inl refl)) (w Lower (inl refl)) in
    e ∙ ap (λ t. signed turned (whole d) *ℚ (t -ℚ b)) same ∙ solve (signed turned (whole d) ∷ b ∷ []) (var 0 ⊗ (var 1 ⊖ var 1)) (con (pos 0)) refl
row_by false true d l x b h e w = subst (λ t. t ≤ℚ whole (pos 0)) (sym e) (above_bound d x b h (w Lower (inr refl)))
row_by false false d l x b h e w = subst (λ t. t ≤ℚ whole (pos 0)) (sym e) (below_bound d x b h (w Upper (inr refl)))

pub row_solved : (forms : List Parts) (x : Valuation) (row : Row) (b : Bound) → Fits forms x → ReadsAs forms row b
    → ((side : Side) → IsOn side row.equal b.turned → Within side (x b.variable) (value_of b.value)) → RowHolds x row
row_solved forms x row b f r w =
    row_by row.equal b.turned b.divisor (level x row) (x b.variable) (value_of b.value) r.divides
    (r.level x ∙ ap (λ t. scale_of b *ℚ (t -ℚ value_of b.value)) (sym (f b.variable r.inside))) w

bare_solved : (x : Valuation) (row : Row) → row.parts ≡ [] → MatchBool row.equal (whole row.constant ≡ whole (pos 0)) (whole row.constant ≤ℚ whole (pos 0)) → RowHolds x row
bare_solved x row e h =
    subst (λ t. MatchBool row.equal (t ≡ whole (pos 0)) (t ≤ℚ whole (pos 0)))
    (solve (whole row.constant ∷ []) (var 0) (con (pos 0) ⊕ var 0) refl ∙ ap (λ p. sum_at x p +ℚ whole row.constant) (sym e)) h

one_solved : (forms : List Parts) (x : Valuation) (row : Row) (o : Option Bound) → Fits forms x → ReadsBy forms row o → BareHolds row o
    → ((b : Bound) → o ≡ Some b → (side : Side) → IsOn side row.equal b.turned → Within side (x b.variable) (value_of b.value)) → RowHolds x row
one_solved forms x row None f r h w = bare_solved x row r h
one_solved forms x row (Some b) f r h w = row_solved forms x row b f r (w b refl)

solved_by : (forms : List Parts) (x : Valuation) (rows : List Standing) → Fits forms x → AllRead forms rows → AllBare rows
    → ((j : ℕ) (s : Standing) (b : Bound) → slice_get rows j ≡ Some s → s.bound ≡ Some b → (side : Side) → IsOn side s.row.equal b.turned → Within side (x b.variable) (value_of b.value))
    → Solves x (standing_of rows)
solved_by forms x [] f r h w = tt
solved_by forms x (s ∷ rows) f r h w =
    (one_solved forms x s.row s.bound f r.0 h.0 (λ b e. w 0 s b refl e), solved_by forms x rows f r.1 h.1 (λ j t b g e. w (suc j) t b g e))

pub all_solved : (s : System) (rows : List Standing) (limits : Limits) → AllRead s.forms rows → AllBare rows → AreTightest rows (interval_at limits) → AllKeep limits s
    → Solves (valuation_of s.values) (standing_of rows)
all_solved s rows limits r h t all =
    let i = all.system in
    solved_by s.forms (valuation_of s.values) rows (i.are_lines.fits (valuation_of s.values) i.values) r h
    (λ j q b g e side on.
    keeps_within side (valuation_of s.values b.variable) (value_of b.value) (limit_at limits side b.variable)
    (all.keeps b.variable (inside j q b g e) side) (t.tight side j q b g e on))
  where
    inside : (j : ℕ) (q : Standing) (b : Bound) → slice_get rows j ≡ Some q → q.bound ≡ Some b → b.variable < length s.forms
    inside j q b g e = let a = subst (ReadsBy s.forms q.row) e (read_at s.forms rows j q r g) in a.inside

-- ---- a row without terms that doesn't hold
pub bare_contradicts : (forms : List Parts) (rows : List Standing) (i : ℕ) (s : Standing) (m : Frac) → AllRead forms rows → TagsApart rows → slice_get rows i ≡ Some s → s.bound ≡ None
    → whole (pos 0) <ℚ (value_of m *ℚ whole s.row.constant) → MatchBool s.row.equal (Unit {0}) (NotNegative (value_of m))
    → IsContradiction (standing_of rows) (multipliers_of ((s.tag, m) ∷ []))
bare_contradicts forms rows i s m r a g n above fair =
    let parts : s.row.parts ≡ [] = subst (ReadsBy forms s.row) n (read_at forms rows i s r g) in
    let found = tag_found rows i s a g in
    record {
      fair = (subst (λ o. IsFair o (value_of m)) (sym found) fair, tt);
      once = (All-nil (λ other. other.0 ≢ s.tag), tt);
      gap = value_of m *ℚ whole s.row.constant;
      above = above;
      sum = λ v.
          ap (λ o. value_of m *ℚ level_of v o +ℚ whole (pos 0)) found
          ∙ ap (λ p. value_of m *ℚ (sum_at v p +ℚ whole s.row.constant) +ℚ whole (pos 0)) parts
          ∙ solve (value_of m ∷ whole s.row.constant ∷ []) (var 0 ⊗ (con (pos 0) ⊕ var 1) ⊕ con (pos 0)) (var 0 ⊗ var 1) refl;
    }

pub bare_push : (rows : List Standing) (s : Standing) → AllBare rows → BareHolds s.row s.bound → AllBare (rows ++ s ∷ [])
bare_push [] s a h = (h, tt)
bare_push (r ∷ rows) s a h = (a.0, bare_push rows s a.1 h)

pub bare_none : (row : Row) (o : Option Bound) → o ≡ None → MatchBool row.equal (whole row.constant ≡ whole (pos 0)) (whole row.constant ≤ℚ whole (pos 0)) → BareHolds row o
bare_none row o e h = subst (BareHolds row) (sym e) h

-- ---- what keeps a variable from its bound
below_all : (n : ℕ) (es : List Entry) → ((i : ℕ) (e : Entry) → slice_get es i ≡ Some e → e.variable < n) → VariablesBelow n es
below_all n [] h = tt
below_all n (e ∷ es) h = (h 0 e refl, below_all n es (λ i f g. h (suc i) f g))

pub line_variables : (s : System) (k : ℕ) → IsSystem s → VariablesBelow (length s.values) (line_at s.lines k)
line_variables s k i =
    below_all (length s.values) (line_at s.lines k)
    (λ j e g. let f = entry_free s.forms s.lines k j e i.are_lines g in let h = f.inside in let p = i.are_lines.same in let q = i.valued in omega arith)

pub kept : (s : System) (rows : List Standing) (limits : Limits) (b : Broken) → IsSystem s → AllRead s.forms rows → TagsApart rows → AllGiven rows limits → b.variable < length s.values
    → Breaks limits (valuation_of s.values b.variable) b → AllBlocked limits b.side (valuation_of s.values) (line_at s.lines b.variable) → IsKept rows limits b (line_at s.lines b.variable)
kept s rows limits b i r a g inside breaks blocked =
    let lines = i.are_lines in
    let form_in : b.variable < length s.forms = (let p = i.valued in omega arith) in
    let line_in : b.variable < length s.lines = (let p = i.valued in let q = lines.same in omega arith) in
    let meets : valuation_of s.values b.variable ≡ combine (valuation_of s.values) (line_at s.lines b.variable) = i.values b.variable line_in in
    record {
      forms = s.forms;
      read = r;
      apart = a;
      given = g;
      values = valuation_of s.values;
      breaks = subst (λ x. Breaks limits x b) meets breaks;
      blocked = blocked;
      ascends = lines.line b.variable;
      sum = λ v. form_is_line s.terms s.forms s.lines v b.variable i.are_forms lines form_in;
      own = λ k e at q.
          let free = entry_free s.forms s.lines b.variable k e lines at in (
            sym (entry_is (line_at s.lines b.variable) 0 k e (lines.line b.variable) at)
                ∙ ap (λ n. factor_of (line_at s.lines n) e.variable) (sym q) ∙ free.own e.variable ∙ unit_here e.variable,
            sym meets ∙ ap (valuation_of s.values) (sym q),
          );
    }

one_entry : (k : ℕ) (x e : Entry) → slice_get (x ∷ []) k ≡ Some e → x ≡ e
one_entry zero x e h = cc
one_entry (suc k) x e h = absurd (let q : None ≡ Some e = h in cc)

pub crossed_kept : (forms : List Parts) (rows : List Standing) (limits : Limits) (b : Broken) (one : Frac) (upper : Limit) → AllRead forms rows → TagsApart rows → AllGiven rows limits
    → value_of one ≡ whole (pos 1) → b.side ≡ Lower → limit_at limits Upper b.variable ≡ Some upper → Breaks limits (bound_value upper) b
    → IsKept rows limits b ((record { variable = b.variable; factor = one }) ∷ [])
crossed_kept forms rows limits b one upper r a g o side at breaks =
    let x : Entry = record { variable = b.variable; factor = one } in
    let u = bound_value upper in
    let once = λ (y : ℚ). ap (λ t. t *ℚ y +ℚ whole (pos 0)) o ∙ solve (y ∷ []) (con (pos 1) ⊗ var 0 ⊕ con (pos 0)) (var 0) refl in
    let block : blocking_of b.side (value_of one) ≡ Upper = blocking_one b.side (value_of one) o ∙ ap other side in
    record {
      forms = forms;
      read = r;
      apart = a;
      given = g;
      values = λ k. u;
      breaks = subst (λ t. Breaks limits t b) (sym (once u)) breaks;
      blocked = (record { limit = upper; is = ap (λ s. limit_at limits s b.variable) block ∙ at; past = subst (λ s. Within (other s) u u) (sym block) (within_refl Lower u) }, tt);
      ascends = (omega arith, (λ z. one_apart (sym z ∙ o)), tt);
      sum = λ v. sym (once (sum_at v (form_at forms b.variable)));
      own = λ k e q h. (ap (λ (f : Entry). value_of f.factor) (sym (one_entry k x e q)) ∙ o, once u);
    }

-- ---- rows without terms
pub refuting_above : (c : ℤ) (m : ℚ) → m ≡ whole (pos 1) → pos 0 <ℤ c → whole (pos 0) <ℚ (m *ℚ whole c)
refuting_above c m e h = subst (λ t. whole (pos 0) <ℚ t) (solve (whole c ∷ []) (var 0) (con (pos 1) ⊗ var 0) refl ∙ ap (λ t. t *ℚ whole c) (sym e)) (whole_below (pos 0) c h)

pub refuting_below : (c : ℤ) (m : ℚ) → m ≡ whole (negsuc 0) → c <ℤ pos 0 → whole (pos 0) <ℚ (m *ℚ whole c)
refuting_below c m e h =
    subst (λ t. whole (pos 0) <ℚ t) (whole-negated c ∙ ap (λ t. t *ℚ whole c) (sym e)) (whole_below (pos 0) (neg_ℤ c) (omega (arith, ints)))
  where
    whole-negated : (c : ℤ) → whole (neg_ℤ c) ≡ whole (negsuc 0) *ℚ whole c
    whole-negated c = sym (whole-negation c) ∙ solve (whole c ∷ []) (con (pos 0) ⊖ var 0) (con (negsuc 0) ⊗ var 0) refl

pub one_fair : (equal : Bool) (m : ℚ) → m ≡ whole (pos 1) → MatchBool equal (Unit {0}) (NotNegative m)
one_fair true m e = tt
one_fair false m e = subst NotNegative (sym e) (NotNegative-whole 1)

pub bare_equal : (c : ℤ) → c ≤ℤ pos 0 → pos 0 ≤ℤ c → whole c ≡ whole (pos 0)
bare_equal c h k = ap whole (omega (arith, ints))

pub bare_at_most : (c : ℤ) → c ≤ℤ pos 0 → whole c ≤ℚ whole (pos 0)
bare_at_most c h = whole_at_most c (pos 0) h

-- ---- what the code reads
pub above_read : (c : ℤ) → FitsSigned w128 c → lt_z (pos 0) (to_z w128 (of_z w128 c)) ≡ true → pos 0 <ℤ c
above_read c f h = omega (arith, ints)

pub below_read : (c : ℤ) → FitsSigned w128 c → lt_z (to_z w128 (of_z w128 c)) (pos 0) ≡ true → c <ℤ pos 0
below_read c f h = omega (arith, ints)

pub not_above_read : (c : ℤ) → FitsSigned w128 c → lt_z (pos 0) (to_z w128 (of_z w128 c)) ≡ false → c ≤ℤ pos 0
not_above_read c f h = omega (arith, ints)

pub not_below_read : (c : ℤ) → FitsSigned w128 c → lt_z (to_z w128 (of_z w128 c)) (pos 0) ≡ false → pos 0 ≤ℤ c
not_below_read c f h = omega (arith, ints)

pub is_none_read : {X : Type 0} (o : Option X) (b : Bool) → is_some o ≡ not b → b ≡ true → o ≡ None
is_none_read None b e h = refl
is_none_read (Some x) b e h = absurd (true≢false (e ∙ ap not h))

pub bare_read : (row : Row) (o : Option Bound) (b : Bool) → is_some o ≡ not b → b ≡ false → BareHolds row o
bare_read row None b e h = absurd (true≢false (sym (e ∙ ap not h)))
bare_read row (Some x) b e h = tt

pub none_weaker : {X P Q : Type 0} (o : Option X) → (P → Q) → IfNone o P → IfNone o Q
none_weaker None f h = f h
none_weaker (Some x) f h = tt
