-- A turn of a check is a pivot by the rule of least numbers.
use Rattle.std.proofs.Common.{◌≡◌, ℕ, zero, suc, pos, ◌<◌, inl, inr, arith, refl, sym, ap, subst, ◌∙◌, Bool, true, false, if◌then◌else◌, List, [], ◌∷◌, Option, Some, None, IfSome, length, take, slice_get}
use Rattle.lq_base_numbers.specs.Rationals.Rational.{ℚ, whole, ◌+ℚ◌, ◌*ℚ◌}
use Rattle.lq_base_numbers.specs.Rationals.OrderLaws.{is_at_most, ≤ℚ_antisym}
use Rattle.lq_base_numbers.specs.Rationals.Solver.{var, con, ◌⊕◌, ◌⊗◌, solve}
use Rattle.lq_base_numbers.specs.Fractions.Value.{value_of}
use Rattle.lq_logic_rows.specs.Row.{Valuation}
use Rattle.lq_logic_rows.specs.Forms.{Parts}
use Rattle.lq_logic_rows.specs.Steps.{valuation_of}
use Rattle.lq_logic_rows.specs.declared.bound.Side.{Side}
use Rattle.lq_logic_rows.specs.declared.bound.Side.TheVariants.{Lower, Upper}
use Rattle.lq_prover_pivots.specs.Pivots.Rows.{Gives}
use Rattle.lq_prover_pivots.specs.Pivots.Configurations.{Free}
use Rattle.lq_prover_pivots.specs.Pivots.Pivots.{moves_to, CanEnter, Pivot}
use Rattle.lq_prover_simplex.specs.declared.line.Entry.{Entry}
use Rattle.lq_prover_simplex.specs.declared.row.Standing.{Standing}
use Rattle.lq_prover_simplex.specs.declared.limits.Limit.{Limit}
use Rattle.lq_prover_simplex.specs.declared.limits.Broken.{Broken}
use Rattle.lq_prover_simplex.specs.Lines.{factor_of, AscendsFrom}
use Rattle.lq_prover_simplex.specs.Systems.{System, line_at, IsFree, IsSystem}
use Rattle.lq_prover_simplex.specs.Standing.{AllRead}
use Rattle.lq_prover_simplex.specs.Bounds.{other, Within, Limits, interval_at, limit_at, bound_value, IsLimit, AreTightest, Covers, Keeps, Breaks, blocking_of, IsBlocked, AllBlocked}
use Rattle.lq_prover_simplex.specs.Configurations.{FreeKeep, Exchanges}
use Rattle.lq_prover_simplex.proofs.Combinations.{eq_or, unit_elsewhere, entry_is, entry_above, entry_apart}
use Rattle.lq_prover_simplex.proofs.Limiting.{beyond_not_within}
use Rattle.lq_prover_simplex.proofs.Signs.{Sign, below, above, sign}
use Rattle.lq_prover_simplex.proofs.Systems.{entry_free}
use Rattle.lq_prover_simplex.proofs.Keeping.{keeps_limit}
use Rattle.lq_prover_simplex.proofs.Bounding.{variables_of, rows_of, limit_gives, gives_covered, keeps_unbroken}
use Rattle.lq_prover_simplex.proofs.Configuring.{configuration_of, free_of, of_free, free_inside}

-- ---- sides
pub moves_blocking : (side : Side) (f : ℚ) → ¬ (f ≡ whole (pos 0)) → moves_to side f ≡ blocking_of side f
moves_blocking side f n = by (sign side f) (is_at_most (whole (pos 0)) f) refl
  where
    by : Sign side f → (b : Bool) → is_at_most (whole (pos 0)) f ≡ b → moves_to side f ≡ blocking_of side f
    by (below h e) true q = absurd (n (≤ℚ_antisym f (whole (pos 0)) h (record { at_most = q })))
    by (below h e) false q = ap (λ b. if b then other side else side) q ∙ sym e
    by (above h e) b q = ap (λ t. if t then other side else side) h.at_most ∙ sym e

within_turned : (side : Side) (a b : ℚ) → Within side a b → Within (other side) b a
within_turned Lower a b h = h
within_turned Upper a b h = h

within_both : (side : Side) (x b : ℚ) → Within side x b → Within (other side) x b → x ≡ b
within_both Lower x b h k = ≤ℚ_antisym x b k h
within_both Upper x b h k = ≤ℚ_antisym x b h k

-- a limit that covers a bound
covering : (side : Side) (o : Option Limit) (x : ℚ) → Covers side o x → (l : Limit) × (o ≡ Some l) × Within side (bound_value l) x
covering side None x c = absurd c
covering side (Some l) x c = (l, refl, c)

-- ---- entries of a line
-- what has a factor stands in the line
pub entry_there : (es : List Entry) (low j : ℕ) → AscendsFrom low es → ¬ (factor_of es j ≡ whole (pos 0)) → (i : ℕ) × (f : Entry) × (slice_get es i ≡ Some f) × (f.variable ≡ j)
entry_there [] low j a n = absurd (n refl)
entry_there (e ∷ es) low j a n =
    elim (eq_or e.variable j) [
      | inl q ↦ (0, e, refl, q)
      | inr m ↦
          let same : factor_of (e ∷ es) j ≡ factor_of es j =
          ap (λ t. value_of e.factor *ℚ t +ℚ factor_of es j) (unit_elsewhere j e.variable (λ q. m (sym q)))
          ∙ solve (value_of e.factor ∷ factor_of es j ∷ []) (var 0 ⊗ con (pos 0) ⊕ var 1) (var 1) refl in
          let t = entry_there es (suc e.variable) j a.2 (λ z. n (same ∙ z)) in (suc t.0, t.1, t.2, t.3)
    ]

-- of less number, it stands earlier
pub entry_before : (es : List Entry) (low i k : ℕ) (f e : Entry) → AscendsFrom low es → slice_get es i ≡ Some f → slice_get es k ≡ Some e → f.variable < e.variable → i < k
entry_before [] low i k f e a h g l = absurd (let q : None ≡ Some f = h in cc)
entry_before (d ∷ es) low zero zero f e a h g l = absurd (let q : f ≡ e = cc in let r : f.variable ≡ e.variable = ap (λ (x : Entry). x.variable) q in omega arith)
entry_before (d ∷ es) low (suc i) zero f e a h g l =
    absurd (let q : d ≡ e = cc in let r : d.variable ≡ e.variable = ap (λ (x : Entry). x.variable) q in let m = entry_above es (suc d.variable) i f a.2 h in omega arith)
entry_before (d ∷ es) low zero (suc k) f e a h g l = omega arith
entry_before (d ∷ es) low (suc i) (suc k) f e a h g l = let m = entry_before es (suc d.variable) i k f e a.2 h g l in omega arith

blocked_before : (limits : Limits) (side : Side) (x : Valuation) (es : List Entry) (k i : ℕ) (f : Entry) → AllBlocked limits side x (take k es) → i < k → slice_get es i ≡ Some f → IsBlocked limits side x f
blocked_before limits side x [] k i f b l h = absurd (let q : None ≡ Some f = h in cc)
blocked_before limits side x (e ∷ es) zero i f b l h = absurd (omega arith)
blocked_before limits side x (e ∷ es) (suc k) zero f b l h = let q : e ≡ f = cc in subst (IsBlocked limits side x) q b.0
blocked_before limits side x (e ∷ es) (suc k) (suc i) f b l h = blocked_before limits side x es k i f b.1 (omega arith) h

-- ---- tests of what is free
pub not_free : (s : System) (j : ℕ) → IsSystem s → ¬ (IsFree s.lines j) → (configuration_of s).is_free j ≡ false
not_free s j i n = by ((configuration_of s).is_free j) refl
  where
    by : (b : Bool) → (configuration_of s).is_free j ≡ b → (configuration_of s).is_free j ≡ false
    by true e = absurd (n (free_of s j i e))
    by false e = e

same_test : (a b : Bool) → (a ≡ true → b ≡ true) → (b ≡ true → a ≡ true) → a ≡ b
same_test true true f g = refl
same_test true false f g = sym (f refl)
same_test false true f g = g refl
same_test false false f g = refl

-- ---- a turn
-- what a turn of a check has found: a variable that breaks a bound, the first that does, and an entry that can move, the first that can
pub record IsTurn (s d : System) (rows : List Standing) (limits : Limits) (broken : Broken) (at : ℕ) (e : Entry) : Type 0 where
  pub system : IsSystem s
  pub next : IsSystem d
  pub read : AllRead s.forms rows
  pub tightest : AreTightest rows (interval_at limits)
  pub inside : broken.variable < length s.forms
  pub breaks : Breaks limits (valuation_of s.values broken.variable) broken
  pub least : (k : ℕ) → k < broken.variable → (side : Side) → Keeps side (valuation_of s.values k) (limit_at limits side k)
  pub there : slice_get (line_at s.lines broken.variable) at ≡ Some e
  pub blocked : AllBlocked limits broken.side (valuation_of s.values) (take at (line_at s.lines broken.variable))
  pub moves : ¬ (IsBlocked limits broken.side (valuation_of s.values) e)
  pub exchanges : Exchanges s d broken.variable e.variable (bound_value broken.limit)
  pub keep : FreeKeep limits s
  pub keep_next : FreeKeep limits d
  pub forms : d.forms ≡ s.forms

-- a free variable that is blocked stands at a bound on the side to which it would have to move
at_bound : (s d : System) (rows : List Standing) (limits : Limits) (broken : Broken) (at : ℕ) (e f : Entry) (j : ℕ) → IsTurn s d rows limits broken at e
    → Free (variables_of s) (configuration_of s) j → f.variable ≡ j → IsBlocked limits broken.side (valuation_of s.values) f
    → Gives (variables_of s) (rows_of rows) (blocking_of broken.side (value_of f.factor)) j (valuation_of s.values j)
at_bound s d rows limits broken at e f j t free same b =
    let side = blocking_of broken.side (value_of f.factor) in
    let is : limit_at limits side j ≡ Some b.limit = subst (λ k. limit_at limits side k ≡ Some b.limit) same b.is in
    let past : Within (other side) (valuation_of s.values j) (bound_value b.limit) = subst (λ k. Within (other side) (valuation_of s.values k) (bound_value b.limit)) same b.past in
    let within : Within side (valuation_of s.values j) (bound_value b.limit) =
    keeps_limit side (valuation_of s.values j) (limit_at limits side j) b.limit (t.keep j free.0 (free_of s j t.system free.1) side) is in
    let given : IsLimit rows side j b.limit = subst (λ o. IfSome o (IsLimit rows side j)) is (t.tightest.given side j) in
    subst (Gives (variables_of s) (rows_of rows) side j) (sym (within_both side (valuation_of s.values j) (bound_value b.limit) within past))
    (limit_gives s rows side j b.limit t.read given)

-- the entry can enter
entry_enters : (s d : System) (rows : List Standing) (limits : Limits) (broken : Broken) (at : ℕ) (e : Entry) → IsTurn s d rows limits broken at e
    → CanEnter (variables_of s) (rows_of rows) (configuration_of s) broken.variable broken.side e.variable
entry_enters s d rows limits broken at e t =
    let b = broken.variable in let line = line_at s.lines b in let lines = t.system.are_lines in
    let is : factor_of line e.variable ≡ value_of e.factor = entry_is line 0 at e (lines.line b) t.there in
    let some : ¬ (factor_of line e.variable ≡ whole (pos 0)) = (λ z. entry_apart line 0 at e (lines.line b) t.there (sym is ∙ z)) in
    let side = blocking_of broken.side (value_of e.factor) in
    let turn : moves_to broken.side (factor_of line e.variable) ≡ side = moves_blocking broken.side (factor_of line e.variable) some ∙ ap (blocking_of broken.side) is in
    record {
      free = free_inside s e.variable t.system (entry_free s.forms s.lines b at e lines t.there);
      some = some;
      away = λ g.
          let given : Gives (variables_of s) (rows_of rows) side e.variable (valuation_of s.values e.variable) =
          subst (λ w. Gives (variables_of s) (rows_of rows) w e.variable (valuation_of s.values e.variable)) turn g in
          let c = covering side (limit_at limits side e.variable) (valuation_of s.values e.variable)
          (gives_covered s rows limits side e.variable (valuation_of s.values e.variable) t.system.are_forms t.read t.tightest given) in
          t.moves (record { limit = c.0; is = c.1; past = within_turned side (bound_value c.0) (valuation_of s.values e.variable) c.2 });
    }

-- and none of less number can
none_enters : (s d : System) (rows : List Standing) (limits : Limits) (broken : Broken) (at : ℕ) (e : Entry) (j : ℕ) → IsTurn s d rows limits broken at e → j < e.variable
    → ¬ CanEnter (variables_of s) (rows_of rows) (configuration_of s) broken.variable broken.side j
none_enters s d rows limits broken at e j t less can =
    let b = broken.variable in let line = line_at s.lines b in let lines = t.system.are_lines in
    let x = entry_there line 0 j (lines.line b) can.some in
    let f = x.1 in
    let is : factor_of line j ≡ value_of f.factor = subst (λ k. factor_of line k ≡ value_of f.factor) x.3 (entry_is line 0 x.0 f (lines.line b) x.2) in
    let before : x.0 < at = entry_before line 0 x.0 at f e (lines.line b) x.2 t.there (let q = x.3 in omega arith) in
    let turn : moves_to broken.side (factor_of line j) ≡ blocking_of broken.side (value_of f.factor) =
    moves_blocking broken.side (factor_of line j) can.some ∙ ap (blocking_of broken.side) is in
    can.away
    (subst (λ w. Gives (variables_of s) (rows_of rows) w j (valuation_of s.values j)) (sym turn)
    (at_bound s d rows limits broken at e f j t can.free x.3 (blocked_before limits broken.side (valuation_of s.values) line at x.0 f t.blocked before x.2)))

pub turn_pivots : (s d : System) (rows : List Standing) (limits : Limits) (broken : Broken) (at : ℕ) (e : Entry) → IsTurn s d rows limits broken at e
    → Pivot (variables_of s) (rows_of rows) (configuration_of s) (configuration_of d)
turn_pivots s d rows limits broken at e t =
    let b = broken.variable in let x = t.exchanges in let forms = t.system.are_forms in
    record {
      leaving = b;
      basic = (
        t.inside,
        not_free s b t.system (λ free.
            beyond_not_within broken.side (valuation_of s.values b) (bound_value broken.limit) t.breaks.beyond
            (keeps_limit broken.side (valuation_of s.values b) (limit_at limits broken.side b) broken.limit (t.keep b t.inside free broken.side) t.breaks.limit)),
      );
      breaks = record {
        side = broken.side;
        bound = bound_value broken.limit;
        given = limit_gives s rows broken.side b broken.limit t.read (subst (λ o. IfSome o (IsLimit rows broken.side b)) t.breaks.limit (t.tightest.given broken.side b));
        beyond = t.breaks.beyond;
      };
      least = λ k l basic. keeps_unbroken s rows limits k (valuation_of s.values k) forms t.read t.tightest (t.least k l);
      entering = e.variable;
      enters = entry_enters s d rows limits broken at e t;
      first = λ j l. none_enters s d rows limits broken at e j t l;
      left = of_free d b t.next x.left;
      takes = x.takes;
      entered = not_free d e.variable t.next x.entered;
      others = λ j l m n. same_test ((configuration_of d).is_free j) ((configuration_of s).is_free j)
          (λ q. of_free s j t.system ((x.others j m n).0 (free_of d j t.next q))) (λ q. of_free d j t.next ((x.others j m n).1 (free_of s j t.system q)));
      stays = λ j f n. x.stays j (free_of s j t.system f.1) n;
      before = λ j f. keeps_unbroken s rows limits j (valuation_of s.values j) forms t.read t.tightest (t.keep j f.0 (free_of s j t.system f.1));
      after = λ j f. keeps_unbroken s rows limits j (valuation_of d.values j) forms t.read t.tightest
          (t.keep_next j (subst (λ (fs : List Parts). j < length fs) (sym t.forms) f.0) (free_of d j t.next f.1));
    }
