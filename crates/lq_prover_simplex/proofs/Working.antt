-- The operations of a tableau are work at a configuration of the rows that it was ever handed.
use Rattle.std.proofs.Common.{◌≡◌, ℕ, pos, ◌<◌, inl, inr, arith, refl, sym, ap, ap₂, subst, ◌∙◌, ◌==◌, if◌then◌else◌, Bool, true, false, List, [], ◌∷◌, Option, Some, length, slice_get, unsigned_abs}
use Rattle.std.specs.List.{Contains}
use Rattle.std.proofs.lemmas.Option.{slice_get_within, get_or_from_slice_get}
use Rattle.std.proofs.Math.IntN.{ℤ}
use Rattle.std.proofs.lemmas.Int.{ints}
use Rattle.std.specs.Int.Signed.{◌<ℤ◌}
use Rattle.lq_base_numbers.specs.Rationals.Rational.{ℚ, whole, ◌-ℚ◌, ◌*ℚ◌, neg_ℚ}
use Rattle.lq_base_numbers.specs.Rationals.RationalQuotient.{◌/ℚ◌, /ℚ_is, *ℚ_cancel}
use Rattle.lq_base_numbers.specs.Rationals.Solver.{var, con, ◌⊖◌, ◌⊗◌, solve}
use Rattle.lq_base_numbers.specs.Fractions.Value.{value_of}
use Rattle.lq_base_numbers.specs.declared.fractions.past.NumOp.{NumOp}
use Rattle.lq_base_numbers.specs.declared.fractions.past.NumOp.TheVariants.{Add}
use Rattle.lq_logic_rows.specs.Row.{Row}
use Rattle.lq_logic_rows.specs.Steps.{valuation_of}
use Rattle.lq_logic_rows.specs.declared.bound.Side.{Side}
use Rattle.lq_prover_pivots.specs.Work.Sizes.{IsDivisor}
use Rattle.lq_prover_pivots.specs.Work.Work.{entry_of, IsEntry, IsOneOrEntry, IsQuotient, IsSignedQuotient, IsExchanging, IsPlace, IsWay, IsMoving, IsSharing, IsWork}
use Rattle.lq_prover_pivots.proofs.WorkLemmas.Normal.{factor_is_divisor}
use Rattle.lq_prover_simplex.specs.declared.error.TableauError.{TableauError}
use Rattle.lq_prover_simplex.specs.declared.limits.Limit.{Limit}
use Rattle.lq_prover_simplex.specs.declared.line.Entry.{Entry}
use Rattle.lq_prover_simplex.specs.declared.row.Bound.{Bound}
use Rattle.lq_prover_simplex.specs.declared.row.Standing.{Standing}
use Rattle.lq_prover_simplex.specs.Lines.{factor_of, unit, owns}
use Rattle.lq_prover_simplex.specs.RowParts.{turned_by}
use Rattle.lq_prover_simplex.specs.Systems.{System, form_at, line_at, IsFree, IsSystem}
use Rattle.lq_prover_simplex.specs.Standing.{standing_of, multiple_of, AllRead, ReadsAs}
use Rattle.lq_prover_simplex.specs.Bounds.{Limits, limit_at, bound_value}
use Rattle.lq_prover_simplex.specs.Conflicts.{AllGiven}
use Rattle.lq_prover_simplex.specs.Configurations.{AllAmong, Rests, Settles}
use Rattle.lq_prover_simplex.specs.Appearing.{AreFormsOf}
use Rattle.lq_prover_simplex.specs.Operations.{StopsIn, IsLineSum, IsMoved, IsShifting, IsChanging, IsRelating, IsZero, IsBringing, IsExchange, IsShared, IsOneOrFactor, IsExplained}
use Rattle.lq_prover_simplex.specs.Working.{IsWorkOver}
use Rattle.lq_prover_simplex.specs.Table.{HasWork}
use Rattle.lq_prover_simplex.proofs.Operations.{Among, stops_among}
use Rattle.lq_prover_simplex.proofs.Combinations.{entry_is, entry_apart, eqb_by, eq_or, unit_here, unit_elsewhere}
use Rattle.lq_prover_simplex.proofs.Systems.{entry_free}
use Rattle.lq_prover_simplex.proofs.Bounding.{variables_of, limit_bounds}
use Rattle.lq_prover_simplex.proofs.Explaining.{read_at, given_some}
use Rattle.lq_prover_simplex.proofs.Configuring.{configuration_of, free_of, free_inside, is_configuration}
use Rattle.lq_prover_simplex.proofs.Naming.{are_variables}
use Rattle.lq_prover_simplex.proofs.Resting.{rests_settled}

-- ---- a system at which the rows that were handed over have their configuration
pub record Grounds (ever : List Row) (s : System) : Type 0 where
  pub system : IsSystem s
  pub forms : AreFormsOf ever s.terms s.forms
  pub rests : Rests ever s

at_system : (ever : List Row) (s : System) (op : NumOp) (x y : ℚ) → Grounds ever s → IsWork (variables_of s) ever (configuration_of s) op x y → IsWorkOver s.terms ever op x y
at_system ever s op x y g w =
    IsWorkOver.at (variables_of s) (configuration_of s) refl (are_variables ever s.terms s.forms g.system.are_forms g.forms) (is_configuration ever s g.system g.rests) w

inside_lines : (s : System) (k : ℕ) → IsSystem s → k < length s.lines → k < length s.forms
inside_lines s k i h = let e = i.are_lines.same in omega arith

-- ---- entries
own_entry : (s : System) (k j : ℕ) → IsSystem s → IsFree s.lines k → factor_of (line_at s.lines k) j ≡ (if k == j then whole (pos 1) else whole (pos 0))
own_entry s k j i f = f.own j ∙ eqb_by j k
    (λ e h. ap (λ b. if b then whole (pos 1) else whole (pos 0)) e ∙ sym (subst (λ m. (if k == m then whole (pos 1) else whole (pos 0)) ≡ whole (pos 1)) (sym h) (unit_here k)))
    (λ e h. ap (λ b. if b then whole (pos 1) else whole (pos 0)) e ∙ sym (unit_elsewhere k j (λ q. h (sym q))))

pub factor_entry : (s : System) (k j : ℕ) → IsSystem s → factor_of (line_at s.lines k) j ≡ entry_of (configuration_of s) k j
factor_entry s k j i = by (owns (line_at s.lines k) k) refl
  where
    by : (b : Bool) → owns (line_at s.lines k) k ≡ b → factor_of (line_at s.lines k) j ≡ entry_of (configuration_of s) k j
    by true e =
        own_entry s k j i (free_of s k i e) ∙ sym (ap (λ b. if b then (if k == j then whole (pos 1) else whole (pos 0)) else factor_of (line_at s.lines k) j) e)
    by false e = sym (ap (λ b. if b then (if k == j then whole (pos 1) else whole (pos 0)) else factor_of (line_at s.lines k) j) e)

pub is_entry : (s : System) (k j : ℕ) → IsSystem s → k < length s.forms → IsFree s.lines j → IsEntry (variables_of s) (configuration_of s) (factor_of (line_at s.lines k) j)
is_entry s k j i h f = record { variable = k; free = j; inside = h; is_free = free_inside s j i f; is = factor_entry s k j i }

pub line_entry : (s : System) (k at : ℕ) (e : Entry) → IsSystem s → k < length s.forms → slice_get (line_at s.lines k) at ≡ Some e
    → IsEntry (variables_of s) (configuration_of s) (value_of e.factor)
line_entry s k at e i h there =
    subst (IsEntry (variables_of s) (configuration_of s)) (entry_is (line_at s.lines k) 0 at e (i.are_lines.line k) there)
    (is_entry s k e.variable i h (entry_free s.forms s.lines k at e i.are_lines there))

-- ---- places
among_at : (ever : List Row) (rows : List Standing) (k : ℕ) (st : Standing) → AllAmong ever rows → slice_get rows k ≡ Some st → Contains ever st.row
among_at ever rows k st a h = subst (λ (t : Standing). Contains ever t.row) (get_or_from_slice_get rows k st st h) (a k st (slice_get_within rows k st h))

limit_place : (ever : List Row) (s : System) (rows : List Standing) (limits : Limits) (side : Side) (k : ℕ) (l : Limit) → AllRead s.forms rows → AllGiven rows limits
    → AllAmong ever rows → limit_at limits side k ≡ Some l → IsPlace (variables_of s) ever (configuration_of s) (bound_value l)
limit_place ever s rows limits side k l read given among is =
    let g = given_some rows limits side k l given is in
    let b = limit_bounds s rows side k l read g in
    IsPlace.bound side k (record { row = g.standing.row; there = among_at ever rows l.row g.standing among g.stands; inside = b.0; bounds = b.1 })

-- ---- moves
turned_product : (x y : ℚ) → x *ℚ y ≡ y *ℚ x
turned_product x y = solve (x ∷ y ∷ []) (var 0 ⊗ var 1) (var 1 ⊗ var 0) refl

shifting_work : (ever : List Row) (s : System) (variable : ℕ) (by : ℚ) → IsSystem s → IsFree s.lines variable → IsWay (variables_of s) ever (configuration_of s) by
    → Among (IsShifting s.lines (valuation_of s.values) variable by) (IsMoving (variables_of s) ever (configuration_of s))
shifting_work ever s variable by i free way op x y h =
    let k = h.line in
    let inside = inside_lines s k i h.inside in
    moved op x y inside (is_entry s k variable i inside free) h.moves
  where
    moved : (op : NumOp) (x y : ℚ) → h.line < length s.forms → IsEntry (variables_of s) (configuration_of s) (factor_of (line_at s.lines h.line) variable)
        → IsMoved (valuation_of s.values h.line) (factor_of (line_at s.lines h.line) variable) by op x y → IsMoving (variables_of s) ever (configuration_of s) op x y
    moved op x y inside entry IsMoved.product = IsMoving.right_product by (factor_of (line_at s.lines h.line) variable) way entry
    moved op x y inside entry IsMoved.sum =
        IsMoving.sum h.line (factor_of (line_at s.lines h.line) variable *ℚ by) inside
        (inr (by, factor_of (line_at s.lines h.line) variable, way, entry, turned_product (factor_of (line_at s.lines h.line) variable) by))

bringing_moves : (ever : List Row) (s : System) (variable : ℕ) (bound : ℚ) → IsSystem s → IsFree s.lines variable → IsPlace (variables_of s) ever (configuration_of s) bound
    → Among (IsBringing s variable bound) (IsMoving (variables_of s) ever (configuration_of s))
bringing_moves ever s variable bound i free place op x y IsBringing.difference =
    IsMoving.difference bound (valuation_of s.values variable) place (IsPlace.value variable (inside_lines s variable i free.inside) refl)
bringing_moves ever s variable bound i free place _ _ _ (IsBringing.shifting op x y h) =
    shifting_work ever s variable (bound -ℚ valuation_of s.values variable) i free
    (IsWay.difference bound (valuation_of s.values variable) place (IsPlace.value variable (inside_lines s variable i free.inside) refl) refl) op x y h

-- a free variable that is brought to a limit
pub bringing_work : (s : System) (limits : Limits) (variable : ℕ) (side : Side) (l : Limit) (error : TableauError) → IsSystem s → IsFree s.lines variable
    → limit_at limits side variable ≡ Some l → StopsIn (IsBringing s variable (bound_value l)) error → HasWork s limits error
bringing_work s limits variable side l error i free is stop ever rows read given forms among rests =
    stops_among (IsBringing s variable (bound_value l)) (IsWorkOver s.terms ever) error
    (λ op x y h. at_system ever s op x y (record { system = i; forms = forms; rests = rests })
    (IsWork.moving (bringing_moves ever s variable (bound_value l) i free (limit_place ever s rows limits side variable l read given among is) op x y h)))
    stop

-- ---- exchanges
quotient_is : (a f b : ℚ) → ¬ (f ≡ whole (pos 0)) → a *ℚ f ≡ b → a ≡ b /ℚ f
quotient_is a f b some e = *ℚ_cancel a f (b /ℚ f) some (e ∙ sym (/ℚ_is b f some))

opposite_is : (a f b : ℚ) → ¬ (f ≡ whole (pos 0)) → a *ℚ f ≡ whole (pos 0) -ℚ b → a ≡ neg_ℚ (b /ℚ f)
opposite_is a f b some e =
    *ℚ_cancel a f (neg_ℚ (b /ℚ f)) some
    (e ∙ ap (λ t. whole (pos 0) -ℚ t) (sym (/ℚ_is b f some)) ∙ solve ((b /ℚ f) ∷ f ∷ []) (con (pos 0) ⊖ var 0 ⊗ var 1) ((con (pos 0) ⊖ var 0) ⊗ var 1) refl)

-- what an exchange starts from: a variable that isn't free, and an entry of its line that isn't 0
pub record Leaves (s : System) (leaving at : ℕ) (e : Entry) : Type 0 where
  pub system : IsSystem s
  pub inside : leaving < length s.forms
  pub there : slice_get (line_at s.lines leaving) at ≡ Some e
  pub basic : ¬ (IsFree s.lines leaving)

leaving_apart : (s : System) (b at : ℕ) (e : Entry) → Leaves s b at e → ¬ (value_of e.factor ≡ whole (pos 0))
leaving_apart s b at e l = entry_apart (line_at s.lines b) 0 at e (l.system.are_lines.line b) l.there

leaving_entry : (s : System) (b at : ℕ) (e : Entry) → Leaves s b at e → IsEntry (variables_of s) (configuration_of s) (value_of e.factor)
leaving_entry s b at e l = line_entry s b at e l.system l.inside l.there

one_over : (s : System) (b at : ℕ) (e : Entry) → Leaves s b at e → IsQuotient (variables_of s) (configuration_of s) (whole (pos 1) /ℚ value_of e.factor)
one_over s b at e l = record {
  left = whole (pos 1);
  right = value_of e.factor;
  dividend = inl refl;
  divisor = leaving_entry s b at e l;
  apart = leaving_apart s b at e l;
  is = refl;
}

zero_factor : (line nil : List Entry) (b : ℕ) (f : ℚ) (m : ℕ) (g : Entry) → IsZero line b f nil → slice_get nil m ≡ Some g
    → value_of g.factor *ℚ f ≡ unit g.variable b -ℚ factor_of line g.variable
zero_factor line nil b f m g z there = ap (λ t. t *ℚ f) (sym (entry_is nil 0 m g z.0 there)) ∙ z.1 (unit g.variable)

-- an entry of the combination that is 0 everywhere
zero_quotient : (s : System) (b at : ℕ) (e : Entry) (nil : List Entry) (m : ℕ) (g : Entry) → Leaves s b at e → IsZero (line_at s.lines b) b (value_of e.factor) nil
    → slice_get nil m ≡ Some g → IsSignedQuotient (variables_of s) (configuration_of s) (value_of g.factor)
zero_quotient s b at e nil m g l z there =
    let f = value_of e.factor in let line = line_at s.lines b in let some = leaving_apart s b at e l in
    let is : value_of g.factor *ℚ f ≡ unit g.variable b -ℚ factor_of line g.variable = zero_factor line nil b f m g z there in
    elim (eq_or g.variable b) [
      | inl here ↦
          let one : unit g.variable b ≡ whole (pos 1) = subst (λ j. unit j b ≡ whole (pos 1)) (sym here) (unit_here b) in
          let none : factor_of line g.variable ≡ whole (pos 0) = elim (l.system.are_lines.free b g.variable) [
            | inl y ↦ y
            | inr free ↦ absurd (l.basic (subst (IsFree s.lines) here free))
          ] in
          inl (record {
            left = whole (pos 1);
            right = f;
            dividend = inl refl;
            divisor = leaving_entry s b at e l;
            apart = some;
            is = quotient_is (value_of g.factor) f (whole (pos 1)) some (is ∙ ap₂ (λ u v. u -ℚ v) one none ∙ solve [] (con (pos 1) ⊖ con (pos 0)) (con (pos 1)) refl);
          })
      | inr apart ↦
          let nothing : unit g.variable b ≡ whole (pos 0) = unit_elsewhere g.variable b apart in
          let opposite : value_of g.factor *ℚ f ≡ whole (pos 0) -ℚ factor_of line g.variable = is ∙ ap (λ u. u -ℚ factor_of line g.variable) nothing in
          elim (l.system.are_lines.free b g.variable) [
            | inl y ↦
                let gone : value_of g.factor *ℚ f ≡ whole (pos 0) = opposite ∙ ap (λ t. whole (pos 0) -ℚ t) y ∙ solve [] (con (pos 0) ⊖ con (pos 0)) (con (pos 0)) refl in
                absurd
                (entry_apart nil 0 m g z.0 there
                (*ℚ_cancel (value_of g.factor) f (whole (pos 0)) some (gone ∙ solve (f ∷ []) (con (pos 0)) (con (pos 0) ⊗ var 0) refl)))
            | inr free ↦
                inr (
                  factor_of line g.variable /ℚ f,
                  record {
                    left = factor_of line g.variable;
                    right = f;
                    dividend = inr (is_entry s b g.variable l.system l.inside free);
                    divisor = leaving_entry s b at e l;
                    apart = some;
                    is = refl;
                  },
                  opposite_is (value_of g.factor) f (factor_of line g.variable) some opposite,
                )
          ]
    ]

relating_work : (s : System) (b at : ℕ) (e : Entry) → Leaves s b at e
    → Among (IsRelating (line_at s.lines b) b (value_of e.factor)) (IsExchanging (variables_of s) (configuration_of s))
relating_work s b at e l op x y IsRelating.inverse =
    IsExchanging.quotient (whole (pos 1)) (value_of e.factor) (inl refl) (leaving_entry s b at e l) (leaving_apart s b at e l)
relating_work s b at e l op x y IsRelating.negation = IsExchanging.negation (whole (pos 1) /ℚ value_of e.factor) (one_over s b at e l)
relating_work s b at e l op x y (IsRelating.product k g there) =
    IsExchanging.left_product (neg_ℚ (whole (pos 1) /ℚ value_of e.factor)) (value_of g.factor) (inr (whole (pos 1) /ℚ value_of e.factor, one_over s b at e l, refl))
    (line_entry s b k g l.system l.inside there)
relating_work s b at e l _ _ _ (IsRelating.sum k g x y there same) =
    absurd (l.basic (subst (IsFree s.lines) same (entry_free s.forms s.lines b k g l.system.are_lines there)))

changing_work : (s : System) (b at : ℕ) (e : Entry) (nil : List Entry) → Leaves s b at e → IsZero (line_at s.lines b) b (value_of e.factor) nil
    → Among (IsChanging s.lines e.variable nil) (IsExchanging (variables_of s) (configuration_of s))
changing_work s b at e nil l z op x y h =
    let k = h.line in
    let inside = inside_lines s k l.system h.inside in
    let entry = is_entry s k e.variable l.system inside (entry_free s.forms s.lines b at e l.system.are_lines l.there) in
    summed op x y inside entry h.sums
  where
    summed : (op : NumOp) (x y : ℚ) → h.line < length s.forms → IsEntry (variables_of s) (configuration_of s) (factor_of (line_at s.lines h.line) e.variable)
        → IsLineSum (line_at s.lines h.line) (factor_of (line_at s.lines h.line) e.variable) nil op x y → IsExchanging (variables_of s) (configuration_of s) op x y
    summed op x y inside entry (IsLineSum.product m g there) =
        IsExchanging.right_product (value_of g.factor) (factor_of (line_at s.lines h.line) e.variable) (zero_quotient s b at e nil m g l z there) entry
    summed op x y inside entry (IsLineSum.sum i m d g first there same) =
        subst (λ t. IsExchanging (variables_of s) (configuration_of s) Add (value_of d.factor) t)
        (turned_product (value_of g.factor) (factor_of (line_at s.lines h.line) e.variable))
        (IsExchanging.sum (value_of d.factor) (value_of g.factor) (factor_of (line_at s.lines h.line) e.variable) (line_entry s h.line i d l.system inside first)
        (zero_quotient s b at e nil m g l z there) entry)

exchange_kinds : (ever : List Row) (s : System) (b at : ℕ) (e : Entry) (bound : ℚ) → Leaves s b at e → IsPlace (variables_of s) ever (configuration_of s) bound
    → Among (IsExchange s b e.variable (value_of e.factor) bound) (IsWork (variables_of s) ever (configuration_of s))
exchange_kinds ever s b at e bound l place op x y IsExchange.difference =
    IsWork.moving (IsMoving.difference bound (valuation_of s.values b) place (IsPlace.value b l.inside refl))
exchange_kinds ever s b at e bound l place op x y IsExchange.quotient =
    IsWork.moving (IsMoving.quotient bound (valuation_of s.values b) (value_of e.factor) place (IsPlace.value b l.inside refl) (leaving_entry s b at e l) (leaving_apart s b at e l))
exchange_kinds ever s b at e bound l place _ _ _ (IsExchange.shifting op x y h) =
    IsWork.moving
    (shifting_work ever s e.variable ((bound -ℚ valuation_of s.values b) /ℚ value_of e.factor) l.system (entry_free s.forms s.lines b at e l.system.are_lines l.there)
    (IsWay.quotient bound (valuation_of s.values b) (value_of e.factor) place (IsPlace.value b l.inside refl) (leaving_entry s b at e l) (leaving_apart s b at e l) refl) op x y h)
exchange_kinds ever s b at e bound l place _ _ _ (IsExchange.relating op x y h) = IsWork.exchanging (relating_work s b at e l op x y h)
exchange_kinds ever s b at e bound l place _ _ _ (IsExchange.changing nil op x y z h) = IsWork.exchanging (changing_work s b at e nil l z op x y h)

-- a variable that leaves with a limit
pub exchange_work : (s : System) (limits : Limits) (b at : ℕ) (e : Entry) (side : Side) (l : Limit) (error : TableauError) → Leaves s b at e → limit_at limits side b ≡ Some l
    → StopsIn (IsExchange s b e.variable (value_of e.factor) (bound_value l)) error → HasWork s limits error
exchange_work s limits b at e side l error leaves is stop ever rows read given forms among rests =
    stops_among (IsExchange s b e.variable (value_of e.factor) (bound_value l)) (IsWorkOver s.terms ever) error
    (λ op x y h. at_system ever s op x y (record { system = leaves.system; forms = forms; rests = rests })
    (exchange_kinds ever s b at e (bound_value l) leaves (limit_place ever s rows limits side b l read given among is) op x y h))
    stop

-- ---- multipliers
size_of : (d : ℤ) → pos 0 <ℤ d → pos (unsigned_abs d) ≡ d
size_of d h = omega (arith, ints)

size_of_multiple : (t : Bool) (d : ℤ) → unsigned_abs (turned_by t d) ≡ unsigned_abs d
size_of_multiple true d = omega (arith, ints)
size_of_multiple false d = refl

multiple_apart : (t : Bool) (d : ℤ) → pos 0 <ℤ d → ¬ (turned_by t d ≡ pos 0)
multiple_apart true d h e = let k : turned_by true d ≡ pos 0 = e in absurd (omega (arith, ints))
multiple_apart false d h e = let k : d ≡ pos 0 = e in absurd (omega (arith, ints))

-- the divisor that a bound keeps is the row's
read_divisor : (s : System) (row : Row) (b : Bound) → IsSystem s → ReadsAs s.forms row b → IsDivisor row.parts (unsigned_abs b.divisor)
read_divisor s row b i r =
    subst (λ ps. IsDivisor ps (unsigned_abs b.divisor)) (sym r.scaled)
    (subst (λ g. IsDivisor (Rattle.lq_logic_rows.specs.Forms.times (multiple_of b) (form_at s.forms b.variable)) g) (size_of_multiple b.turned b.divisor)
    (factor_is_divisor (multiple_of b) (form_at s.forms b.variable) (multiple_apart b.turned b.divisor r.divides) (i.are_forms.normal b.variable r.inside)))

sharing_work : (ever : List Row) (s : System) (row : Row) (g : ℕ) (x : ℚ) → Contains ever row → IsDivisor row.parts g → IsOneOrEntry (variables_of s) (configuration_of s) x
    → Among (IsShared x (whole (pos g))) (IsSharing (variables_of s) ever (configuration_of s))
sharing_work ever s row g x there is of op u v IsShared.quotient = IsSharing.quotient row g x there is of
sharing_work ever s row g x there is of op u v IsShared.negation = IsSharing.negation row g x (x /ℚ whole (pos g)) there is of refl

explained_kinds : (ever : List Row) (s : System) (rows : List Standing) (line : List Entry) → IsSystem s → AllRead s.forms rows → AllAmong ever rows
    → ((k : ℕ) (f : Entry) → slice_get line k ≡ Some f → IsOneOrEntry (variables_of s) (configuration_of s) (value_of f.factor))
    → Among (IsExplained rows line) (IsSharing (variables_of s) ever (configuration_of s))
explained_kinds ever s rows line i read among entries op x y h =
    let r = read_bound h.standing.bound h.bound h.gives (read_at s.forms rows h.place h.standing read h.stands) in
    let same : whole h.bound.divisor ≡ whole (pos (unsigned_abs h.bound.divisor)) = ap whole (sym (size_of h.bound.divisor r.divides)) in
    sharing_work ever s h.standing.row (unsigned_abs h.bound.divisor) h.factor (among_at ever rows h.place h.standing among h.stands)
    (read_divisor s h.standing.row h.bound i r) (of h.is) op x y (subst (λ d. IsShared h.factor d op x y) same h.shares)
  where
    read_bound : (o : Option Bound) (b : Bound) → o ≡ Some b → Rattle.lq_prover_simplex.specs.Standing.ReadsBy s.forms h.standing.row o → ReadsAs s.forms h.standing.row b
    read_bound o b e r = let k = subst (Rattle.lq_prover_simplex.specs.Standing.ReadsBy s.forms h.standing.row) e r in k

    of : IsOneOrFactor line h.factor → IsOneOrEntry (variables_of s) (configuration_of s) h.factor
    of (inl one) = inl one
    of (inr k) = subst (IsOneOrEntry (variables_of s) (configuration_of s)) (sym k.3) (entries k.0 k.1 k.2)

pub explained_work : (s : System) (rows : List Standing) (line : List Entry) (ever : List Row) (error : TableauError) → IsSystem s → AllRead s.forms rows
    → ((k : ℕ) (f : Entry) → slice_get line k ≡ Some f → IsOneOrEntry (variables_of s) (configuration_of s) (value_of f.factor))
    → StopsIn (IsExplained rows line) error → AreFormsOf ever s.terms s.forms → AllAmong ever rows → Rests ever s → StopsIn (IsWorkOver s.terms ever) error
explained_work s rows line ever error i read entries stop forms among rests =
    stops_among (IsExplained rows line) (IsWorkOver s.terms ever) error
    (λ op x y h. at_system ever s op x y (record { system = i; forms = forms; rests = rests })
    (IsWork.sharing (explained_kinds ever s rows line i read among entries op x y h)))
    stop

-- ---- from a system that settled to the one before
pub settled_work : (old s : System) (limits : Limits) (error : TableauError) → s.terms ≡ old.terms → s.forms ≡ old.forms → Settles limits old s → HasWork s limits error
    → HasWork old limits error
settled_work old s limits error terms forms settles work ever rows read given are among rests =
    subst (λ n. StopsIn (IsWorkOver n ever) error) terms
    (work ever rows (subst (λ fs. AllRead fs rows) (sym forms) read) given (subst (λ n. AreFormsOf ever n s.forms) (sym terms) (subst (AreFormsOf ever old.terms) (sym forms) are))
    among (rests_settled ever rows limits old s read given forms settles among rests))
