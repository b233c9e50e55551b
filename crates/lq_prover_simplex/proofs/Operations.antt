-- Operations without a result within 128 bits, as they are handed up.
use Rattle.std.proofs.Common.{◌≡◌, ℕ, zero, suc, pos, inl, inr, arith, refl, sym, ap, ap₂, subst, ◌∙◌, Bool, true, false, List, [], ◌∷◌, Option, Some, None, Result, Ok, Err, IfErr, take, slice_get, unsigned_abs}
use Rattle.std.proofs.Math.IntN.{ℤ, neg_ℤ}
use Rattle.std.proofs.lemmas.Int.{ints}
use Rattle.std.specs.Int.{◌∣◌}
use Rattle.lq_base_numbers.specs.Rationals.Rational.{ℚ, whole, ◌*ℚ◌, neg_ℚ}
use Rattle.lq_base_numbers.specs.Rationals.RationalQuotient.{◌/ℚ◌}
use Rattle.lq_base_numbers.specs.Rationals.Solver.{var, con, ◌⊖◌, solve}
use Rattle.lq_logic_rows.specs.Forms.{Parts, DividesAll}
use Rattle.lq_base_numbers.specs.Fractions.Past.{IsPast}
use Rattle.lq_base_numbers.specs.Fractions.Value.{value_of}
use Rattle.lq_base_numbers.specs.declared.fractions.frac.Frac.{Frac}
use Rattle.lq_base_numbers.specs.declared.fractions.past.NumberPast.{NumberPast}
use Rattle.lq_base_numbers.specs.declared.fractions.past.NumOp.{NumOp}
use Rattle.lq_base_numbers.specs.declared.fractions.past.NumOp.TheVariants.{Add, Mul, Div}
use Rattle.lq_prover_simplex.specs.declared.error.TableauError.{TableauError}
use Rattle.lq_prover_simplex.specs.declared.error.TableauError.TheVariants.{Past, Spent, Memory}
use Rattle.lq_prover_simplex.specs.declared.line.Entry.{Entry}
use Rattle.lq_logic_rows.specs.Row.{Valuation, sum_at}
use Rattle.lq_prover_simplex.specs.Lines.{combine, factor_of, unit, IsHead, IsLine}
use Rattle.lq_prover_simplex.specs.Systems.{line_at}
use Rattle.lq_prover_simplex.specs.Operations.{IsPastIn, StopsIn, IsJoining, IsLineSum, IsRelating, IsLining, IsSummed, IsBounding, IsDivisorOf}
use Rattle.lq_prover_simplex.specs.RowParts.{turned_by, IsTurned, IsGreatest}
use Rattle.lq_prover_simplex.specs.Standing.{signed}
use Rattle.lq_prover_simplex.specs.WholeLines.{only}
use Rattle.lq_prover_simplex.proofs.Combinations.{entry_is, entry_apart}
use Rattle.lq_prover_simplex.proofs.Readings.{turned_whole}

-- operations with their operands
abbrev pub Acts : Type 1
Acts = NumOp → ℚ → ℚ → Type 0

abbrev pub carries : NumOp → Frac → Frac → NumberPast
carries o f g = record { left = f; right = g; op = o }

pub past_in : (Is : Acts) (e : NumberPast) (o : NumOp) (f g : Frac) → e ≡ carries o f g → IsPast e → Is o (value_of f) (value_of g) → IsPastIn Is e
past_in Is e o f g same past is = (past, subst (λ (d : NumberPast). Is d.op (value_of d.left) (value_of d.right)) (sym same) is)

-- of a result that is returned as it is
pub past_carried : {X : Type 0} (Is : Acts) (r : Result X NumberPast) (o : NumOp) (f g : Frac) → IfErr r (λ e. IsPast e) → IfErr r (λ e. e ≡ carries o f g)
    → Is o (value_of f) (value_of g) → IfErr r (IsPastIn Is)
past_carried Is (Ok x) o f g past same is = tt
past_carried Is (Err e) o f g past same is = past_in Is e o f g same past is

pub past_was : {X : Type 0} (Is : Acts) (r : Result X NumberPast) (e : NumberPast) → r ≡ Err e → IsPastIn Is e → IfErr r (IsPastIn Is)
past_was Is r e was h = subst (λ s. IfErr s (IsPastIn Is)) (sym was) h

pub stops_past : {X : Type 0} (Is : Acts) (r : Result X TableauError) (e : NumberPast) → r ≡ Err (Past e) → IsPastIn Is e → IfErr r (StopsIn Is)
stops_past Is r e was h = subst (λ s. IfErr s (StopsIn Is)) (sym was) h

-- ---- one kind is among another
abbrev pub Among : Acts → Acts → Type 0
Among Was Is = (op : NumOp) (x y : ℚ) → Was op x y → Is op x y

pub past_among : (Was Is : Acts) (e : NumberPast) → Among Was Is → IsPastIn Was e → IsPastIn Is e
past_among Was Is e h p = (p.0, h e.op (value_of e.left) (value_of e.right) p.1)

pub stops_among : (Was Is : Acts) (e : TableauError) → Among Was Is → StopsIn Was e → StopsIn Is e
stops_among Was Is (Past e) h p = past_among Was Is e h p
stops_among Was Is Spent h p = absurd p
stops_among Was Is Memory h p = tt

pub stops_were : {X : Type 0} (Was Is : Acts) (r : Result X TableauError) (e : TableauError) → Among Was Is → r ≡ Err e → StopsIn Was e → IfErr r (StopsIn Is)
stops_were Was Is r e h was p = subst (λ s. IfErr s (StopsIn Is)) (sym was) (stops_among Was Is e h p)

pub if_stops_among : {X : Type 0} (Was Is : Acts) (r : Result X TableauError) → Among Was Is → IfErr r (StopsIn Was) → IfErr r (StopsIn Is)
if_stops_among Was Is (Ok x) h p = tt
if_stops_among Was Is (Err e) h p = stops_among Was Is e h p

-- ---- sums of lines
pub joining_in_lines : (left right : List Entry) (times : ℚ) (i j n m v : ℕ) (d f : Option Frac) → IsHead left i v d n → IsHead right j v f m
    → Among (IsJoining d times f) (IsLineSum left times right)
joining_in_lines left right times i j n m v d f at_left at_right op x y (IsJoining.product g is) =
    let h : IsHead right j v (Some g) m = subst (λ o. IsHead right j v o m) is at_right in
    IsLineSum.product j (record { variable = v; factor = g }) h.1
joining_in_lines left right times i j n m v d f at_left at_right op x y (IsJoining.sum e g of is) =
    let h : IsHead right j v (Some g) m = subst (λ o. IsHead right j v o m) is at_right in
    let k : IsHead left i v (Some e) n = subst (λ o. IsHead left i v o n) of at_left in
    IsLineSum.sum i j (record { variable = v; factor = e }) (record { variable = v; factor = g }) k.1 h.1 refl

-- the sum of one variable alone and a line without it is the relation
pub relating_sum : (line : List Entry) (leaving : ℕ) (f : ℚ) (first : List Entry) (inverse times : Frac) → first ≡ only leaving inverse → value_of inverse ≡ whole (pos 1) /ℚ f
    → value_of times ≡ neg_ℚ (value_of inverse) → Among (IsLineSum first (value_of times) line) (IsRelating line leaving f)
relating_sum line leaving f first inverse times is one turned op x y (IsLineSum.product k e at) =
    subst (λ t. IsRelating line leaving f Mul t (value_of e.factor)) (sym (turned ∙ ap neg_ℚ one)) (IsRelating.product k e at)
relating_sum line leaving f first inverse times is one turned op x y (IsLineSum.sum i k d e at_left at same) =
    IsRelating.sum k e (value_of d.factor) (value_of times *ℚ value_of e.factor) at (sym same ∙ alone i (subst (λ (es : List Entry). slice_get es i ≡ Some d) is at_left))
  where
    alone : (i : ℕ) → slice_get (only leaving inverse) i ≡ Some d → d.variable ≡ leaving
    alone zero h = let q : (record { variable = leaving; factor = inverse }) ≡ d = cc in ap (λ (g : Entry). g.variable) (sym q)
    alone (suc i) h = absurd (let q : None ≡ Some d = h in cc)

-- ---- rows
pub bounding_is : (constant : ℤ) (g : ℕ) (t : Bool) (n w : ℚ) → signed t n ≡ neg_ℚ (whole constant) → w ≡ whole (pos g) → IsBounding constant g Div n w
bounding_is constant g true n w h is =
    let same : n ≡ whole constant =
    solve (n ∷ []) (var 0) (con (pos 0) ⊖ (con (pos 0) ⊖ var 0)) refl ∙ ap neg_ℚ h ∙ solve (whole constant ∷ []) (con (pos 0) ⊖ (con (pos 0) ⊖ var 0)) (var 0) refl in
    subst (λ x. IsBounding constant g Div x w) (sym same) (subst (λ y. IsBounding constant g Div (whole constant) y) (sym is) (IsBounding.quotient constant (inl refl)))
bounding_is constant g false n w h is =
    let same : n ≡ whole (neg_ℤ constant) = h ∙ sym (turned_whole true constant) in
    subst (λ x. IsBounding constant g Div x w) (sym same) (subst (λ y. IsBounding constant g Div (whole (neg_ℤ constant)) y) (sym is) (IsBounding.quotient (neg_ℤ constant) (inr refl)))

size_turned : (t : Bool) (n : ℤ) → unsigned_abs (turned_by t n) ≡ unsigned_abs n
size_turned true n = omega (arith, ints)
size_turned false n = refl

divides_turned : (t : Bool) (d : ℕ) (parts made : Parts) → IsTurned t parts made → DividesAll d made → DividesAll d parts
divides_turned t d [] [] h a = tt
divides_turned t d [] (q ∷ qs) h a = absurd h
divides_turned t d (p ∷ ps) [] h a = absurd h
divides_turned t d (p ∷ ps) (q ∷ qs) h a = (subst (λ n. d ∣ n) (ap unsigned_abs h.1 ∙ size_turned t p.1) a.0, divides_turned t d ps qs h.2 a.1)

divides_turning : (t : Bool) (d : ℕ) (parts made : Parts) → IsTurned t parts made → DividesAll d parts → DividesAll d made
divides_turning t d [] [] h a = tt
divides_turning t d [] (q ∷ qs) h a = absurd h
divides_turning t d (p ∷ ps) [] h a = absurd h
divides_turning t d (p ∷ ps) (q ∷ qs) h a = (subst (λ n. d ∣ n) (sym (ap unsigned_abs h.1 ∙ size_turned t p.1)) a.0, divides_turning t d ps qs h.2 a.1)

pub divisor_turned : (t : Bool) (g : ℕ) (parts made : Parts) → IsTurned t parts made → DividesAll g made → IsGreatest g made → IsDivisorOf parts g
divisor_turned t g parts made h divides greatest = record {
  divides = divides_turned t g parts made h divides;
  greatest = λ e all. greatest e (divides_turning t e parts made h all);
}

-- ---- forms
-- the sum of a form's first members and its next one
pub lining_sum : (lines : List (List Entry)) (parts : Parts) (i term : ℕ) (coefficient : ℤ) (left right : List Entry) (times : ℚ) → slice_get parts i ≡ Some (term, coefficient)
    → IsLine left → ((x : Valuation) → combine x left ≡ sum_at (λ t. combine x (line_at lines t)) (take i parts)) → right ≡ line_at lines term → IsLine (line_at lines term)
    → times ≡ whole coefficient → Among (IsLineSum left times right) (IsLining lines parts)
lining_sum lines parts i term coefficient left right times at ascends sum is line same op x y (IsLineSum.product k f there) =
    let here : slice_get (line_at lines term) k ≡ Some f = subst (λ (es : List Entry). slice_get es k ≡ Some f) is there in
    let factor : factor_of (line_at lines term) f.variable ≡ value_of f.factor = entry_is (line_at lines term) 0 k f line here in
    record {
      variable = f.variable;
      line = term;
      some = λ z. entry_apart (line_at lines term) 0 k f line here (sym factor ∙ z);
      sums =
          let v : Valuation = λ t. factor_of (line_at lines t) f.variable in
          subst (λ a. IsSummed v parts Mul a (value_of f.factor)) (sym same) (subst (λ b. IsSummed v parts Mul (whole coefficient) b) factor (IsSummed.product i term coefficient at));
    }
lining_sum lines parts i term coefficient left right times at ascends sum is line same op x y (IsLineSum.sum h k d f first there equal) =
    let here : slice_get (line_at lines term) k ≡ Some f = subst (λ (es : List Entry). slice_get es k ≡ Some f) is there in
    let factor : factor_of (line_at lines term) f.variable ≡ value_of f.factor = entry_is (line_at lines term) 0 k f line here in
    let own : factor_of left f.variable ≡ value_of d.factor = subst (λ j. factor_of left j ≡ value_of d.factor) equal (entry_is left 0 h d ascends first) in
    record {
      variable = f.variable;
      line = term;
      some = λ z. entry_apart (line_at lines term) 0 k f line here (sym factor ∙ z);
      sums =
          let v : Valuation = λ t. factor_of (line_at lines t) f.variable in
          subst (λ a. IsSummed v parts Add a (times *ℚ value_of f.factor)) (sym (sum (unit f.variable)) ∙ own)
          (subst (λ b. IsSummed v parts Add (sum_at v (take i parts)) b) (ap₂ (λ s t. s *ℚ t) (sym same) factor) (IsSummed.sum i term coefficient at));
    }
