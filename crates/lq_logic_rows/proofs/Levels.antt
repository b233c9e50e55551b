-- The level of a row, member by member.
use Rattle.std.proofs.Common.{◌≡◌, ℕ, ℤ, pos, ◌+◌, ◌<◌, length, List, [], ◌∷◌, ◌++◌, take, get_or, slice_get, Some, Result, Ok, Err, IfErr, sym, ap, subst, ◌∙◌}
use Rattle.std.proofs.lemmas.List.{take_more}
use Rattle.std.proofs.lemmas.Option.{slice_get-get_or}
use Rattle.lq_base_numbers.specs.Rationals.Rational.{whole, ◌+ℚ◌, ◌*ℚ◌}
use Rattle.lq_base_numbers.specs.Rationals.RationalRing.{+ℚ_comm, +ℚ_assoc}
use Rattle.lq_base_numbers.specs.declared.fractions.frac.Frac.{Frac}
use Rattle.lq_base_numbers.specs.Fractions.Value.{value_of}
use Rattle.lq_logic_rows.specs.Row.{Valuation, sum_at}
use Rattle.lq_logic_rows.specs.Steps.{value_or_zero, valuation_of}

sum_at-push : (v : Valuation) (parts : List (ℕ × ℤ)) (p : ℕ × ℤ) → sum_at v (parts ++ p ∷ []) ≡ sum_at v parts +ℚ whole p.1 *ℚ v p.0
sum_at-push v [] p = +ℚ_comm (whole p.1 *ℚ v p.0) (whole (pos 0))
sum_at-push v (q ∷ parts) p =
    ap (λ x. whole q.1 *ℚ v q.0 +ℚ x) (sum_at-push v parts p) ∙ sym (+ℚ_assoc (whole q.1 *ℚ v q.0) (sum_at v parts) (whole p.1 *ℚ v p.0))

pub sum_at-more : (v : Valuation) (parts : List (ℕ × ℤ)) (i : ℕ) (d : ℕ × ℤ) → i < length parts
    → sum_at v (take (i + 1) parts) ≡ sum_at v (take i parts) +ℚ whole (get_or parts i d).1 *ℚ v (get_or parts i d).0
sum_at-more v parts i d h = ap (sum_at v) (take_more parts i d h) ∙ sum_at-push v (take i parts) (get_or parts i d)

pub value_there : (values : List Frac) (q : ℕ) (f : Frac) → q < length values → f ≡ get_or values q f → valuation_of values q ≡ value_of f
value_there values q f h e = ap value_or_zero (slice_get-get_or values q f h ∙ ap Some (sym e))

pub member_there : (parts : List (ℕ × ℤ)) (i : ℕ) (d : ℕ × ℤ) → i < length parts → slice_get parts i ≡ Some ((get_or parts i d).0, (get_or parts i d).1)
member_there parts i d h = slice_get-get_or parts i d h

-- what holds of the operands that an error carries holds of the error
pub carried : {X E : Type 0} (P : E → Type 0) (r : Result X E) (e : E) → IfErr r (λ x. x ≡ e) → P e → IfErr r P
carried P (Ok x) e h p = tt
carried P (Err x) e h p = subst P (sym h) p
