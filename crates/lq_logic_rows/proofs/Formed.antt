-- Operations that were formed are none that is past 128 bits.
use Rattle.std.proofs.Common.{◌≡◌, ℕ, ℤ, ◌<◌, length, List, take, slice_get, Some, Result, Ok, Err, IfOk, refl, sym, ap, ap₂, subst, ◌∙◌, FitsSigned}
use Rattle.std.proofs.lemmas.Option.{slice_get_within}
use Rattle.std.specs.Int.{w128}
use Rattle.lq_base_numbers.specs.Rationals.NumberForms.{HasSumForm, HasNoSumForm}
use Rattle.lq_base_numbers.specs.Rationals.Lcm.{lcm_exists}
use Rattle.lq_base_numbers.specs.Rationals.Rational.{ℚ, whole, ◌*ℚ◌}
use Rattle.lq_base_numbers.specs.declared.fractions.frac.Frac.{Frac}
use Rattle.lq_base_numbers.specs.declared.fractions.past.NumOp.{NumOp}
use Rattle.lq_base_numbers.specs.declared.fractions.past.NumOp.TheVariants.{Add, Mul}
use Rattle.lq_base_numbers.specs.Fractions.Past.{IsPastBy}
use Rattle.lq_base_numbers.specs.Fractions.Value.{value_of, numer_of, denom_of, fraction_once}
use Rattle.lq_logic_rows.specs.Row.{Row, Valuation, sum_at}
use Rattle.lq_logic_rows.specs.Steps.{IsStep, member_product, member_sum, constant_sum, IsFormed}

-- the operation on fractions of these values isn't past
abbrev pub HasForm : NumOp → ℚ → ℚ → Type 0
HasForm op x y = (f g : Frac) → value_of f ≡ x → value_of g ≡ y → ¬ IsPastBy op f g

pub product_formed : (h : Frac) (x y : ℚ) → FitsSigned w128 (numer_of h) → value_of h ≡ x *ℚ y → HasForm Mul x y
product_formed h x y fits e f g p q past =
    past (numer_of h) (denom_of h) (record { positive = h.positive; lowest = h.lowest; same = e ∙ ap₂ (λ a b. a *ℚ b) (sym p) (sym q); numer_fits = fits; denom_fits = h.small })

both_forms : (a b : Frac) → HasSumForm (numer_of a) (numer_of b) (denom_of a) (denom_of b) → HasNoSumForm (numer_of a) (numer_of b) (denom_of a) (denom_of b) → ⊥
both_forms a b h n = let m = lcm_exists (denom_of a) (denom_of b) a.positive b.positive in n m.0 m.1 (h m.0 m.1)

pub sum_formed : (a b : Frac) → HasSumForm (numer_of a) (numer_of b) (denom_of a) (denom_of b) → HasForm Add (value_of a) (value_of b)
sum_formed a b h f g p q past =
    both_forms a b h (subst (λ x. HasNoSumForm (numer_of x) (numer_of b) (denom_of x) (denom_of b)) (fraction_once f a p) (subst (λ y. HasNoSumForm (numer_of f) (numer_of y) (denom_of f) (denom_of y)) (fraction_once g b q) past))

-- both operations of a member
abbrev pub MemberFormed : Valuation → List (ℕ × ℤ) → ℕ → Type 0
MemberFormed v parts k = (term : ℕ) (coefficient : ℤ) → slice_get parts k ≡ Some (term, coefficient)
    → HasForm Mul (whole coefficient) (v term) × HasForm Add (sum_at v (take k parts)) (whole coefficient *ℚ v term)

-- the members before the n-th
abbrev pub FormedBelow : Valuation → List (ℕ × ℤ) → ℕ → Type 0
FormedBelow v parts n = (k : ℕ) → k < n → MemberFormed v parts k

pub one_formed : (v : Valuation) (parts : List (ℕ × ℤ)) (k : ℕ) (p : ℕ × ℤ) → slice_get parts k ≡ Some p → HasForm Mul (whole p.1) (v p.0)
    → HasForm Add (sum_at v (take k parts)) (whole p.1 *ℚ v p.0) → MemberFormed v parts k
one_formed v parts k p e m a term coefficient h =
    let q : p ≡ (term, coefficient) = cc in let t : p.0 ≡ term = ap (λ r. r.0) q in let c : p.1 ≡ coefficient = ap (λ r. r.1) q in
    (λ f g x y. m f g (x ∙ ap whole (sym c)) (y ∙ ap v (sym t)), λ f g x y. a f g x (y ∙ ap₂ (λ n q. whole n *ℚ v q) (sym c) (sym t)))

step_formed : (v : Valuation) (row : Row) → FormedBelow v row.parts (length row.parts) → HasForm Add (sum_at v row.parts) (whole row.constant)
    → (op : NumOp) (x y : ℚ) → IsStep v row op x y → HasForm op x y
step_formed v row below last _ _ _ (member_product k term coefficient h) = (below k (slice_get_within row.parts k (term, coefficient) h) term coefficient h).0
step_formed v row below last _ _ _ (member_sum k term coefficient h) = (below k (slice_get_within row.parts k (term, coefficient) h) term coefficient h).1
step_formed v row below last _ _ _ constant_sum = last

pub row_formed : (v : Valuation) (row : Row) → FormedBelow v row.parts (length row.parts) → HasForm Add (sum_at v row.parts) (whole row.constant) → IsFormed v row
row_formed v row below last e step past = step_formed v row below last e.op (value_of e.left) (value_of e.right) step e.left e.right refl refl past

-- what follows from an Ok
pub kept : {X E : Type 0} (P Q : Type 0) (r : Result X E) → IfOk r (λ _. P) → (P → Q) → IfOk r (λ _. Q)
kept P Q (Ok x) h f = f h
kept P Q (Err x) h f = tt
