-- The truth of a predicate under a substitution is its truth under the values of the replacements.
use Rattle.std.proofs.Common.{◌≡◌, pos, ◌+ℤ◌, ◌-ℤ◌, ◌*ℤ◌, ◌==◌, ◌&&◌, ◌||◌, not, refl, ap, ap₂}
use Rattle.lq_logic_predicates.specs.Sum.{Sum, whole, var, neg, add, sub, mul, div, rem, len, measure}
use Rattle.lq_logic_predicates.specs.Formula.{Formula, truth, falsity, flag, compare, objects, negation, conjunction, disjunction, equivalence}
use Rattle.lq_logic_predicates.specs.Truth.{Meaning, object_of, term_value, truth_of, quotient, remainder, compares, same_truth}
use Rattle.lq_refined_types.specs.Parts.Substitution.{Subst, sum_by, formula_by}
use Rattle.lq_refined_types.specs.Parts.Values.{meaning_by}

object-by : (m : Meaning) (θ : Subst) (t : Sum) → object_of m (sum_by θ t) ≡ object_of (meaning_by m θ) t
object-by m θ (whole n) = refl
object-by m θ (var x) = refl
object-by m θ (neg a) = refl
object-by m θ (add a b) = refl
object-by m θ (sub a b) = refl
object-by m θ (mul a b) = refl
object-by m θ (div a b) = refl
object-by m θ (rem a b) = refl
object-by m θ (len a) = refl
object-by m θ (measure f a) = refl

pub value-by : (m : Meaning) (θ : Subst) (t : Sum) → term_value m (sum_by θ t) ≡ term_value (meaning_by m θ) t
value-by m θ (whole n) = refl
value-by m θ (var x) = refl
value-by m θ (neg a) = ap (λ n. pos 0 -ℤ n) (value-by m θ a)
value-by m θ (add a b) = ap₂ (λ k n. k +ℤ n) (value-by m θ a) (value-by m θ b)
value-by m θ (sub a b) = ap₂ (λ k n. k -ℤ n) (value-by m θ a) (value-by m θ b)
value-by m θ (mul a b) = ap₂ (λ k n. k *ℤ n) (value-by m θ a) (value-by m θ b)
value-by m θ (div a b) = ap₂ quotient (value-by m θ a) (value-by m θ b)
value-by m θ (rem a b) = ap₂ remainder (value-by m θ a) (value-by m θ b)
value-by m θ (len a) = ap m.length (object-by m θ a)
value-by m θ (measure f a) = ap (m.measured f) (object-by m θ a)

pub truth-by : (m : Meaning) (θ : Subst) (p : Formula) → truth_of m (formula_by θ p) ≡ truth_of (meaning_by m θ) p
truth-by m θ truth = refl
truth-by m θ falsity = refl
truth-by m θ (flag x) = refl
truth-by m θ (compare o a b) = ap₂ (compares o) (value-by m θ a) (value-by m θ b)
truth-by m θ (objects a b) = ap₂ (λ k n. k == n) (object-by m θ a) (object-by m θ b)
truth-by m θ (negation p) = ap not (truth-by m θ p)
truth-by m θ (conjunction p q) = ap₂ (λ a b. a && b) (truth-by m θ p) (truth-by m θ q)
truth-by m θ (disjunction p q) = ap₂ (λ a b. a || b) (truth-by m θ p) (truth-by m θ q)
truth-by m θ (equivalence p q) = ap₂ same_truth (truth-by m θ p) (truth-by m θ q)
