-- An operation that needs small numbers alone has a form of 128 bits.
use Rattle.std.proofs.Common.{ℕ, ℤ, ◌<◌, ◌≤◌, ◌^◌, arith, unsigned_abs, FitsSigned}
use Rattle.std.proofs.Math.IntN.{◌+ℤ◌, ◌-ℤ◌}
use Rattle.std.specs.Int.{w128}
use Rattle.std.proofs.lemmas.Int.{ints}
use Rattle.lq_base_numbers.specs.Rationals.Lcm.{lcm_exists}
use Rattle.lq_base_numbers.specs.Rationals.LowestTerms.{IsLowest, lowest_terms}
use Rattle.lq_base_numbers.specs.Rationals.NumberForms.{HasNoForm, HasNoFormBy}
use Rattle.lq_base_numbers.specs.Rationals.Rational.{ℚ}
use Rattle.lq_base_numbers.specs.Fractions.Past.{IsPastBy}
use Rattle.lq_base_numbers.specs.Fractions.Value.{value_of, numer_of, denom_of, lowest_of}
use Rattle.lq_base_numbers.specs.declared.fractions.frac.Frac.{Frac}
use Rattle.lq_base_numbers.specs.declared.fractions.past.NumOp.{NumOp}
use Rattle.lq_base_numbers.specs.declared.fractions.past.NumOp.TheVariants.{Add, Sub, Mul, Div, Neg}
use Rattle.lq_prover_pivots.specs.Work.Needs.{LowestWithin, TogetherWithin, Needs}
use Rattle.lq_prover_pivots.specs.Work.Laws.{SmallFit}

fits : (n : ℕ) (z : ℤ) → n < 2 ^ 127 → unsigned_abs z ≤ n → FitsSigned w128 z
fits n z l h = omega (arith, ints)

lowest_fits : (n d : ℕ) (x : ℚ) → n < 2 ^ 127 → d < 2 ^ 127 → LowestWithin n d x → ¬ HasNoForm x
lowest_fits n d x l m within none =
    let p = lowest_terms x in
    let low : IsLowest x p.0.0 p.0.1 = p.1 in
    let w = within p.0.0 p.0.1 low in
    let below = w.below in
    none p.0.0 p.0.1 (record {
      positive = low.positive;
      lowest = low.lowest;
      same = low.same;
      numer_fits = fits n p.0.0 l w.above;
      denom_fits = omega arith;
    })

together_fit : (n d : ℕ) (op : ℤ → ℤ → ℤ) (f g : Frac) → n < 2 ^ 127 → d < 2 ^ 127 → TogetherWithin n d op (value_of f) (value_of g)
    → ¬ HasNoFormBy op (numer_of f) (numer_of g) (denom_of f) (denom_of g)
together_fit n d op f g l m within none =
    let p = lowest_of f in
    let q = lowest_of g in
    let least = lcm_exists (denom_of f) (denom_of g) p.positive q.positive in
    let w = within (numer_of f) (numer_of g) (denom_of f) (denom_of g) least.0 p q least.1 in
    let below = w.multiple in
    none least.0 least.1 (record {
      multiple = omega arith;
      first = fits n _ l w.first;
      second = fits n _ l w.second;
      total = fits n _ l w.total;
    })

by_operation : (n d : ℕ) (op : NumOp) (f g : Frac) → n < 2 ^ 127 → d < 2 ^ 127 → Needs n d op (value_of f) (value_of g) → ¬ IsPastBy op f g
by_operation n d Add f g l m needs = together_fit n d (λ s t. s +ℤ t) f g l m needs
by_operation n d Sub f g l m needs = together_fit n d (λ s t. s -ℤ t) f g l m needs
by_operation n d Mul f g l m needs = lowest_fits n d _ l m needs
by_operation n d Div f g l m needs = lowest_fits n d _ l m needs
by_operation n d Neg f g l m needs = lowest_fits n d _ l m needs

pub small_fit : SmallFit
small_fit n d e l m needs = by_operation n d e.op e.left e.right l m needs
