use Rattle.std.proofs.Common.{◌≡◌, ◌%◌, arith, sym, subst, ◌∙◌}
use Rattle.std.specs.Int.{IsGcd, trailing_zeros, w128}
use Rattle.std.proofs.lemmas.Nat.Gcd.{dvd_refl}
use Rattle.lq_base_numbers.proofs.FractionsLemmas.Twos.{odd_step, odd_min}
use Rattle.lq_base_numbers.proofs.fractions.divisor.long_odd_gcd.Goals as goal

pub loop-x-preserved : goal.loop-x-preserved
loop-x-preserved c =
    let before = c.loop-x.invariant in
    let least = c.min-x.ensures in (
      subst (λ n. n % 2 ≡ 1) (sym least) (odd_min _ _ before.0 before.1),
      c.long_odd_part-y.ensures.odd,
      λ g h. before.2 g (odd_step c.loop-x.x c.loop-x.y c.long_odd_part-y.result (trailing_zeros w128 c.abs_diff-apart.result) g before.0 before.1
          (c.long_odd_part-y.ensures.times ∙ c.abs_diff-apart.ensures) (subst (λ n. IsGcd n c.long_odd_part-y.result g) least h)),
    )

pub returns : goal.returns
returns c =
    let same : c.loop-x.x ≡ c.loop-x.y = grind (arith, c.loop-x-test.false) in
    c.loop-x.invariant.2 c.loop-x.x (subst (λ n. IsGcd c.loop-x.x n c.loop-x.x) same (dvd_refl _, dvd_refl _, λ d p q. p))

pub returns-then-y : goal.returns-then-y
returns-then-y c = c.loop-x.invariant.2 _ c.odd_gcd.ensures
