-- The example with a generalised definition is scalar.
use Rattle.std.proofs.Common.{inl, ℕ, ◌<◌, ◌^◌, arith, refl}
use Rattle.lq_sound_scope.specs.Scalars.GeneralExample.{GeneralExampleIsScalar}

below : (x : ℕ) → x < 11 → x < 2 ^ 31
below x h = omega (arith, h)

pub general_scalar : GeneralExampleIsScalar
general_scalar = (
  (
    ((tt, tt), inl tt),
    (
      (tt, inl tt),
      (
        ((tt, tt), inl tt),
        ((((tt, tt), ((tt, tt), ((tt, tt), ((tt, tt), tt)))), tt), tt),
      ),
    ),
  ),
  (below 1 (omega arith), (below 2 (omega arith), (below 0 (omega arith), (below 4 (omega arith), (below 3 (omega arith), (below 6 (omega arith), (below 5 (omega arith), (below 7 (omega arith), (below 8 (omega arith), (below 9 (omega arith), (below 10 (omega arith), tt))))))))))),
  (
    (tt, tt),
    (tt, ((tt, tt), (((refl, tt), ((tt, tt), ((refl, tt), ((tt, tt), tt)))), tt))),
  ),
  refl,
  refl,
)
