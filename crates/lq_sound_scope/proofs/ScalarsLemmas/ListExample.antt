-- The example over lists is scalar.
use Rattle.std.proofs.Common.{ℕ, ◌<◌, ◌^◌, arith}
use Rattle.lq_sound_scope.specs.Scalars.ListExample.{ListExampleIsScalar}

below : (x : ℕ) → x < 8 → x < 2 ^ 31
below x h = omega (arith, h)

pub list_scalar : ListExampleIsScalar
list_scalar = (
  ((tt, (tt, (((tt, tt), (tt, tt)), tt))), (((tt, ((tt, (tt, tt)), ((tt, tt), tt))), tt), tt)),
  (
    below 0 (omega arith),
    (
      below 1 (omega arith),
      (
        below 2 (omega arith),
        (
          below 3 (omega arith),
          (below 4 (omega arith), (below 5 (omega arith), (below 6 (omega arith), (below 7 (omega arith), tt)))),
        ),
      ),
    ),
  ),
)
