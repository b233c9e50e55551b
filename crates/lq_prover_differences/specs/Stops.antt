-- An operation on whole numbers that has no result within 128 bits.
use Rattle.std.specs.Prelude.{◌≡◌, ◌≤◌, ℕ}
use Rattle.lq_logic_rows.specs.declared.engine.LinearStop.{LinearStop}
use Rattle.lq_logic_rows.specs.declared.engine.LinearStop.TheVariants.{Number, Pivots, Memory}
use Rattle.lq_base_numbers.specs.Fractions.Past.{IsPast}
use Rattle.lq_base_numbers.specs.Fractions.Value.{denom_of}
use Rattle.lq_base_numbers.specs.declared.fractions.past.NumberPast.{NumberPast}
use Rattle.lq_logic_rows.specs.declared.limits.TheConstants.{SUM_LIMIT}

pub record IsWholePast (e : NumberPast) : Type 0 where
  pub past : IsPast e
  pub left : denom_of e.left ≡ 1
  pub right : denom_of e.right ≡ 1

-- such an operation where the sizes sum to n, at least the limit
abbrev pub PastBy : ℕ → LinearStop → Type 0
PastBy n (Number e) = IsWholePast e × (SUM_LIMIT ≤ n)
PastBy n (Pivots k) = ⊥
PastBy n Memory = ⊥

-- want of memory, or such an operation: the stops of a caller that takes memory besides
abbrev pub StopsBy : ℕ → LinearStop → Type 0
StopsBy n (Number e) = IsWholePast e × (SUM_LIMIT ≤ n)
StopsBy n (Pivots k) = ⊥
StopsBy n Memory = Unit {0}
