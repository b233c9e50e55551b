-- Pivots by the rule of least numbers, and chains of them.
use Rattle.std.specs.Prelude.{◌≡◌, ◌≢◌, if◌then◌else◌, ℕ, suc, pos, ◌<◌, ◌≤◌, true, false, List}
use Rattle.lq_base_numbers.specs.Rationals.Rational.{ℚ, whole}
use Rattle.lq_base_numbers.specs.Rationals.OrderLaws.{is_at_most}
use Rattle.lq_logic_rows.specs.Row.{Row}
use Rattle.lq_logic_rows.specs.declared.bound.Side.{Side}
use Rattle.lq_logic_rows.specs.Bounds.{other}
use Rattle.lq_prover_pivots.specs.Pivots.Rows.{Variables, size, Gives, Breaks}
use Rattle.lq_prover_pivots.specs.Pivots.Configurations.{Configuration, Free, Basic, IsConfiguration}

-- the side to which a free one with this entry has to move where the leaving variable breaks a bound on the given side, so moves away
-- from that side: away from it too where the entry is positive, and toward it where the entry is negative
abbrev pub moves_to : Side → ℚ → Side
moves_to side entry = if is_at_most (whole (pos 0)) entry then other side else side

-- a free one whose entry isn't 0 and which stands at no bound on the side to which it must move
pub record CanEnter (vs : Variables) (rows : List Row) (c : Configuration) (leaving : ℕ) (side : Side) (j : ℕ) : Type 0 where
  pub free : Free vs c j
  pub some : ¬ (c.entry leaving j ≡ whole (pos 0))
  pub away : ¬ (Gives vs rows (moves_to side (c.entry leaving j)) j (c.value j))

-- no free one breaks a bound
abbrev pub FreeKeep : Variables → List Row → Configuration → Type 0
FreeKeep vs rows c = (j : ℕ) → Free vs c j → ¬ Breaks vs rows j (c.value j)

-- the basis member of least number that breaks a bound leaves the basis and takes that bound; the free one of least number that can
-- enters; the other free ones stay, with their values; before and after, no free one breaks a bound
pub record Pivot (vs : Variables) (rows : List Row) (old new : Configuration) : Type 0 where
  pub leaving : ℕ
  pub basic : Basic vs old leaving
  pub breaks : Breaks vs rows leaving (old.value leaving)
  pub least : (k : ℕ) → k < leaving → Basic vs old k → ¬ Breaks vs rows k (old.value k)
  pub entering : ℕ
  pub enters : CanEnter vs rows old leaving breaks.side entering
  pub first : (j : ℕ) → j < entering → ¬ CanEnter vs rows old leaving breaks.side j
  pub left : new.is_free leaving ≡ true
  pub takes : new.value leaving ≡ breaks.bound
  pub entered : new.is_free entering ≡ false
  pub others : (j : ℕ) → j < size vs → j ≢ leaving → j ≢ entering → new.is_free j ≡ old.is_free j
  pub stays : (j : ℕ) → Free vs old j → j ≢ entering → new.value j ≡ old.value j
  pub before : FreeKeep vs rows old
  pub after : FreeKeep vs rows new

-- each configuration but the first is reached from the one before by a pivot under the rows that stand
pub record IsChain (vs : Variables) (listed standing : List Row) (last : ℕ) (chain : ℕ → Configuration) : Type 0 where
  pub each : (i : ℕ) → i ≤ last → IsConfiguration vs listed (chain i)
  pub pivot : (i : ℕ) → i < last → Pivot vs standing (chain i) (chain (suc i))
