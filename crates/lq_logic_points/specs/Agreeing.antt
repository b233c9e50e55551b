-- Terms of a list that agree at a point.
use Rattle.std.specs.Prelude.{◌≡◌, ℕ, ◌<◌, true, List, Some, slice_get}
use Rattle.lq_logic_predicates.specs.Sum.{Sum}
use Rattle.lq_logic_predicates.specs.Table.{has_term}
use Rattle.lq_logic_predicates.specs.Points.{Point}
use Rattle.lq_logic_predicates.specs.ClosedImplication.{Agree}
use Rattle.lq_logic_points.specs.Arguments.{HasArguments}

-- the n-th term agrees with each one before it
abbrev pub AgreesBefore : Point → List Sum → ℕ → Type 0
AgreesBefore p terms n = (i : ℕ) (s t : Sum) → i < n → slice_get terms i ≡ Some s → slice_get terms n ≡ Some t → Agree p s t

abbrev pub AllAgree : Point → List Sum → Type 0
AllAgree p terms = (s t : Sum) → has_term terms s ≡ true → has_term terms t ≡ true → Agree p s t

-- the table has the arguments of each term of the list
abbrev pub HasAllArguments : List Sum → List Sum → Type 0
HasAllArguments table terms = (k : ℕ) (t : Sum) → slice_get terms k ≡ Some t → HasArguments table t
