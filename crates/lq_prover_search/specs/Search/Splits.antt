-- What is split, and what a split adds.
use Rattle.std.specs.Prelude.{◌≡◌, ◌⊎◌, ℕ, true, false, List, Some, slice_get}
use Rattle.lq_logic_rows.specs.Row.{Valuation}
use Rattle.lq_prover_search.specs.Path.Meeting.{IsPastInAny}
use Rattle.lq_prover_search.specs.declared.path.choice.Choice.{Choice}
use Rattle.lq_logic_predicates.specs.NnfView.{nnfs_view}
use Rattle.lq_logic_predicates.specs.Points.{Point}
use Rattle.lq_logic_predicates.specs.RowMeaning.{MeetsAnyRow}
use Rattle.lq_prover_search.specs.declared.pruning.span.Span.{Span}

-- so many numbers behind so many others
abbrev pub span : ℕ → ℕ → Span
span before count = record { before = before; count = count }

-- one of the readings was taken, or is met
abbrev pub IsDoneOrMet : Valuation → Point → Choice → Type 0
IsDoneOrMet v p c = (c.is_done ≡ true) ⊎ MeetsAnyRow v p (nnfs_view c.members.now)

-- the choice at an index, of which no reading was taken
pub record IsOpen (choices : List Choice) (at : ℕ) : Type 0 where
  pub choice : Choice
  pub here : slice_get choices at ≡ Some choice
  pub open_still : choice.is_done ≡ false

-- the choice at an index, of which no reading is met; one that is met may be hidden by an operation past 128 bits
pub record IsUnmet (v : Valuation) (p : Point) (choices : List Choice) (at : ℕ) : Type 0 where
  pub choice : Choice
  pub here : slice_get choices at ≡ Some choice
  pub unmet : MeetsAnyRow v p (nnfs_view choice.members.now) → IsPastInAny v (nnfs_view choice.members.now)
