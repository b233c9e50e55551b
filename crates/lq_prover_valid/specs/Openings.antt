-- The readings of an implication, of which a search takes the opening path.
use Rattle.std.specs.Prelude.{◌≡◌, false, List}
use Rattle.lq_prover_proof_tree.specs.Trees.Path.{AreReadings}
use Rattle.lq_logic_rows.specs.Row.{Row}
use Rattle.lq_logic_predicates.specs.ClosedImplication.{ClosedImplication}
use Rattle.lq_logic_predicates.specs.NnfView.{readings_of}
use Rattle.lq_logic_predicates.specs.Reading.{Gathers, Reading, all_of, reading_of, none, more}
use Rattle.lq_logic_predicates.specs.Sum.{Sum}

-- two readings: all of the readings of the hypotheses in order, and that of the negated goal; rows number their terms by the list
pub record IsOpeningReading (terms : List Sum) (i : ClosedImplication) (reading : Reading Row) : Type 0 where
  pub hypotheses : List (Reading Row)
  pub goal : Reading Row
  pub are_hypotheses : AreReadings terms i.hypotheses hypotheses
  pub is_goal : Gathers terms (reading_of false i.goal) goal
  pub is : reading ≡ all_of (more (all_of (readings_of hypotheses)) (more goal none))
