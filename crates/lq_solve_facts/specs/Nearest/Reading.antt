-- Hypotheses that are read.
use Rattle.std.specs.Prelude.{List, [], ◌∷◌}
use Rattle.lq_solve_facts.specs.Facts.Known.{readings_of}
use Rattle.lq_solve_facts.specs.Facts.Plain.{IsPlain}
use Rattle.lq_solve_facts.specs.Facts.Values.{MeetsEachRow}
use Rattle.lq_solve_facts.specs.declared.facts.known.Known.{Known}
use Rattle.lq_logic_rows.specs.Row.{Valuation}
use Rattle.lq_logic_predicates.specs.ClosedImplication.{MeetsEach}
use Rattle.lq_logic_predicates.specs.Formula.{Formula}
use Rattle.lq_logic_predicates.specs.Points.{Point}
use Rattle.lq_logic_predicates.specs.RowMeaning.{AgreesOn}
use Rattle.lq_logic_predicates.specs.TableView.{terms_of}

abbrev pub EachPlain : List Formula → Type 0
EachPlain [] = Unit {0}
EachPlain (p ∷ ps) = IsPlain p × EachPlain ps

-- where the readings are met now, those before are met, and the hypotheses are, which are plain
abbrev pub AreRead : Known → Known → List Formula → Type 0
AreRead old new ps =
    (v : Valuation) (p : Point) → AgreesOn (terms_of new.table) v p → MeetsEachRow v p (readings_of new) → MeetsEachRow v p (readings_of old) × (MeetsEach p ps × EachPlain ps)
