-- Predicates that were read.
use Rattle.std.specs.Prelude.{◌↔◌, Bool, true, false, IsTrue, List, Option, Some, None, IfSome}
use Rattle.lq_logic_rows.specs.Row.{Row, Valuation}
use Rattle.lq_logic_predicates.specs.Formula.{Formula}
use Rattle.lq_logic_predicates.specs.NnfView.{nnf_view}
use Rattle.lq_logic_predicates.specs.Points.{Meets, Point}
use Rattle.lq_logic_predicates.specs.Reading.{Reading, no, reading_of}
use Rattle.lq_logic_predicates.specs.RowMeaning.{AgreesOn, MeetsRows}
use Rattle.lq_logic_predicates.specs.Sum.{Sum}
use Rattle.lq_logic_predicates.specs.declared.nnf.Nnf.{Nnf}
use Rattle.lq_solve_facts.specs.Facts.Plain.{IsPlain}
use Rattle.lq_solve_facts.specs.declared.facts.read.ReadPred.{ReadPred}

-- a reading over these terms, where it is there, is met exactly where the formula is, or with the sign false its negation
abbrev pub IsReading : List Sum → Option Nnf → Bool → Formula → Type 0
IsReading terms o sign h = IfSome o (λ n. (v : Valuation) (p : Point) → AgreesOn terms v p → MeetsRows v p (nnf_view n) ↔ Meets p (reading_of sign h))

-- the formula was read so, over these terms
pub record IsReadOver (terms : List Sum) (r : ReadPred) (h : Formula) : Type 0 where
  pub met : IsReading terms r.met true h
  pub against : IsReading terms r.against false h
  pub plain : IsTrue r.is_plain → IsPlain h

-- a reading of what is plain, and else one that is never met
abbrev pub reading_or_never : Bool → Option Nnf → Reading Row
reading_or_never true (Some n) = nnf_view n
reading_or_never true None = no
reading_or_never false o = no

-- what stands for a hypothesis: its reading where it is plain and could be gathered, and else one that is never met
abbrev pub hypothesis_reading : ReadPred → Reading Row
hypothesis_reading r = reading_or_never r.is_plain r.met
