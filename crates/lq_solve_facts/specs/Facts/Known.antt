-- When what is known holds at a point, and what is read of hypotheses.
use Rattle.std.specs.Prelude.{◌≡◌, ℕ, ◌≤◌, true, List, length, map, take}
use Rattle.lq_prover_case.specs.State.RowState.{is_solved, row_point}
use Rattle.lq_prover_proof_tree.specs.Trees.Met.{AllHold}
use Rattle.lq_logic_rows.specs.Row.{Row, Valuation}
use Rattle.lq_logic_predicates.specs.Formula.{Formula}
use Rattle.lq_logic_predicates.specs.Points.{Meets, Point}
use Rattle.lq_logic_predicates.specs.Reading.{Reading, reading_of}
use Rattle.lq_logic_predicates.specs.RowMeaning.{AgreesOn}
use Rattle.lq_logic_predicates.specs.Sum.{Sum}
use Rattle.lq_logic_predicates.specs.Table.{Extends}
use Rattle.lq_logic_predicates.specs.TableView.{terms_of}
use Rattle.lq_solve_facts.specs.Facts.Facts.{facts_of}
use Rattle.lq_solve_facts.specs.Facts.Plain.{IsPlain}
use Rattle.lq_solve_facts.specs.Facts.Read.{IsReadOver, hypothesis_reading}
use Rattle.lq_solve_facts.specs.Facts.Values.{HasFlags, MeetsEachRow}
use Rattle.lq_solve_facts.specs.declared.facts.known.Known.{Known}
use Rattle.lq_solve_facts.specs.declared.facts.read.ReadPred.{ReadPred}

-- the facts hold at the point, of whatever numbers gives each term its own there
abbrev pub Hold : Known → Point → Type 0
Hold k p = (v : Valuation) → AgreesOn (terms_of k.table) v p → AllHold v p (facts_of k.state)

-- the first n facts hold there
abbrev pub HoldFirst : ℕ → Known → Point → Type 0
HoldFirst n k p = (v : Valuation) → AgreesOn (terms_of k.table) v p → AllHold v p (take n (facts_of k.state))

-- how many facts there are
abbrev pub fact_count : Known → ℕ
fact_count k = length (facts_of k.state)

-- the readings of the hypotheses in order
abbrev pub readings_of : Known → List (Reading Row)
readings_of k = map (λ r. hypothesis_reading r.value) k.readings.items

-- The first facts hold where they held, and others may have come behind them. The first readings and terms are those that were there.
pub record Keeps (old new : Known) : Type 0 where
  pub count : fact_count old ≤ fact_count new
  pub first : (n : ℕ) (p : Point) → n ≤ fact_count old → HoldFirst n old p → HoldFirst n new p
  pub reading_count : length (readings_of old) ≤ length (readings_of new)
  pub readings : (n : ℕ) → n ≤ length (readings_of old) → take n (readings_of new) ≡ take n (readings_of old)
  pub terms : Extends (terms_of old.table) (terms_of new.table)

-- where the readings are met now, those before are met, and the hypothesis is, which is plain
abbrev pub IsRead : Known → Known → Formula → Type 0
IsRead old new h =
    (v : Valuation) (p : Point) → AgreesOn (terms_of new.table) v p → MeetsEachRow v p (readings_of new) → MeetsEachRow v p (readings_of old) × (Meets p (reading_of true h) × IsPlain h)

-- the formula was read so, over the terms that are known
abbrev pub IsReadOf : Known → ReadPred → Formula → Type 0
IsReadOf k r h = IsReadOver (terms_of k.table) r h

-- values are known that solve the rows among the facts
abbrev pub IsSettled : Known → Type 0
IsSettled k = is_solved k.state.rows ≡ true

-- the point has these values for its terms, and the flags that facts give, where one that none gives is false
pub record IsAt (k : Known) (p : Point) : Type 0 where
  pub terms : AgreesOn (terms_of k.table) (row_point k.state.rows) p
  pub flags : HasFlags k.state p

-- there is a point at the values, whose objects are of these classes
pub record HasPoint (k : Known) (class_of : Sum → ℕ) : Type 0 where
  pub point : Point
  pub at : IsAt k point
  pub classes : point.class_of ≡ class_of
