-- Paths: the facts that were taken so far, and the choices that are open, each numbered from 1.
use Rattle.std.specs.Prelude.{◌≡◌, ℕ, zero, suc, Bool, true, false, List, [], ◌∷◌, ◌++◌, Option, None, slice_get}
use Rattle.lq_logic_rows.specs.Row.{Row}
use Rattle.lq_logic_predicates.specs.ClosedImplication.{ClosedImplication}
use Rattle.lq_logic_predicates.specs.Formula.{Formula}
use Rattle.lq_logic_predicates.specs.Reading.{Reading, yes, no, row, flag_is, objects_are, all_of, any_of, Readings, none, more, reading_of, Gathers}
use Rattle.lq_logic_predicates.specs.Sum.{Sum}
use Rattle.lq_logic_predicates.specs.declared.symbol.Symbol.{Symbol}

-- a row, a flag with its value, whether two objects are one, or what never holds
pub data Fact : Type 0 where
  row_fact : Row → Fact
  flag_fact : Symbol → Bool → Fact
  objects_fact : Sum → Sum → Bool → Fact
  never : Fact

pub record Path : Type 0 where
  pub facts : List Fact
  pub choices : List (Readings Row)

abbrev pub nothing : Path
nothing = record { facts = []; choices = [] }

-- the path with one fact more, and with one choice more
abbrev pub with_fact : Path → Fact → Path
with_fact p f = record { facts = p.facts ++ f ∷ []; choices = p.choices }

abbrev pub with_choice : Path → Readings Row → Path
with_choice p rs = record { facts = p.facts; choices = p.choices ++ rs ∷ [] }

-- the path with these rows as its next facts
abbrev pub with_rows : Path → List Row → Path
with_rows p [] = p
with_rows p (r ∷ rs) = with_rows (with_fact p (row_fact r)) rs

-- The path with a reading taken. A literal and `no` each become the next fact, `yes` adds nothing, all of some readings are taken in
-- order, any of some readings is the next choice.
abbrev mutual
  pub taken : Path → Reading Row → Path
  taken p yes = p
  taken p no = with_fact p never
  taken p (row r) = with_fact p (row_fact r)
  taken p (flag_is x sign) = with_fact p (flag_fact x sign)
  taken p (objects_are a b sign) = with_fact p (objects_fact a b sign)
  taken p (all_of rs) = each_taken p rs
  taken p (any_of rs) = with_choice p rs

  pub each_taken : Path → Readings Row → Path
  each_taken p none = p
  each_taken p (more r rs) = each_taken (taken p r) rs

abbrev pub list_taken : Path → List (Reading Row) → Path
list_taken p [] = p
list_taken p (r ∷ rs) = list_taken (taken p r) rs

-- the item of this number, counted from 1
abbrev pub numbered_at : {X : Type 0} → List X → ℕ → Option X
numbered_at xs zero = None
numbered_at xs (suc k) = slice_get xs k

-- each reading of rows gathers that of a formula
abbrev pub AreReadings : List Sum → List Formula → List (Reading Row) → Type 0
AreReadings terms [] [] = Unit {0}
AreReadings terms (p ∷ ps) (r ∷ rs) = Gathers terms (reading_of true p) r × AreReadings terms ps rs
AreReadings terms [] (r ∷ rs) = ⊥
AreReadings terms (p ∷ ps) [] = ⊥

-- The opening path of an implication: the readings of its hypotheses are taken in order, then that of its negated goal. Rows
-- number their terms by the list.
pub record IsOpening (terms : List Sum) (i : ClosedImplication) (path : Path) : Type 0 where
  pub hypotheses : List (Reading Row)
  pub goal : Reading Row
  pub are_hypotheses : AreReadings terms i.hypotheses hypotheses
  pub is_goal : Gathers terms (reading_of false i.goal) goal
  pub is : path ≡ taken (list_taken nothing hypotheses) goal
