-- For which chosen instances facts that are kept are right.
use Rattle.std.specs.Prelude.{◌≡◌, ℕ, ◌≤◌, List, Some, length, slice_get, take}
use Rattle.lq_refined_substitution.specs.Implications.Views.{environment_in}
use Rattle.lq_solve_facts.specs.Facts.Known.{Hold, HoldFirst, fact_count, readings_of}
use Rattle.lq_solve_facts.specs.Facts.Values.{MeetsEachRow}
use Rattle.lq_solve_facts.specs.declared.facts.known.Known.{Known}
use Rattle.lq_logic_rows.specs.Row.{Row, Valuation}
use Rattle.lq_solve_facts.specs.Nearest.Reading.{EachPlain}
use Rattle.lq_refined_types.specs.Parts.Assignment.{Assignment, parts_under}
use Rattle.lq_refined_types.specs.Parts.Constraint.{Constraint}
use Rattle.lq_refined_types.specs.Parts.Part.{Parts}
use Rattle.lq_refined_types.specs.Parts.Refuting.{Speak}
use Rattle.lq_logic_predicates.specs.ClosedImplication.{MeetsEach}
use Rattle.lq_logic_predicates.specs.Points.{Point}
use Rattle.lq_logic_predicates.specs.Reading.{Reading}
use Rattle.lq_logic_predicates.specs.RowMeaning.{AgreesOn}
use Rattle.lq_logic_predicates.specs.TableView.{terms_of}
use Rattle.lq_solve_facts.specs.Store.Places.{formula_at}
use Rattle.lq_solve_facts.specs.Store.Store.{AreStored}
use Rattle.lq_solve_facts.specs.declared.store.kept.Kept.{Kept}
use Rattle.lq_solve_facts.specs.declared.store.level.Level.{Level}

-- where the hypotheses of the level's environment are met, the facts up to its mark hold
abbrev pub HoldsAt : Assignment → List Parts → Known → Level → Type 0
HoldsAt A es known l = (p : Point) → MeetsEach p (parts_under A (environment_in es l.env)) → HoldFirst l.mark known p

-- where these readings are met, the parts are, and these are plain
abbrev pub AreTold : Assignment → Known → List (Reading Row) → Parts → Type 0
AreTold A known readings parts =
    (v : Valuation) (p : Point) → AgreesOn (terms_of known.table) v p → MeetsEachRow v p readings → MeetsEach p (parts_under A parts) × EachPlain (parts_under A parts)

-- the first readings, up to those of the level, tell the hypotheses of its environment
abbrev pub ReadsAt : Assignment → List Parts → Known → Level → Type 0
ReadsAt A es known l = AreTold A known (take l.readings (readings_of known)) (environment_in es l.env)

-- a level notes the unknown, and is none of those after the first so many
pub record IsNoted (levels : List Level) (count u : ℕ) : Type 0 where
  pub at : ℕ
  pub level : Level
  pub before : at ≤ count
  pub here : slice_get levels at ≡ Some level
  pub is : level.unknown ≡ Some u

-- the level's facts and readings are among those that are known
pub record IsWithin (known : Known) (l : Level) : Type 0 where
  pub mark : l.mark ≤ fact_count known
  pub readings : l.readings ≤ length (readings_of known)

-- the one has no more facts and readings than the other
pub record AreRising (l m : Level) : Type 0 where
  pub mark : l.mark ≤ m.mark
  pub readings : l.readings ≤ m.readings

-- Facts and readings rise from level to level, up to those that are known. Up to each level the facts hold, the readings tell its
-- hypotheses, and each unknown among these is noted.
pub record AreRight (A : Assignment) (es : List Parts) (known : Known) (levels : List Level) : Type 0 where
  pub within : (i : ℕ) (l : Level) → slice_get levels i ≡ Some l → IsWithin known l
  pub rises : (i j : ℕ) (l m : Level) → i ≤ j → slice_get levels i ≡ Some l → slice_get levels j ≡ Some m → AreRising l m
  pub holds : (i : ℕ) (l : Level) → slice_get levels i ≡ Some l → HoldsAt A es known l
  pub reads : (i : ℕ) (l : Level) → slice_get levels i ≡ Some l → ReadsAt A es known l
  pub named : (i : ℕ) (l : Level) → slice_get levels i ≡ Some l → (u : ℕ) → Speak u (environment_in es l.env) → IsNoted levels i u

-- where the hypotheses of the environment are met, the facts hold; the readings tell these, and each unknown among them is noted
pub record AreThere (A : Assignment) (es : List Parts) (known : Known) (levels : List Level) (env : ℕ) : Type 0 where
  pub holds : (p : Point) → MeetsEach p (parts_under A (environment_in es env)) → Hold known p
  pub reads : AreTold A known (readings_of known) (environment_in es env)
  pub named : (u : ℕ) → Speak u (environment_in es env) → IsNoted levels (length levels) u

-- what is kept is right where unknowns stand for this, of environments with these hypotheses
abbrev pub IsKeptFor : Assignment → List Parts → Kept → Type 0
IsKeptFor A es k = AreRight A es k.known k.levels.items

-- each stored reading is that of the formula at its place and number, where unknowns have these instances, environments these hypotheses,
-- and implications are these constraints
abbrev pub HasReadings : Assignment → List Parts → List Constraint → Kept → Type 0
HasReadings I es cs k = AreStored (formula_at I es cs) k.known k.store

-- the facts and readings of the environment are there
abbrev pub Stands : Assignment → List Parts → Kept → ℕ → Type 0
Stands A es k env = AreThere A es k.known k.levels.items env

-- they stand for the same, but for one unknown
abbrev pub AreAlike : ℕ → Assignment → Assignment → Type 0
AreAlike u A B = (w : ℕ) → (w ≡ u → ⊥) → A w ≡ B w
