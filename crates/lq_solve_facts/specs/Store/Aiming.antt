-- Goals that are refuted where the readings of the hypotheses are met.
use Rattle.std.specs.Prelude.{◌≡◌, ◌<◌, ℕ, Bool, true, false, List, length, map, Some, slice_get}
use Rattle.lq_solve_facts.specs.Facts.Known.{Hold, readings_of}
use Rattle.lq_solve_facts.specs.Facts.Plain.{IsPlain}
use Rattle.lq_solve_facts.specs.Facts.Values.{MeetsEachRow}
use Rattle.lq_solve_facts.specs.declared.facts.known.Known.{Known}
use Rattle.lq_logic_rows.specs.Row.{Valuation}
use Rattle.lq_refined_types.specs.Parts.Assignment.{all_joined}
use Rattle.lq_refined_types.specs.Parts.Flowing.{Selection, picked}
use Rattle.lq_refined_types.specs.Parts.Part.{Part, unknown}
use Rattle.lq_refined_types.specs.Parts.Substitution.{Subst, formula_by}
use Rattle.lq_logic_predicates.specs.Formula.{Formula}
use Rattle.lq_logic_predicates.specs.Points.{Meets, Point}
use Rattle.lq_logic_predicates.specs.Reading.{reading_of}
use Rattle.lq_logic_predicates.specs.RowMeaning.{AgreesOn}
use Rattle.lq_logic_predicates.specs.Sum.{Sum}
use Rattle.lq_logic_predicates.specs.TableView.{terms_of}
use Rattle.lq_solve_fixpoint.specs.Weakening.Among.{IsAmong}
use Rattle.lq_solve_fixpoint.specs.Weakening.Judging.{AreRefuted, Instances}
use Rattle.lq_solve_facts.specs.Store.Reads.{AreReads}
use Rattle.lq_solve_facts.specs.declared.store.reading.ReadInstance.{ReadInstance}

-- each of the first n instances that is chosen is plain, with something put for its names
abbrev pub ChosenArePlain : (ℕ → Bool) → Subst → ℕ → List Formula → Type 0
ChosenArePlain chosen σ n instances = (i : ℕ) (q : Formula) → i < n → chosen i ≡ true → Some q ≡ slice_get instances i → IsPlain (formula_by σ q)

-- at a point with these classes of objects the readings are met, and of the chosen instances exactly these refuted
pub record IsRefutedBy (k : Known) (chosen : ℕ → Bool) (σ : Subst) (instances : List Formula) (numbers : List ℕ) (class_of : Sum → ℕ) : Type 0 where
  pub point : Point
  pub classes : point.class_of ≡ class_of
  pub values : Valuation
  pub agrees : AgreesOn (terms_of k.table) values point
  pub meets : MeetsEachRow values point (readings_of k)
  pub refuted : AreRefuted chosen point σ instances numbers

-- there is such a point for all classes, and one is refuted there; the chosen instances are plain
pub record AreRefutable (k : Known) (chosen : ℕ → Bool) (σ : Subst) (instances : List Formula) (numbers : List ℕ) : Type 0 where
  pub plain : ChosenArePlain chosen σ (length instances) instances
  pub one : ℕ
  pub among : IsAmong numbers one
  pub at : (class_of : Sum → ℕ) → IsRefutedBy k chosen σ instances numbers class_of

-- of the chosen instances of which these are the readings, those of the numbers are refuted
abbrev pub AreRefutableBy : Known → List ReadInstance → List ℕ → Type 0
AreRefutableBy k reads numbers = (chosen : ℕ → Bool) (σ : Subst) (instances : List Formula) → AreReads k chosen σ instances reads → AreRefutable k chosen σ instances numbers

-- where the facts hold, the negation of the conjunction of the chosen instances of which these are the readings is not met
abbrev pub AreProvedBy : Known → List ReadInstance → Type 0
AreProvedBy k reads =
    (chosen : ℕ → Bool) (σ : Subst) (instances : List Formula) → AreReads k chosen σ instances reads → (p : Point) → Hold k p
    → Meets p (reading_of false (all_joined (map (formula_by σ) (picked chosen 0 instances)))) → ⊥

-- the goal is an unknown of whose instances these are refuted
pub record IsGoalRefuted (k : Known) (I : Instances) (c : Selection) (goal : Part) (numbers : List ℕ) : Type 0 where
  pub number : ℕ
  pub by : Subst
  pub is : goal ≡ unknown number by
  pub refutable : AreRefutable k (c number) by (I number) numbers
