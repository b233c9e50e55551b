-- What the crates below say: of the relation, of inclusion, of substitutions, of steps and of closing.
use Rattle.lq_refined_types.specs.Parts.Laws.{UnderBy}
use Rattle.lq_refined_types.specs.Parts.Values.{TruthBy}
use Rattle.lq_meaning_steps.specs.Model.Laws.{StepsInside, PartsWait, ClosesBehind, OneIsPaired, PairsJoin}
use Rattle.lq_sound_values.specs.Inhabitants.Laws.{SmallerNumbers, ExtendedTables, StoresAgree, CallsAreEach, ElementsAreEach}
use Rattle.lq_sound_values.specs.Inclusion.Laws.{SubtypesFit, NamesAreBound, TypesThin, PutTypesFit}
use Rattle.lq_sound_values.proofs.InclusionLemmas.Truths.{ValidIsTrue}

pub record Lower : Type 0 where
  pub valid : ValidIsTrue
  pub truth-by : TruthBy
  pub under-by : UnderBy
  pub smaller : SmallerNumbers
  pub extended : ExtendedTables
  pub stores : StoresAgree
  pub calls : CallsAreEach
  pub elements : ElementsAreEach
  pub subtypes : SubtypesFit
  pub bound : NamesAreBound
  pub thin : TypesThin
  pub put : PutTypesFit
  pub inside : StepsInside
  pub wait : PartsWait
  pub behind : ClosesBehind
  pub one : OneIsPaired
  pub join : PairsJoin
