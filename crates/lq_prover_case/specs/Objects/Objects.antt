-- What objects are seen as, and what always holds of them.
use Rattle.std.specs.Prelude.{◌≡◌, ℕ, zero, suc, Bool, true, false, List, [], ◌∷◌, ◌++◌}
use Rattle.lq_prover_congruence.specs.declared.classes.head.Head.TheVariants as head
use Rattle.lq_prover_congruence.specs.declared.classes.steps.Step.{Step}
use Rattle.lq_prover_congruence.specs.declared.classes.steps.Step.TheVariants.{Added, Merged, Differed}
use Rattle.lq_prover_case.specs.Objects.Joined.{AllWithin}
use Rattle.lq_prover_case.specs.declared.objects.fact.ObjectFact.{ObjectFact}
use Rattle.lq_logic_predicates.specs.declared.symbol.Symbol.TheVariants.{Bound}

-- how many objects there are, and the facts that stand
pub record Objects : Type 0 where
  pub count : ℕ
  pub facts : List ObjectFact

-- the name that an object has among the classes is its number
abbrev pub name_step : ℕ → Step
name_step k = Added (head.Symbol (Bound (record { 0 = k }))) []

-- the names of so many objects, from one on
abbrev pub names : ℕ → ℕ → List Step
names k zero = []
names k (suc n) = name_step k ∷ names (suc k) n

abbrev pub step_by : Bool → ObjectFact → Step
step_by true f = Merged f.left f.right f.number
step_by false f = Differed f.left f.right

-- what the classes are told of a fact
abbrev pub step_of : ObjectFact → Step
step_of f = step_by f.one f

abbrev pub told : List ObjectFact → List Step
told [] = []
told (f ∷ fs) = step_of f ∷ told fs

-- the classes have the objects' names, and were told the facts
pub record IsObjects (count : ℕ) (facts : List ObjectFact) (steps : List Step) : Type 0 where
  pub steps_are : steps ≡ names 0 count ++ told facts
  pub within : AllWithin count facts
