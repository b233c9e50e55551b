-- What facts about objects say: which objects are one, and which facts clash.
use Rattle.std.specs.Prelude.{◌≡◌, ◌==◌, ◌<◌, ◌⊎◌, ℕ, Bool, true, false, List, [], ◌∷◌, Some}
use Rattle.lq_prover_proof_tree.specs.Trees.Path.{Fact, objects_fact, numbered_at}
use Rattle.lq_prover_proof_tree.specs.Trees.Tree.{Clash, merges}
use Rattle.lq_prover_case.specs.declared.objects.fact.ObjectFact.{ObjectFact}
use Rattle.lq_logic_predicates.specs.Sum.{Sum}

-- one of the facts has the number t, and says of a and b that they are one, or that they differ
abbrev pub Says : List ObjectFact → ℕ → ℕ → Bool → ℕ → Type 0
Says [] a b one t = ⊥
Says (f ∷ fs) a b one t = (f ≡ record { left = a; right = b; one = one; number = t }) ⊎ Says fs a b one t

-- Facts of these numbers join two objects: they say that two objects are one each, and form a chain. No facts join an object to itself.
pub data IsJoined (facts : List ObjectFact) : List ℕ → ℕ → ℕ → Type 0 where
  itself : (a : ℕ) → IsJoined facts [] a a
  onward : (t : ℕ) (ts : List ℕ) (a b c : ℕ) → Says facts a b true t → IsJoined facts ts b c → IsJoined facts (t ∷ ts) a c
  backward : (t : ℕ) (ts : List ℕ) (a b c : ℕ) → Says facts b a true t → IsJoined facts ts b c → IsJoined facts (t ∷ ts) a c

-- two objects are one by the facts
abbrev pub AreOne : List ObjectFact → ℕ → ℕ → Type 0
AreOne facts a b = (ts : List ℕ) × IsJoined facts ts a b

-- a fact says that two objects differ which others join
pub data IsClash (facts : List ObjectFact) : Clash → Type 0 where
  differ : (t : ℕ) (ts : List ℕ) (a b : ℕ) → Says facts a b false t → IsJoined facts ts a b → IsClash facts (merges t ts)

-- classes give each fact its truth
abbrev pub AllObjectsHold : (ℕ → ℕ) → List ObjectFact → Type 0
AllObjectsHold class_of facts = (a b t : ℕ) (one : Bool) → Says facts a b one t → (class_of a == class_of b) ≡ one

-- the facts speak of the first n objects
abbrev pub AllWithin : ℕ → List ObjectFact → Type 0
AllWithin n [] = Unit {0}
AllWithin n (f ∷ fs) = (f.left < n) × (f.right < n) × AllWithin n fs

-- each fact about objects stands on a path under its number, over a naming of objects by terms
abbrev pub StandAs : (ℕ → Sum) → List ObjectFact → List Fact → Type 0
StandAs name objects facts = (a b t : ℕ) (one : Bool) → Says objects a b one t → numbered_at facts t ≡ Some (objects_fact (name a) (name b) one)
