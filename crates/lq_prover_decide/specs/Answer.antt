-- What an answer of `decide` holds.
use Rattle.lq_prover_proof_tree.specs.Trees.Met.{AllHold}
use Rattle.lq_prover_proof_tree.specs.declared.trees.tree.ProofTree.{ProofTree}
use Rattle.lq_prover_decide.specs.Case.{Case}
use Rattle.lq_prover_decide.specs.declared.answer.CaseAnswer.{CaseAnswer}
use Rattle.lq_prover_decide.specs.declared.answer.CaseAnswer.TheVariants.{NoPoint, Has}
use Rattle.lq_logic_rows.specs.Row.{Valuation}
use Rattle.lq_logic_points.specs.declared.point.Point.{Point}
use Rattle.lq_logic_predicates.specs.ClosedImplication.{IsPoint}
use Rattle.lq_logic_predicates.specs.Points as points
use Rattle.lq_logic_predicates.specs.RowMeaning.{AgreesOn}

-- P holds of the tree, where one is the answer
abbrev pub IfNoPoint : CaseAnswer → (ProofTree → Type 0) → Type 0
IfNoPoint (NoPoint tree) P = P tree
IfNoPoint (Has point) P = Unit {0}

-- P holds of the point, where one is the answer
abbrev pub IfHas : CaseAnswer → (Point → Type 0) → Type 0
IfHas (NoPoint tree) P = Unit {0}
IfHas (Has point) P = P point

-- at no point of the implication each fact of the case holds
abbrev pub HasNoPoint : Case → Type 0
HasNoPoint c = (v : Valuation) (p : points.Point) → AgreesOn c.terms v p → IsPoint c.implication p → AllHold v p c.facts → ⊥
