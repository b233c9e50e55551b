-- What `valid` answers.
use Rattle.std.specs.Prelude.{◌≡◌, false}
use Rattle.lq_prover_proof_tree.specs.Trees.Path.{Path, IsOpening}
use Rattle.lq_prover_proof_tree.specs.Trees.Proves.{Proves}
use Rattle.lq_prover_proof_tree.specs.Trees.Tree.{Tree}
use Rattle.lq_prover_proof_tree.specs.declared.trees.tree.ProofTree.{ProofTree}
use Rattle.lq_prover_proof_tree.specs.Literals.Parts.{applications_in}
use Rattle.lq_logic_points.specs.Evaluation.{EvaluatesAll}
use Rattle.lq_logic_points.specs.Values.{numbers_of, table_of, values_of}
use Rattle.lq_logic_points.specs.declared.point.Point.{Point}
use Rattle.lq_logic_predicates.specs.ClosedImplication.{ClosedImplication, IsPoint, MeetsEach, terms_in}
use Rattle.lq_logic_predicates.specs.Points as points
use Rattle.lq_logic_predicates.specs.Points.{Meets}
use Rattle.lq_logic_predicates.specs.Reading.{reading_of}
use Rattle.lq_prover_valid.specs.declared.answer.Answer.{Answer}
use Rattle.lq_prover_valid.specs.declared.answer.Answer.TheVariants.{Valid, Fails}

-- P holds of the tree, where one is the answer
abbrev pub IfValid : Answer → (ProofTree → Type 0) → Type 0
IfValid (Valid tree) P = P tree
IfValid (Fails point) P = Unit {0}

-- P holds of the point, where one is the answer
abbrev pub IfFails : Answer → (Point → Type 0) → Type 0
IfFails (Valid tree) P = Unit {0}
IfFails (Fails point) P = P point

-- the tree proves the opening path of the implication, whose rows are over its terms
pub record ProvesImplication (i : ClosedImplication) (tree : Tree) : Type 0 where
  pub path : Path
  pub opening : IsOpening (terms_in i) i path
  pub proves : Proves (record { terms = terms_in i; applications = applications_in i }) path tree

-- a point of the implication that meets its hypotheses and its negated goal
pub record IsCounterexample (i : ClosedImplication) (p : points.Point) : Type 0 where
  pub is_point : IsPoint i p
  pub hypotheses : MeetsEach p i.hypotheses
  pub goal : Meets p (reading_of false i.goal)

-- the point's numbers are those of the implication's terms in order, and each row of its hypotheses and of its negated goal can be evaluated
pub record IsReadable (i : ClosedImplication) (p : Point) : Type 0 where
  pub table : table_of (values_of p) ≡ terms_in i
  pub evaluates : EvaluatesAll (table_of (values_of p)) (numbers_of (values_of p)) i
