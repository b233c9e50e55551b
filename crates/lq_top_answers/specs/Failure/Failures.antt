-- The texts of an implication that fails and of one that isn't decided.
use Rattle.std.specs.Prelude.{◌≡◌, ℕ, List, [], ◌∷◌, ◌++◌, map, codes, decimal}
use Rattle.lq_logic_predicates.specs.ClosedImplication.{ClosedImplication}
use Rattle.lq_logic_predicates.specs.Formula.{Formula}
use Rattle.lq_logic_predicates.specs.Points.{Point}
use Rattle.lq_logic_predicates.specs.PredView.{formula_of}
use Rattle.lq_logic_predicates.specs.declared.pred.Stop.{Stop}
use Rattle.lq_logic_predicates.specs.declared.pred.Stop.TheVariants.{Number, Gather, Pivots, Memory}
use Rattle.lq_logic_text.specs.Calling.{Calling}
use Rattle.lq_logic_text.specs.Predicates.{formula_text}
use Rattle.lq_refined_types.specs.Subtyping.Implication.{Implication}
use Rattle.lq_top_answers.specs.Failure.Heads.{line_at}
use Rattle.lq_top_answers.specs.Failure.Numbers.{past_text}
use Rattle.lq_top_answers.specs.Failure.PointLines.{PointValue, point_lines, ShowsPoint}

-- the first line, and the line on the implication at a place of the list
abbrev pub rejected_lines : List Implication → ℕ → List ℕ
rejected_lines is at = codes "rejected\n" ++ line_at is at

-- The implication at the place fails at the point: closed, it is the one of which the lines are.
pub record IsFailure (c : Calling) (is : List Implication) (at : ℕ) (i : ClosedImplication) (p : Point) (text : List ℕ) : Type 0 where
  pub lines : List ℕ
  pub shows : ShowsPoint c i p lines
  pub written : text ≡ rejected_lines is at ++ lines

abbrev pub given_line : Calling → Formula → List ℕ
given_line c p = codes "given " ++ formula_text c p ++ codes "\n"

abbrev pub given_lines : Calling → List Formula → List ℕ
given_lines c [] = []
given_lines c (p ∷ ps) = given_line c p ++ given_lines c ps

-- each hypothesis in order, and the goal
abbrev pub sides_text : Calling → ClosedImplication → List ℕ
sides_text c i = given_lines c i.hypotheses ++ codes "goal " ++ formula_text c i.goal ++ codes "\n"

-- a failure's text, and behind it the implication
pub record IsExplained (c : Calling) (is : List Implication) (at : ℕ) (i : ClosedImplication) (p : Point) (text : List ℕ) : Type 0 where
  pub failure : List ℕ
  pub fails : IsFailure c is at i p failure
  pub written : text ≡ failure ++ sides_text c i

-- why there is no verdict; of memory alone there is no text
abbrev pub stop_text : Calling → Stop → List ℕ
stop_text c (Number past) = codes "number past " ++ past_text past ++ codes "\n"
stop_text c (Gather pred) = codes "number past in " ++ formula_text c (formula_of pred) ++ codes "\n"
stop_text c (Pivots n) = codes "pivots " ++ decimal n ++ codes "\n"
stop_text c Memory = []

abbrev pub undecided_lines : Calling → List Implication → ℕ → Stop → List ℕ
undecided_lines c is at stop = codes "undecided\n" ++ line_at is at ++ stop_text c stop

-- Both texts have this front and this back, and between them lines on the same terms and names in the same order. Only the values in these
-- lines may differ.
pub record DifferInValues (front back text other : List ℕ) : Type 0 where
  pub lines : List (List ℕ × PointValue)
  pub other_lines : List (List ℕ × PointValue)
  pub same : map (λ l. l.0) lines ≡ map (λ l. l.0) other_lines
  pub written : text ≡ front ++ point_lines lines ++ back
  pub other_written : other ≡ front ++ point_lines other_lines ++ back

abbrev pub FailuresDifferInValues : Type 0
FailuresDifferInValues =
    (c : Calling) (is : List Implication) (at : ℕ) (i : ClosedImplication) (p q : Point) (text other : List ℕ) → IsFailure c is at i p text → IsFailure c is at i q other
    → DifferInValues (rejected_lines is at) [] text other

abbrev pub ExplanationsDifferInValues : Type 0
ExplanationsDifferInValues =
    (c : Calling) (is : List Implication) (at : ℕ) (i : ClosedImplication) (p q : Point) (text other : List ℕ) → IsExplained c is at i p text → IsExplained c is at i q other
    → DifferInValues (rejected_lines is at) (sides_text c i) text other
