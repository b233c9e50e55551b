-- Where each literal is a difference row, an evaluation is past 128 bits only where the sizes are large.
use Rattle.std.proofs.Common.{◌≡◌, ◌∙◌, ℕ, ◌<◌, ◌≤◌, List, [], ◌∷◌, All, length, sym, ap, subst, arith, unsigned_abs}
use Rattle.std.proofs.lemmas.List.Elements.{All-contains, All-cons, All-nil, All-weaker}
use Rattle.lq_prover_case.specs.State.PathState.{PathState}
use Rattle.lq_prover_case.specs.State.RowState.{AreDifferences, row_point, terms_of}
use Rattle.lq_prover_proof_tree.specs.Trees.Path.{Fact}
use Rattle.lq_prover_proof_tree.specs.Trees.Proves.{rows_among}
use Rattle.lq_prover_differences.specs.Table.{constants}
use Rattle.lq_logic_rows.specs.Near.{IsNear}
use Rattle.lq_logic_rows.specs.Nearness.{large_by_step}
use Rattle.lq_logic_rows.specs.Row.{Valuation}
use Rattle.lq_logic_rows.specs.Steps.{valuation_of}
use Rattle.lq_logic_rows.specs.declared.limits.TheConstants.{SUM_LIMIT}
use Rattle.lq_prover_proof_tree.specs.Literals.Gathered.{sizes, sizes_of}
use Rattle.lq_base_numbers.specs.Fractions.Past.{IsPast}
use Rattle.lq_base_numbers.specs.declared.fractions.past.NumberPast.{NumberPast}
use Rattle.lq_logic_points.specs.Evaluation.{IsStepOf}
use Rattle.lq_logic_points.specs.Values.{numbers_of}
use Rattle.lq_logic_points.specs.declared.values.PointValues.{PointValues}
use Rattle.lq_logic_predicates.specs.ClosedImplication.{ClosedImplication, terms_in}
use Rattle.lq_logic_predicates.specs.Comparison.{Comparison, row_constant}
use Rattle.lq_logic_predicates.specs.Literals.{implication_literals}
use Rattle.lq_prover_search.specs.Search.Scope.{Scope}
use Rattle.lq_prover_valid.specs.Stopping.{AreItsFacts, IsDifferenceImplication}
use Rattle.lq_prover_valid.specs.Values.{AreValuesOf}
use Rattle.lq_prover_valid.proofs.Naming.{RowsAreWithin, below}
use Rattle.lq_prover_valid.proofs.Stopped.{differences}

-- no literal is larger than all of them
size_among : (cs : List Comparison) → All (λ c. unsigned_abs (row_constant c) ≤ sizes cs) cs
size_among [] = All-nil (λ c. unsigned_abs (row_constant c) ≤ sizes [])
size_among (c ∷ cs) =
    All-cons (λ x. unsigned_abs (row_constant x) ≤ sizes (c ∷ cs)) c cs (omega arith)
    (All-weaker {X = Comparison} (λ x. unsigned_abs (row_constant x) ≤ sizes cs) (λ x. unsigned_abs (row_constant x) ≤ sizes (c ∷ cs)) (λ x h. omega (arith, h)) cs (size_among cs))

near_same : (m n terms : ℕ) (v w : Valuation) → m ≤ n → ((k : ℕ) → k < terms → w k ≡ v k) → IsNear m terms v → IsNear n terms w
near_same m n terms v w le e h = record {
  at = h.at;
  whole_at = λ k l. e k l ∙ h.whole_at k l;
  value = λ k l. let a = h.value k l in omega (arith, a, le);
  difference = λ j k l x. let a = h.difference j k l x in omega (arith, a, le);
}

pub past_is_large : RowsAreWithin → (s : Scope) (i : ClosedImplication) (state : PathState) (facts : List Fact) (values : PointValues) (e : NumberPast) → s.terms ≡ terms_in i
    → terms_of state.rows ≡ length s.terms → AreValuesOf s state values → AreItsFacts i facts
    → (AreDifferences (rows_among facts) → IsNear (constants (rows_among facts)) (terms_of state.rows) (row_point state.rows)) → IsPast e
    → IsStepOf (implication_literals i) (terms_in i) (numbers_of values) e → IsDifferenceImplication i → SUM_LIMIT ≤ sizes_of i
past_is_large within s i state facts values e complete count w its near past step d =
    let terms = length (terms_in i) in
    let same : length s.terms ≡ terms = ap length complete in
    let here = near (differences i d (rows_among facts) its.each) in
    let counted = subst (λ n. IsNear (constants (rows_among facts)) n (row_point state.rows)) (count ∙ same) here in
    let close = near_same (constants (rows_among facts)) (sizes_of i) terms (row_point state.rows) (valuation_of (numbers_of values)) its.sizes
    (λ k l. w.numbers k (subst (λ n. k < n) (sym same) l)) counted in
    let constant : unsigned_abs step.its_row.constant ≤ sizes_of i =
    subst (λ z. unsigned_abs z ≤ sizes_of i) (sym step.is.constant)
    (All-contains (λ c. unsigned_abs (row_constant c) ≤ sizes_of i) (implication_literals i) step.literal (size_among (implication_literals i)) step.among) in
    large_by_step (sizes_of i) terms (valuation_of (numbers_of values)) step.its_row e close (d step.literal step.its_row step.among step.is)
    (below terms step.its_row (within (terms_in i) step.literal step.its_row step.is)) constant step.step past
