-- On a case of small sizes no number is past 128 bits.
use Rattle.std.proofs.Common.{◌≡◌, ◌⊎◌, inl, inr, ℕ, ℤ, zero, suc, ◌^◌, ◌<◌, ◌≤◌, ◌++◌, List, [], ◌∷◌, All, Some, true, Result, Ok, Err, IfErr, length, slice_get, sym, subst, arith}
use Rattle.std.specs.List.{Contains}
use Rattle.std.proofs.lemmas.List.Elements.{All-contains, All-head, All-tail, Contains-append_left, Contains-append_right}
use Rattle.lq_prover_case.specs.State.Stored.{StopsInTableau}
use Rattle.lq_prover_proof_tree.specs.Trees.Path.{Fact, row_fact, flag_fact, objects_fact, never}
use Rattle.lq_prover_proof_tree.specs.Trees.Proves.{rows_among, rows_from}
use Rattle.lq_prover_differences.specs.Stops.{StopsBy}
use Rattle.lq_prover_differences.specs.Table.{constants}
use Rattle.lq_prover_case.specs.Equations.Equating.{AreOneFunction, applied, equation}
use Rattle.lq_prover_case.proofs.EquationsLemmas.Pairing.{equation_among}
use Rattle.lq_logic_rows.specs.Difference.{TermsBelow}
use Rattle.lq_logic_rows.specs.Row.{Row, Valuation}
use Rattle.lq_logic_rows.specs.Steps.{IsStep, valuation_of}
use Rattle.lq_logic_rows.specs.declared.engine.LinearStop.TheVariants as linear
use Rattle.lq_base_numbers.specs.Fractions.Past.{IsPast}
use Rattle.lq_base_numbers.specs.Fractions.Value.{value_of}
use Rattle.lq_base_numbers.specs.declared.fractions.past.NumberPast.{NumberPast}
use Rattle.lq_logic_points.proofs.Literal.{pair_literal}
use Rattle.lq_logic_predicates.specs.ClosedImplication.{terms_in}
use Rattle.lq_logic_predicates.specs.Comparison.{Comparison, IsRowOf}
use Rattle.lq_logic_predicates.specs.Literals.{all_pairs, equal_row, implication_literals}
use Rattle.lq_logic_predicates.specs.Sum.{Sum}
use Rattle.lq_logic_predicates.specs.Table.{all_differ}
use Rattle.lq_logic_predicates.specs.declared.pred.Stop.{Stop}
use Rattle.lq_logic_predicates.specs.declared.pred.Stop.TheVariants.{Number, Gather, Pivots, Memory}
use Rattle.lq_prover_simplex.specs.Table.{untagged}
use Rattle.lq_prover_small_rows.specs.Laws.{HasSmallSum, IsSmallList, NearLevelsFit, PlacedLevelsFit, RowsAreThere, SumsAreSmall, WorkOverFits}
use Rattle.lq_prover_small_rows.proofs.Sums.{constants_are}
use Rattle.lq_prover_pivots.specs.Work.Part.{AreAmong, LevelsAgree}
use Rattle.lq_prover_pivots.specs.Work.Sizes.{sum_of_constants}
use Rattle.lq_prover_decide.specs.Case.{Case}
use Rattle.lq_prover_decide.specs.Deciding.{Fits}
use Rattle.lq_prover_decide.specs.Small.{IsNoNumber, IsSmallCase}
use Rattle.lq_prover_decide.specs.Stopping as stopping
use Rattle.lq_prover_decide.specs.Stopping.{IsItsRow, IsOrigin, IsPastAtPoint, StopsDeciding, StopsOnRows}

-- the laws on rows of small sizes, and on those of comparisons
pub record SizesFit : Type 0 where
  pub work : WorkOverFits
  pub placed : PlacedLevelsFit
  pub near : NearLevelsFit
  pub sums : SumsAreSmall
  pub there : RowsAreThere
  pub agree : LevelsAgree
  pub within : (terms : List Sum) (c : Comparison) (row : Row) → IsRowOf terms c row → All (λ (part : ℕ × ℤ). part.0 < length terms) row.parts

pub record IsKnown (c : Case) (small : IsSmallCase c) : Type 0 where
  pub laws : SizesFit
  pub distinct : all_differ c.terms ≡ true
  pub fits : Fits c

-- ---- the rows of the case

abbrev all_rows : (c : Case) → IsSmallCase c → List Row
all_rows c small = untagged (rows_among c.facts) ++ small.rows

is_list : (c : Case) (small : IsSmallCase c) → IsSmallList (all_rows c small) small.variables (length c.terms)
is_list c small = record { over = small.terms; small = small.small }

fact_there : (n k : ℕ) (fs : List Fact) (r : Row) → slice_get fs k ≡ Some (row_fact r) → Contains (untagged (rows_from n fs)) r
fact_there n k [] r e = cc
fact_there n zero (row_fact q ∷ fs) r e = let same : q ≡ r = cc in (0, omega arith, same)
fact_there n (suc k) (row_fact q ∷ fs) r e =
    let there = fact_there (suc n) k fs r e in
    let inside = there.1 in
    (suc there.0, omega arith, there.2)
fact_there n zero (flag_fact x value ∷ fs) r e = cc
fact_there n (suc k) (flag_fact x value ∷ fs) r e = fact_there (suc n) k fs r e
fact_there n zero (objects_fact a b one ∷ fs) r e = cc
fact_there n (suc k) (objects_fact a b one ∷ fs) r e = fact_there (suc n) k fs r e
fact_there n zero (never ∷ fs) r e = cc
fact_there n (suc k) (never ∷ fs) r e = fact_there (suc n) k fs r e

literal_there : (c : Case) (small : IsSmallCase c) → IsKnown c small → (x : Comparison) (r : Row) → Contains (implication_literals c.implication) x → IsRowOf c.terms x r
    → Contains (all_rows c small) r
literal_there c small k x r among is =
    Contains-append_right (untagged (rows_among c.facts)) small.rows r (k.laws.there c.terms (implication_literals c.implication) small.rows x r k.distinct small.are among is)

equation_there : (c : Case) (small : IsSmallCase c) → IsKnown c small → (p : ℕ × ℕ) → AreOneFunction c.terms p → Contains (all_rows c small) (equation p)
equation_there c small k p one =
    let x = equal_row (applied one.function one.left) (applied one.function one.right) in
    let paired : Contains (all_pairs (terms_in c.implication)) x = subst (λ ts. Contains (all_pairs ts) x) k.fits.complete (equation_among c.terms p one) in
    literal_there c small k x (equation p) (pair_literal c.implication x paired) one.row

its_there : (c : Case) (small : IsSmallCase c) → IsKnown c small → (r : Row) → IsItsRow c r → Contains (all_rows c small) r
its_there c small k r (stopping.of_fact i e) = Contains-append_left (untagged (rows_among c.facts)) small.rows r (fact_there 1 i c.facts r e)
its_there c small k r (stopping.of_equation p one e) = subst (Contains (all_rows c small)) (sym e) (equation_there c small k p one)

all_there : (c : Case) (small : IsSmallCase c) → IsKnown c small → (rows : List Row) → All (IsItsRow c) rows → AreAmong (all_rows c small) rows
all_there c small k rows each r there = its_there c small k r (All-contains (IsItsRow c) rows r each there)

facts_sum : (c : Case) (small : IsSmallCase c) → IsKnown c small → HasSmallSum (all_rows c small) c.facts
facts_sum c small k =
    k.laws.sums (all_rows c small) small.variables c.facts small.small (λ r there. Contains-append_left (untagged (rows_among c.facts)) small.rows r there)

sum_more : (xs ys : List Row) → sum_of_constants xs ≤ sum_of_constants (xs ++ ys)
sum_more [] ys = omega arith
sum_more (x ∷ xs) ys = let k = sum_more xs ys in omega (arith, k)

-- ---- a row at numbers

below : (n : ℕ) (parts : List (ℕ × ℤ)) → All (λ (part : ℕ × ℤ). part.0 < n) parts → TermsBelow n parts
below n [] h = tt
below n (part ∷ parts) h = (All-head (λ (x : ℕ × ℤ). x.0 < n) part parts h, below n parts (All-tail (λ (x : ℕ × ℤ). x.0 < n) part parts h))

level_fits : (c : Case) (small : IsSmallCase c) → IsKnown c small → (v : Valuation) (row : Row) (e : NumberPast) → Contains (all_rows c small) row → TermsBelow (length c.terms) row.parts
    → IsOrigin c v → IsStep v row e.op (value_of e.left) (value_of e.right) → ¬ IsPast e
level_fits c small k v row e there over (stopping.placed ever each p) step =
    k.laws.placed (all_rows c small) small.variables (length c.terms) ever v row e (is_list c small) (all_there c small k ever each) there over p step
level_fits c small k v row e there over (stopping.near few n) step =
    let same = constants_are (rows_among c.facts) in
    let more = sum_more (untagged (rows_among c.facts)) small.rows in
    k.laws.near (all_rows c small) small.variables (length c.terms) (constants (rows_among c.facts)) (length c.facts) v row e (is_list c small) there (omega (arith, same, more))
    (facts_sum c small k).sum few n step

point_fits : (c : Case) (small : IsSmallCase c) → IsKnown c small → (e : NumberPast) → IsPastAtPoint c e → ⊥
point_fits c small k e p =
    let terms = length c.terms in
    let row = p.step.its_row in
    let over = below terms row.parts (k.laws.within c.terms p.step.literal row p.step.is) in
    let there = literal_there c small k p.step.literal row p.step.among p.step.is in
    let step = k.laws.agree terms (valuation_of p.numbers) p.origin.values row e.op (value_of e.left) (value_of e.right) over p.origin.same p.step.step in
    level_fits c small k p.origin.values row e there over p.origin.origin step p.past

-- ---- stops

rows_fit : (limit : ℕ) (c : Case) (small : IsSmallCase c) → IsKnown c small → (e : NumberPast) → length c.facts < 2 ^ 63 → StopsOnRows limit c (linear.Number e) → ⊥
rows_fit limit c small k e few h = by h.any
  where
    by : StopsBy (constants (rows_among c.facts)) (linear.Number e) ⊎ StopsInTableau (length c.terms) limit [] (IsItsRow c) (linear.Number e) → ⊥
    by (inl s) = let sum = (facts_sum c small k).small (omega (arith, few)) in let large = s.1 in omega (arith, sum, large)
    by (inr s) = k.laws.work (all_rows c small) small.variables (length c.terms) s.more e (is_list c small) (all_there c small k s.more s.each) s.stops.1 s.stops.0

stop_fits : (limit : ℕ) (c : Case) (stop : Stop) → SizesFit → all_differ c.terms ≡ true → Fits c → StopsDeciding limit c stop → IsSmallCase c → IsNoNumber stop
stop_fits limit c (Number e) laws d fits (inl h) small = rows_fit limit c small (record { laws = laws; distinct = d; fits = fits }) e h.0 h.1
stop_fits limit c (Number e) laws d fits (inr h) small = point_fits c small (record { laws = laws; distinct = d; fits = fits }) e h
stop_fits limit c (Gather p) laws d fits h small = tt
stop_fits limit c (Pivots k) laws d fits h small = tt
stop_fits limit c Memory laws d fits h small = tt

pub if_fits : {X : Type 0} (limit : ℕ) (c : Case) (r : Result X Stop) → SizesFit → all_differ c.terms ≡ true → Fits c → IfErr r (StopsDeciding limit c)
    → IfErr r (λ stop. IsSmallCase c → IsNoNumber stop)
if_fits {X} limit c (Ok x) laws d fits h = tt
if_fits {X} limit c (Err stop) laws d fits h = stop_fits limit c stop laws d fits h
