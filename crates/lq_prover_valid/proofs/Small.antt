-- On an implication of small sizes no number is past 128 bits.
use Rattle.std.proofs.Common.{◌≡◌, ◌⊎◌, inl, inr, ℕ, List, [], All, true, Result, Ok, Err, IfErr, length, arith}
use Rattle.std.specs.List.{Contains}
use Rattle.std.proofs.lemmas.List.Elements.{All-contains}
use Rattle.lq_prover_case.specs.State.Stored.{StopsInTableau}
use Rattle.lq_prover_proof_tree.specs.Trees.Path.{Fact}
use Rattle.lq_prover_proof_tree.specs.Trees.Proves.{rows_among}
use Rattle.lq_prover_differences.specs.Stops.{StopsBy}
use Rattle.lq_prover_differences.specs.Table.{constants}
use Rattle.lq_logic_rows.specs.Difference.{TermsBelow}
use Rattle.lq_logic_rows.specs.Row.{Row, Valuation}
use Rattle.lq_logic_rows.specs.Steps.{IsStep, valuation_of}
use Rattle.lq_logic_rows.specs.declared.engine.LinearStop.TheVariants as linear
use Rattle.lq_base_numbers.specs.Fractions.Past.{IsPast}
use Rattle.lq_base_numbers.specs.Fractions.Value.{value_of}
use Rattle.lq_base_numbers.specs.declared.fractions.past.NumberPast.{NumberPast}
use Rattle.lq_logic_points.specs.Values.{numbers_of}
use Rattle.lq_logic_predicates.specs.ClosedImplication.{ClosedImplication, terms_in}
use Rattle.lq_logic_predicates.specs.Literals.{implication_literals}
use Rattle.lq_logic_predicates.specs.Table.{all_differ}
use Rattle.lq_logic_predicates.specs.declared.pred.Stop.{Stop}
use Rattle.lq_logic_predicates.specs.declared.pred.Stop.TheVariants.{Number, Gather, Pivots, Memory}
use Rattle.lq_prover_small_rows.specs.Laws.{HasSmallSum, IsSmallList, NearLevelsFit, PlacedLevelsFit, RowsAreThere, SizesAreConstants, SumsAreSmall, WorkOverFits}
use Rattle.lq_prover_small_rows.proofs.Sums.{all_untagged}
use Rattle.lq_prover_pivots.specs.Work.Part.{AreAmong, LevelsAgree}
use Rattle.lq_prover_valid.specs.Small.{IsNoNumber, IsSmallImplication}
use Rattle.lq_prover_valid.specs.Stopping as stopping
use Rattle.lq_prover_valid.specs.Stopping.{AreItsFacts, IsItsRow, IsOrigin, IsPastAtPoint, StopsOnFacts, StopsProving}
use Rattle.lq_prover_valid.proofs.Naming.{RowsAreWithin, below}

-- the laws on rows of small sizes, and on those of comparisons
pub record SizesFit : Type 0 where
  pub work : WorkOverFits
  pub placed : PlacedLevelsFit
  pub near : NearLevelsFit
  pub sums : SumsAreSmall
  pub there : RowsAreThere
  pub sizes : SizesAreConstants
  pub agree : LevelsAgree
  pub within : RowsAreWithin

-- what is known of an implication of small sizes: it has the rows of its literals
pub record IsKnown (i : ClosedImplication) (small : IsSmallImplication i) : Type 0 where
  pub laws : SizesFit
  pub distinct : all_differ (terms_in i) ≡ true

is_list : (i : ClosedImplication) (small : IsSmallImplication i) → IsSmallList small.rows small.variables (length (terms_in i))
is_list i small = record { over = small.terms; small = small.small }

its_there : (i : ClosedImplication) (small : IsSmallImplication i) → IsKnown i small → (r : Row) → IsItsRow i r → Contains small.rows r
its_there i small k r is = k.laws.there (terms_in i) (implication_literals i) small.rows is.literal r k.distinct small.are is.among is.is

all_there : (i : ClosedImplication) (small : IsSmallImplication i) → IsKnown i small → (rows : List Row) → All (IsItsRow i) rows → AreAmong small.rows rows
all_there i small k rows each r there = its_there i small k r (All-contains (IsItsRow i) rows r each there)

facts_sum : (i : ClosedImplication) (small : IsSmallImplication i) → IsKnown i small → (facts : List Fact) → AreItsFacts i facts → HasSmallSum small.rows facts
facts_sum i small k facts its =
    k.laws.sums small.rows small.variables facts small.small (λ r there. its_there i small k r (all_untagged (IsItsRow i) (rows_among facts) its.each r there))

-- ---- a row at numbers

level_fits : (i : ClosedImplication) (small : IsSmallImplication i) → IsKnown i small → (v : Valuation) (row : Row) (e : NumberPast) → Contains small.rows row
    → TermsBelow (length (terms_in i)) row.parts → IsOrigin i v → IsStep v row e.op (value_of e.left) (value_of e.right) → ¬ IsPast e
level_fits i small k v row e there over (stopping.placed ever each p) step =
    k.laws.placed small.rows small.variables (length (terms_in i)) ever v row e (is_list i small) (all_there i small k ever each) there over p step
level_fits i small k v row e there over (stopping.near facts its few n) step =
    let most = its.sizes in
    let same = k.laws.sizes (terms_in i) (implication_literals i) small.rows small.are in
    let sum = facts_sum i small k facts its in
    k.laws.near small.rows small.variables (length (terms_in i)) (constants (rows_among facts)) (length facts) v row e (is_list i small) there (omega (arith, most, same)) sum.sum few n step

point_fits : (i : ClosedImplication) (small : IsSmallImplication i) → IsKnown i small → (e : NumberPast) → IsPastAtPoint i e → ⊥
point_fits i small k e p =
    let terms = length (terms_in i) in
    let row = p.step.its_row in
    let over = below terms row (k.laws.within (terms_in i) p.step.literal row p.step.is) in
    let there = its_there i small k row (record { literal = p.step.literal; among = p.step.among; is = p.step.is }) in
    let step = k.laws.agree terms (valuation_of (numbers_of p.values)) p.origin.values row e.op (value_of e.left) (value_of e.right) over p.origin.same p.step.step in
    level_fits i small k p.origin.values row e there over p.origin.origin step p.past

-- ---- stops

facts_fit : (limit : ℕ) (i : ClosedImplication) (small : IsSmallImplication i) → IsKnown i small → (e : NumberPast) → StopsOnFacts limit i (linear.Number e) → ⊥
facts_fit limit i small k e h = by h.stops.any
  where
    by : StopsBy (constants (rows_among h.facts)) (linear.Number e) ⊎ StopsInTableau (length (terms_in i)) limit [] (IsItsRow i) (linear.Number e) → ⊥
    by (inl s) = let sum = (facts_sum i small k h.facts h.are).small h.few in let large = s.1 in omega (arith, sum, large)
    by (inr s) = k.laws.work small.rows small.variables (length (terms_in i)) s.more e (is_list i small) (all_there i small k s.more s.each) s.stops.1 s.stops.0

stop_fits : (limit : ℕ) (i : ClosedImplication) (stop : Stop) → SizesFit → all_differ (terms_in i) ≡ true → StopsProving limit i stop → IsSmallImplication i → IsNoNumber stop
stop_fits limit i (Number e) laws d (g, inl h) small = facts_fit limit i small (record { laws = laws; distinct = d }) e h
stop_fits limit i (Number e) laws d (g, inr h) small = point_fits i small (record { laws = laws; distinct = d }) e h
stop_fits limit i (Gather p) laws d h small = tt
stop_fits limit i (Pivots k) laws d h small = tt
stop_fits limit i Memory laws d h small = tt

pub if_fits : {X : Type 0} (limit : ℕ) (i : ClosedImplication) (r : Result X Stop) → SizesFit → all_differ (terms_in i) ≡ true → IfErr r (StopsProving limit i)
    → IfErr r (λ stop. IsSmallImplication i → IsNoNumber stop)
if_fits {X} limit i (Ok x) laws d h = tt
if_fits {X} limit i (Err stop) laws d h = stop_fits limit i stop laws d h
