-- The stops of a search are those of the implication.
use Rattle.std.proofs.Common.{◌≡◌, ◌∙◌, ◌⊎◌, inl, inr, ℕ, zero, suc, ◌+◌, ◌<◌, ◌≤◌, List, [], ◌∷◌, ◌++◌, All, true, false, Some, Result, Ok, Err, IfErr, get_or, length, map, slice_get, refl, sym, ap, subst, arith}
use Rattle.std.proofs.lemmas.List.Elements.{All-head, All-tail, All-weaker, Contains-append_left, Contains-append_right}
use Rattle.lq_prover_case.specs.State.PathState.{HasStops}
use Rattle.lq_prover_case.specs.State.RowState.{AreDifferences}
use Rattle.lq_prover_case.specs.State.Stored.{StopsInTableau}
use Rattle.lq_prover_case.proofs.StateLemmas.Handing.{may_stop_as}
use Rattle.lq_prover_proof_tree.specs.Trees.Path.{AreReadings, Fact, nothing, taken}
use Rattle.lq_prover_proof_tree.specs.Trees.Proves.{AreRowsOf, five_ways, rows_among}
use Rattle.lq_prover_case.specs.Equations.Equating.{equation}
use Rattle.lq_logic_rows.specs.Contradiction.{Tagged}
use Rattle.lq_logic_rows.specs.Difference.{IsDifference}
use Rattle.lq_logic_rows.specs.Row.{Row}
use Rattle.lq_logic_rows.specs.declared.engine.LinearStop.{LinearStop}
use Rattle.lq_logic_rows.specs.declared.engine.LinearStop.TheVariants as linear
use Rattle.lq_prover_proof_tree.specs.Literals.Gathered.{CanBeGathered, sizes, sizes_of}
use Rattle.lq_base_numbers.specs.declared.fractions.past.NumberPast.{NumberPast}
use Rattle.lq_logic_points.proofs.Literal.{Sub, goal_literal, hypothesis_literal, pair_literal}
use Rattle.lq_logic_predicates.specs.ClosedImplication.{ClosedImplication, terms_in}
use Rattle.lq_logic_predicates.specs.Comparison.{Comparison, IsRowOf}
use Rattle.lq_logic_predicates.specs.Formula.{Formula}
use Rattle.lq_logic_predicates.specs.Literals.{all_pairs, comparisons_of, each_literals, implication_literals, literals_of, negative, pair_rows, positive}
use Rattle.lq_logic_predicates.specs.NnfView.{nnfs_view, readings_of}
use Rattle.lq_logic_predicates.specs.PredView.{formula_of}
use Rattle.lq_logic_predicates.specs.Reading.{Reading, Readings, more, none, reading_of, row}
use Rattle.lq_logic_predicates.specs.Sum.{Sum}
use Rattle.lq_logic_predicates.specs.declared.pred.Pred.{Pred}
use Rattle.lq_logic_predicates.specs.declared.pred.Stop.{Stop}
use Rattle.lq_logic_predicates.specs.declared.pred.Stop.TheVariants.{Number, Gather, Pivots, Memory}
use Rattle.lq_prover_search.proofs.PruningLemmas.Taking as taking
use Rattle.lq_prover_search.specs.Search.Pairs.{AreOrdered, AreWays, IsPair, application_at, reading_of_rows}
use Rattle.lq_prover_search.specs.Search.SearchPath.{ways_of}
use Rattle.lq_prover_search.specs.Search.Sizes.{most, most_of_all, row_size}
use Rattle.lq_prover_search.specs.Search.Stopping.{AnyHasRow, HasRow, MayReach, MayTake, StopsSearch, of_choice, of_equation, of_fact, of_way}
use Rattle.lq_prover_search.specs.declared.search.pair.Pair.{Pair}
use Rattle.lq_prover_search.proofs.SearchLemmas.PairSizes.{condition_of, sizes-append}
use Rattle.lq_prover_search.proofs.SearchLemmas.Stops.{choice_has, fact_has}
use Rattle.lq_prover_valid.specs.Openings.{IsOpeningReading}
use Rattle.lq_prover_valid.specs.Small.{IsNoNumber}
use Rattle.lq_prover_valid.specs.Stopping.{AreItsFacts, IsDifferenceImplication, IsItsRow, IsPointStop, IsRowIn, IsSmallDifference, IsSpentOn, IsStopOf, StopsOnFacts, StopsProving, StopsReading, StopsSmall}
use Rattle.lq_prover_valid.proofs.Literals.{equation_row, gathered_most, gathered_row, pair_among, row_in_more, under_sign}

-- ---- the sizes of the opening reading

each_most : (terms : List Sum) (ps : List Formula) (rs : List (Reading Row)) → AreReadings terms ps rs → most_of_all row_size (readings_of rs) ≤ sizes (each_literals ps)
each_most terms [] [] a = omega arith
each_most terms (p ∷ ps) (r ∷ rs) a =
    let k = each_most terms ps rs a.1 in let e = gathered_most terms (reading_of true p) r a.0 in let h = under_sign true p in
    let x = sizes-append (literals_of positive p) (each_literals ps) in omega (arith, k, e, h, x)
each_most terms [] (r ∷ rs) a = absurd a
each_most terms (p ∷ ps) [] a = absurd a

pub opening_most : (terms : List Sum) (i : ClosedImplication) (reading : Reading Row) → IsOpeningReading terms i reading
    → most row_size reading + sizes (all_pairs (terms_in i)) ≤ sizes_of i
opening_most terms i reading o =
    let a : most row_size reading ≡ most_of_all row_size (readings_of o.hypotheses) + (most row_size o.goal + 0) = ap (most row_size) o.is in
    let b = each_most terms i.hypotheses o.hypotheses o.are_hypotheses in
    let c = gathered_most terms (reading_of false i.goal) o.goal o.is_goal in
    let d = under_sign false i.goal in
    let e = sizes-append (each_literals i.hypotheses ++ literals_of negative i.goal) (all_pairs (terms_in i)) in
    let f = sizes-append (each_literals i.hypotheses) (literals_of negative i.goal) in omega (arith, a, b, c, d, e, f)

-- ---- the rows of the opening reading

each_row : (terms : List Sum) (literals : List Comparison) (preds : List Pred) (rs : List (Reading Row)) (r : Row) → AreReadings terms (map formula_of preds) rs
    → ((k : ℕ) (d : Pred) → k < length preds → Sub (comparisons_of (reading_of true (formula_of (get_or preds k d)))) literals) → AnyHasRow r (readings_of rs) → IsRowIn terms literals r
each_row terms literals [] [] r a f m = absurd m
each_row terms literals (p ∷ preds) (q ∷ rs) r a f (inl m) =
    row_in_more terms (comparisons_of (reading_of true (formula_of p))) literals r (f zero p (omega arith)) (gathered_row terms (reading_of true (formula_of p)) q r a.0 m)
each_row terms literals (p ∷ preds) (q ∷ rs) r a f (inr m) = each_row terms literals preds rs r a.1 (λ k d l. f (suc k) d (omega (arith, l))) m
each_row terms literals [] (q ∷ rs) r a f m = absurd a
each_row terms literals (p ∷ preds) [] r a f m = absurd a

opening_row : (i : ClosedImplication) (preds : List Pred) (reading : Reading Row) (r : Row) → i.hypotheses ≡ map formula_of preds → IsOpeningReading (terms_in i) i reading → HasRow r reading
    → IsRowIn (terms_in i) (implication_literals i) r
opening_row i preds reading r e o m = by (subst (HasRow r) o.is m)
  where
    by : AnyHasRow r (readings_of o.hypotheses) ⊎ (HasRow r o.goal ⊎ ⊥) → IsRowIn (terms_in i) (implication_literals i) r
    by (inl h) =
        each_row (terms_in i) (implication_literals i) preds o.hypotheses r (subst (λ ps. AreReadings (terms_in i) ps o.hypotheses) e o.are_hypotheses) (hypothesis_literal preds i e) h
    by (inr (inl h)) =
        row_in_more (terms_in i) (comparisons_of (reading_of false i.goal)) (implication_literals i) r (goal_literal i) (gathered_row (terms_in i) (reading_of false i.goal) o.goal r o.is_goal h)
    by (inr (inr h)) = absurd h

-- ---- the rows of pairs

rows_of : (terms : List Sum) (cs : List Comparison) (rs : List Row) (r : Row) → AreRowsOf terms cs rs → AnyHasRow r (readings_of (map row rs)) → IsRowIn terms cs r
rows_of terms [] [] r a m = absurd m
rows_of terms (c ∷ cs) (q ∷ rs) r a (inl m) = record { literal = c; among = Contains-append_left (c ∷ []) cs c (0, omega arith, refl); is = subst (IsRowOf terms c) m a.0 }
rows_of terms (c ∷ cs) (q ∷ rs) r a (inr m) = row_in_more terms cs (c ∷ cs) r (λ x h. Contains-append_right (c ∷ []) cs x h) (rows_of terms cs rs r a.1 m)
rows_of terms [] (q ∷ rs) r a m = absurd a
rows_of terms (c ∷ cs) [] r a m = absurd a

one_of : (rs : List Row) (r : Row) → HasRow r (reading_of_rows rs) → AnyHasRow r (readings_of (map row rs))
one_of [] r m = m
one_of (q ∷ []) r m = inl m
one_of (q ∷ p ∷ rs) r m = m

-- the comparisons of some lists
abbrev all_of_them : List (List Comparison) → List Comparison
all_of_them [] = []
all_of_them (cs ∷ css) = cs ++ all_of_them css

ways_row : (terms : List Sum) (css : List (List Comparison)) (rs : Readings Row) (r : Row) → AreWays terms css rs → AnyHasRow r rs → IsRowIn terms (all_of_them css) r
ways_row terms [] none r w m = absurd m
ways_row terms (cs ∷ css) (more q rs) r w (inl m) =
    row_in_more terms cs (cs ++ all_of_them css) r (λ x h. Contains-append_left cs (all_of_them css) x h)
    (rows_of terms cs w.0.rows r w.0.are (one_of w.0.rows r (subst (HasRow r) w.0.is m)))
ways_row terms (cs ∷ css) (more q rs) r w (inr m) =
    row_in_more terms (all_of_them css) (cs ++ all_of_them css) r (λ x h. Contains-append_right cs (all_of_them css) x h) (ways_row terms css rs r w.1 m)
ways_row terms [] (more q rs) r w m = absurd w
ways_row terms (cs ∷ css) none r w m = absurd w

pair_row : (terms : List Sum) (pair : Pair) (r : Row) → IsPair terms pair → pair.left < pair.right → AnyHasRow r (nnfs_view pair.ways) → IsRowIn terms (all_pairs terms) r
pair_row terms pair r p l m = by pair.left pair.right l p.is_first p.is_second
  where
    rows : IsRowIn terms (pair_rows p.first p.second) r
    rows =
        subst (λ cs. IsRowIn terms cs r) (sym (condition_of p.first p.first_left p.first_right p.second p.second_left p.second_right p.apply))
        (ways_row terms (five_ways p.first p.first_left p.first_right p.second p.second_left p.second_right) (nnfs_view pair.ways) r p.ways m)

    by : (j k : ℕ) → j < k → application_at terms j p.first → application_at terms k p.second → IsRowIn terms (all_pairs terms) r
    by zero k l e f = cc
    by (suc j) zero l e f = cc
    by (suc j) (suc k) l e f = row_in_more terms (pair_rows p.first p.second) (all_pairs terms) r (pair_among terms j k p.first p.second (omega (arith, l)) e f) rows

way_row : (terms : List Sum) (pairs : List Pair) (k : ℕ) (members : Readings Row) (r : Row) → All (IsPair terms) pairs → AreOrdered pairs → slice_get (ways_of pairs) k ≡ Some members
    → AnyHasRow r members → IsRowIn terms (all_pairs terms) r
way_row terms [] k members r p o e m = cc
way_row terms (x ∷ pairs) zero members r p o e m =
    let same : nnfs_view x.ways ≡ members = cc in
    pair_row terms x r (All-head (IsPair terms) x pairs p) (All-head (λ (y : Pair). y.left < y.right) x pairs o) (subst (AnyHasRow r) (sym same) m)
way_row terms (x ∷ pairs) (suc k) members r p o e m = way_row terms pairs k members r (All-tail (IsPair terms) x pairs p) (All-tail (λ (y : Pair). y.left < y.right) x pairs o) e m

-- ---- facts

-- what is known of the reading and the pairs with which a search begins
pub record Begins (i : ClosedImplication) (preds : List Pred) (reading : Reading Row) (pairs : List Pair) : Type 0 where
  pub hypotheses : i.hypotheses ≡ map formula_of preds
  pub opening : IsOpeningReading (terms_in i) i reading
  pub each : All (IsPair (terms_in i)) pairs
  pub ordered : AreOrdered pairs

pub begins : (terms : List Sum) (i : ClosedImplication) (preds : List Pred) (reading : Reading Row) (pairs : List Pair) → terms ≡ terms_in i → i.hypotheses ≡ map formula_of preds
    → IsOpeningReading terms i reading → All (IsPair terms) pairs → AreOrdered pairs → Begins i preds reading pairs
begins terms i preds reading pairs e h o each ordered = record {
  hypotheses = h;
  opening = subst (λ ts. IsOpeningReading ts i reading) e o;
  each = subst (λ ts. All (IsPair ts) pairs) e each;
  ordered = ordered;
}

pub its_row : (i : ClosedImplication) (preds : List Pred) (reading : Reading Row) (pairs : List Pair) → Begins i preds reading pairs → (r : Row) → MayTake (terms_in i) (taken nothing reading) (ways_of pairs) r
    → IsItsRow i r
its_row i preds reading pairs b r m = by (subst (λ p. MayTake (terms_in i) p (ways_of pairs) r) (taking.taken_is nothing reading) m)
  where
    of_reading : HasRow r reading → IsItsRow i r
    of_reading h = opening_row i preds reading r b.hypotheses b.opening h

    by : MayTake (terms_in i) (taking.path_with nothing (taking.facts_of reading) (taking.choices_of reading)) (ways_of pairs) r → IsItsRow i r
    by (of_fact k e) = of_reading (fact_has reading k r e)
    by (of_choice k members e h) = of_reading (choice_has reading k members r e h)
    by (of_way k members e h) =
        row_in_more (terms_in i) (all_pairs (terms_in i)) (implication_literals i) r (pair_literal i) (way_row (terms_in i) pairs k members r b.each b.ordered e h)
    by (of_equation p one e) =
        subst (IsItsRow i) (sym e) (row_in_more (terms_in i) (all_pairs (terms_in i)) (implication_literals i) (equation p) (pair_literal i) (equation_row (terms_in i) p one))

pub its_facts : (i : ClosedImplication) (preds : List Pred) (reading : Reading Row) (pairs : List Pair) (n : ℕ) (facts : List Fact) → Begins i preds reading pairs
    → n ≤ sizes (all_pairs (terms_in i)) → MayReach (terms_in i) (taken nothing reading) (ways_of pairs) (n + most row_size reading) facts → AreItsFacts i facts
its_facts i preds reading pairs n facts b le h = record {
  each = All-weaker {X = ℕ × Row} (λ r. MayTake (terms_in i) (taken nothing reading) (ways_of pairs) r.1) (λ r. IsItsRow i r.1) (λ r. its_row i preds reading pairs b r.1) (rows_among facts) h.each;
  sizes = let w = h.sizes in let o = opening_most (terms_in i) i reading b.opening in omega (arith, w, o, le);
}

-- ---- difference implications

its_difference : (i : ClosedImplication) → IsDifferenceImplication i → (r : Row) → IsItsRow i r → IsDifference r.parts
its_difference i d r l = d l.literal r l.among l.is

pub differences : (i : ClosedImplication) → IsDifferenceImplication i → (rows : Tagged) → All (λ (r : ℕ × Row). IsItsRow i r.1) rows → AreDifferences rows
differences i d [] a = tt
differences i d (r ∷ rows) a =
    (its_difference i d r.1 (All-head (λ (x : ℕ × Row). IsItsRow i x.1) r rows a), differences i d rows (All-tail (λ (x : ℕ × Row). IsItsRow i x.1) r rows a))

-- ---- stops

-- a tableau that was handed rows of the implication alone spent its pivots
spent_on : (limit : ℕ) (i : ClosedImplication) (facts : List Fact) (k l : ℕ) → AreItsFacts i facts → HasStops (length (terms_in i)) limit [] (IsItsRow i) facts (linear.Pivots k) → k ≡ l
    → (IsDifferenceImplication i → ⊥) × (l ≡ limit) × IsSpentOn limit i
spent_on limit i facts k l are h is = by h.any
  where
    by : ⊥ ⊎ StopsInTableau (length (terms_in i)) limit [] (IsItsRow i) (linear.Pivots k) → (IsDifferenceImplication i → ⊥) × (l ≡ limit) × IsSpentOn limit i
    by (inl e) = absurd e
    by (inr s) = (
      λ d. h.differences (differences i d (rows_among facts) are.each),
      sym is ∙ s.stops.0,
      record { ever = s.more; each = s.each; standing = s.standing; each_stands = s.each_stands; spent = s.stops.1 },
    )

its_stops : (limit : ℕ) (i : ClosedImplication) (preds : List Pred) (reading : Reading Row) (pairs : List Pair) (facts : List Fact) (stop : LinearStop) → Begins i preds reading pairs
    → HasStops (length (terms_in i)) limit [] (MayTake (terms_in i) (taken nothing reading) (ways_of pairs)) facts stop → HasStops (length (terms_in i)) limit [] (IsItsRow i) facts stop
its_stops limit i preds reading pairs facts stop b h =
    may_stop_as (MayTake (terms_in i) (taken nothing reading) (ways_of pairs)) (IsItsRow i) (length (terms_in i)) limit [] (rows_among facts) stop (its_row i preds reading pairs b) h

stops_of : (limit : ℕ) (i : ClosedImplication) (preds : List Pred) (reading : Reading Row) (pairs : List Pair) (n : ℕ) (linear_stop : LinearStop) (stop : Stop) → CanBeGathered i
    → Begins i preds reading pairs → n ≤ sizes (all_pairs (terms_in i)) → IsStopOf linear_stop stop
    → StopsSearch (terms_in i) (length (terms_in i)) limit [] (taken nothing reading) (ways_of pairs) (n + most row_size reading) linear_stop → StopsProving limit i stop
stops_of limit i preds reading pairs n (linear.Number e) (Number f) g b le is h = (
  g,
  inl (record {
    facts = h.facts;
    few = h.few;
    are = its_facts i preds reading pairs n h.facts b le h.reached;
    stops = subst (λ x. HasStops (length (terms_in i)) limit [] (IsItsRow i) h.facts (linear.Number x)) is (its_stops limit i preds reading pairs h.facts (linear.Number e) b h.stops);
  }),
)
stops_of limit i preds reading pairs n (linear.Pivots k) (Pivots l) g b le is h =
    let s = spent_on limit i h.facts k l (its_facts i preds reading pairs n h.facts b le h.reached) (its_stops limit i preds reading pairs h.facts (linear.Pivots k) b h.stops) is in
    (g, s.0, s.1, s.2)
stops_of limit i preds reading pairs n linear.Memory Memory g b le is h = tt
stops_of limit i preds reading pairs n (linear.Number e) (Gather p) g b le is h = absurd is
stops_of limit i preds reading pairs n (linear.Number e) (Pivots k) g b le is h = absurd is
stops_of limit i preds reading pairs n (linear.Number e) Memory g b le is h = absurd is
stops_of limit i preds reading pairs n (linear.Pivots k) (Number f) g b le is h = absurd is
stops_of limit i preds reading pairs n (linear.Pivots k) (Gather p) g b le is h = absurd is
stops_of limit i preds reading pairs n (linear.Pivots k) Memory g b le is h = absurd is
stops_of limit i preds reading pairs n linear.Memory (Number f) g b le is h = absurd is
stops_of limit i preds reading pairs n linear.Memory (Gather p) g b le is h = absurd is
stops_of limit i preds reading pairs n linear.Memory (Pivots l) g b le is h = absurd is

pub search_stops : (terms limit : ℕ) (i : ClosedImplication) (preds : List Pred) (reading : Reading Row) (pairs : List Pair) (n : ℕ) (linear_stop : LinearStop) (stop : Stop)
    → terms ≡ length (terms_in i) → CanBeGathered i → Begins i preds reading pairs → n ≤ sizes (all_pairs (terms_in i)) → IsStopOf linear_stop stop
    → StopsSearch (terms_in i) terms limit [] (taken nothing reading) (ways_of pairs) (n + most row_size reading) linear_stop → StopsProving limit i stop
search_stops terms limit i preds reading pairs n linear_stop stop same g b le is h =
    stops_of limit i preds reading pairs n linear_stop stop g b le is (subst (λ k. StopsSearch (terms_in i) k limit [] (taken nothing reading) (ways_of pairs) (n + most row_size reading) linear_stop) same h)

pub point_stops : (limit : ℕ) (i : ClosedImplication) (stop : Stop) → CanBeGathered i → IsPointStop i stop → StopsProving limit i stop
point_stops limit i (Number e) g h = (g, inr h)
point_stops limit i (Gather p) g h = absurd h
point_stops limit i (Pivots k) g h = absurd h
point_stops limit i Memory g h = tt

-- ---- small difference implications

none_by_number : (limit : ℕ) (i : ClosedImplication) (e : NumberPast) → IsSmallDifference i → StopsOnFacts limit i (linear.Number e) → ⊥
none_by_number limit i e s h =
    let by = h.stops.differences (differences i s.difference (rows_among h.facts) h.are.each) in
    let large = by.1 in let w = h.are.sizes in let l = s.small in omega (arith, large, w, l)

pub small_stops : (limit : ℕ) (i : ClosedImplication) (stop : Stop) → StopsProving limit i stop → IsSmallDifference i → StopsSmall stop
small_stops limit i (Number e) (g, inl h) s = absurd (none_by_number limit i e s h)
small_stops limit i (Number e) (g, inr h) s = let large = h.large s.difference in let l = s.small in omega (arith, large, l)
small_stops limit i (Gather p) h s = tt
small_stops limit i (Pivots k) h s = h.1 s.difference
small_stops limit i Memory h s = tt

pub if_small : {X : Type 0} (limit : ℕ) (i : ClosedImplication) (r : Result X Stop) → IfErr r (StopsProving limit i) → IfErr r (λ stop. IsSmallDifference i → StopsSmall stop)
if_small {X} limit i (Ok x) h = tt
if_small {X} limit i (Err stop) h = small_stops limit i stop h

-- ---- stops before anything is proved

pub reading_stops : (limit : ℕ) (i : ClosedImplication) (stop : Stop) → StopsReading i stop → StopsProving limit i stop
reading_stops limit i (Gather p) h = h
reading_stops limit i (Number e) h = absurd h
reading_stops limit i (Pivots k) h = absurd h
reading_stops limit i Memory h = tt

pub reading_small : (i : ClosedImplication) (stop : Stop) → StopsReading i stop → StopsSmall stop × IsNoNumber stop
reading_small i (Gather p) h = (tt, tt)
reading_small i (Number e) h = absurd h
reading_small i (Pivots k) h = absurd h
reading_small i Memory h = (tt, tt)
