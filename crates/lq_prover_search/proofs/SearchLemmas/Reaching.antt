-- Where a search stops or ends from one path, it does so from the path before.
use Rattle.std.proofs.Common.{◌≡◌, ◌∙◌, ℕ, ◌+◌, ◌^◌, ◌<◌, ◌≤◌, List, [], ◌++◌, true, false, Option, Some, None, Result, Ok, Err, IfErr, IfNone, IfOk, get_or, length, map, set, slice_get, refl, sym, ap, subst, append_assoc, append-nil, arith}
use Rattle.std.proofs.lemmas.List.{length-append}
use Rattle.lq_prover_case.specs.State.PathState.{HandsMore, HasHanded, HasStops, KeepsHanded, PathState, facts_in}
use Rattle.lq_prover_case.specs.State.RowState.{terms_of}
use Rattle.lq_prover_case.specs.State.Stored.{Stands}
use Rattle.lq_prover_case.proofs.StateLemmas.Handing.{hands_as, hands_kept, hands_then, may_stop_as}
use Rattle.lq_prover_proof_tree.specs.Trees.Path.{Fact, Path, taken}
use Rattle.lq_prover_proof_tree.specs.Trees.Proves.{rows_among}
use Rattle.lq_prover_differences.specs.Stops.{StopsBy}
use Rattle.lq_prover_differences.specs.Table.{constants}
use Rattle.lq_prover_case.specs.Equations.Equating.{AddsEquations, Grows, equation_fact}
use Rattle.lq_prover_case.specs.Equations.Naming.{name_in}
use Rattle.lq_logic_rows.specs.Row.{Row}
use Rattle.lq_logic_rows.specs.declared.engine.LinearStop.{LinearStop}
use Rattle.lq_prover_search.specs.Path.SearchPath.{SameLimits, choices_of}
use Rattle.lq_prover_search.specs.declared.path.choice.Choice.{Choice}
use Rattle.lq_logic_predicates.specs.NnfView.{nnf_items, nnf_view, nnfs_view}
use Rattle.lq_logic_predicates.specs.Reading.{Reading, Readings, any_of, yes}
use Rattle.lq_logic_predicates.specs.Sum.{Sum}
use Rattle.lq_logic_predicates.specs.declared.nnf.Nnf.{Nnf}
use Rattle.lq_logic_predicates.specs.declared.nnf.Nnfs.{Nnfs}
use Rattle.lq_prover_search.proofs.PruningLemmas.Taking as taking
use Rattle.lq_prover_search.specs.Search.Scope.{Scope}
use Rattle.lq_prover_search.specs.Search.SearchPath.{IsBack, IsTaken, KeepsFacts, facts_of, path_of, ways_of}
use Rattle.lq_prover_search.specs.Search.Sizes.{most, row_size}
use Rattle.lq_prover_search.specs.Search.Stopping.{HandsFrom, MayReach, MayTake, ReachesFrom, StopsFrom, StopsSearch, most_on, most_open}
use Rattle.lq_prover_search.specs.declared.search.pair.Pair.{Pair}
use Rattle.lq_prover_search.specs.declared.search.search_path.SearchPath.{SearchPath}
use Rattle.lq_prover_search.proofs.SearchLemmas.Ready.{marked_members}
use Rattle.lq_prover_search.proofs.SearchLemmas.Sizes.{added_sizes, fact_sizes-append, member_most, most_back, most_equated, most_open-marked, most_taken, on_is, sizes_among}
use Rattle.lq_prover_search.proofs.SearchLemmas.Steps.{members_at, path_back}
use Rattle.lq_prover_search.proofs.SearchLemmas.Stops.{TakesNoMore, choice_takes, equations_take, may_stop, member_takes, reached_before, reached_here, standing_take, stops_before, stops_here, way_takes}
use Rattle.lq_prover_search.proofs.SearchLemmas.Weights.{with_done}

-- ---- facts are kept

grows_by : (a b more : List Fact) → b ≡ a ++ more → Grows a b
grows_by a b more e = record { more = more; is = e }

pub keeps_then : (s t u : PathState) → KeepsFacts s t → KeepsFacts t u → KeepsFacts s u
keeps_then s t u h k = record {
  facts = λ name.
      let a = h.facts name in let b = k.facts name in
      grows_by (facts_in name s) (facts_in name u) (a.more ++ b.more) (b.is ∙ ap (λ l. l ++ b.more) a.is ∙ append_assoc (facts_in name s) a.more b.more);
  limits = (k.limits.0 ∙ h.limits.0, k.limits.1 ∙ h.limits.1, k.limits.2 ∙ h.limits.2);
}

pub keeps_back : (p q : SearchPath) → IsBack p q → KeepsFacts p.state q.state
keeps_back p q b = record {
  facts = λ name. grows_by (facts_in name p.state) (facts_in name q.state) [] (b.facts name ∙ sym (append-nil (facts_in name p.state)));
  limits = b.limits;
}

keeps_same : (s t : PathState) → t ≡ s → KeepsFacts s t
keeps_same s t e = subst (KeepsFacts s) (sym e)
    (record { facts = λ name. grows_by (facts_in name s) (facts_in name s) [] (sym (append-nil (facts_in name s))); limits = (refl, refl, refl) })

-- from the path p with the reading t the search goes on from q with r
pub record IsStep (s : Scope) (pairs : List Pair) (t : Reading Row) (p : SearchPath) (r : Reading Row) (q : SearchPath) : Type 0 where
  pub takes : TakesNoMore s.terms (ways_of pairs) (taken (path_of s q) r) (taken (path_of s p) t)
  pub sizes : most_on s q + most row_size r ≤ most_on s p + most row_size t
  pub kept : KeepsFacts p.state q.state
  pub handed : HandsFrom t s pairs p q

pub stops_step : (s : Scope) (pairs : List Pair) (t : Reading Row) (p : SearchPath) (r : Reading Row) (q : SearchPath) (stop : LinearStop) → IsStep s pairs t p r q
    → StopsFrom r s pairs q stop → StopsFrom t s pairs p stop
stops_step s pairs t p r q stop i h = λ ever e.
    stops_before s.terms (terms_of q.state.rows) q.state.rows.pivots (terms_of p.state.rows) p.state.rows.pivots ever i.handed.more (ways_of pairs) (taken (path_of s q) r) (taken (path_of s p) t)
    (most_on s q + most row_size r) (most_on s p + most row_size t) stop i.kept.limits.0 i.kept.limits.1 i.takes i.handed.each i.sizes (h (ever ++ i.handed.more) (i.handed.handed ever e))

pub hands_step : (s : Scope) (pairs : List Pair) (t : Reading Row) (p : SearchPath) (r : Reading Row) (q x : SearchPath) → IsStep s pairs t p r q → HandsFrom r s pairs q x
    → HandsFrom t s pairs p x
hands_step s pairs t p r q x i h =
    hands_then (MayTake s.terms (taken (path_of s p) t) (ways_of pairs)) p.state.rows.tableau q.state.rows.tableau x.state.rows.tableau i.handed
    (hands_as (MayTake s.terms (taken (path_of s q) r) (ways_of pairs)) (MayTake s.terms (taken (path_of s p) t) (ways_of pairs)) q.state.rows.tableau x.state.rows.tableau i.takes h)

-- what was handed stays
pub hands_same : (r : Reading Row) (s : Scope) (pairs : List Pair) (p q : SearchPath) → KeepsHanded p.state q.state → HandsFrom r s pairs p q
hands_same r s pairs p q k = hands_kept (MayTake s.terms (taken (path_of s p) r) (ways_of pairs)) p.state.rows.tableau q.state.rows.tableau k

pub hands_more : (r : Reading Row) (s : Scope) (pairs : List Pair) (p q x : SearchPath) → HandsFrom r s pairs p q → KeepsHanded q.state x.state → HandsFrom r s pairs p x
hands_more r s pairs p q x h k =
    let P = MayTake s.terms (taken (path_of s p) r) (ways_of pairs) in
    hands_then P p.state.rows.tableau q.state.rows.tableau x.state.rows.tableau h (hands_kept P q.state.rows.tableau x.state.rows.tableau k)

keeps_by : (s t : PathState) → t ≡ s → KeepsHanded s t
keeps_by s t e = subst (KeepsHanded s) (sym e) (λ ever h. h)

pub reached_step : (s : Scope) (pairs : List Pair) (t : Reading Row) (p : SearchPath) (r : Reading Row) (q x : SearchPath) → IsStep s pairs t p r q
    → ReachesFrom r s pairs q x → ReachesFrom t s pairs p x
reached_step s pairs t p r q x i h = record {
  kept = keeps_then p.state q.state x.state i.kept h.kept;
  facts = reached_before s.terms (ways_of pairs) (taken (path_of s q) r) (taken (path_of s p) t) (most_on s q + most row_size r) (most_on s p + most row_size t) (facts_of s x) i.takes i.sizes h.facts;
  handed = hands_step s pairs t p r q x i h.handed;
}

-- ---- steps

same_path : (ts : List Sum) (ways : List (Readings Row)) (p q : Path) → p ≡ q → TakesNoMore ts ways p q
same_path ts ways p q e = subst (TakesNoMore ts ways p) e (λ r m. m)

pub step_equated : (s : Scope) (pairs : List Pair) (p q : SearchPath) → ((name : ℕ → Sum) → AddsEquations s.terms (facts_in name p.state) (facts_in name q.state)) → q.choices.items ≡ p.choices.items → q.pairs.items ≡ p.pairs.items
    → SameLimits q.state p.state → KeepsHanded p.state q.state → IsStep s pairs yes p yes q
step_equated s pairs p q adds c d l k = let a = adds (name_in s.objects) in record {
  takes = equations_take s.terms (ways_of pairs) (path_of s p) (path_of s q) a (ap choices_of c);
  sizes = let m = most_equated s p q a c d in omega (arith, m);
  kept = record { facts = λ name. grows_by (facts_in name p.state) (facts_in name q.state) (map equation_fact (adds name).pairs) (adds name).is; limits = l };
  handed = hands_same yes s pairs p q k;
}

pub step_taken : (s : Scope) (pairs : List Pair) (r : Reading Row) (p q : SearchPath) → IsTaken s r p q → ((name : ℕ → Sum) → Grows (facts_in name p.state) (facts_in name q.state)) → KeepsHanded p.state q.state
    → IsStep s pairs r p yes q
step_taken s pairs r p q t g k = record {
  takes = same_path s.terms (ways_of pairs) (path_of s q) (taken (path_of s p) r) t.path;
  sizes = let m = most_taken s r p q t in omega (arith, m);
  kept = record { facts = g; limits = t.limits };
  handed = hands_same r s pairs p q k;
}

pub step_member : (s : Scope) (pairs : List Pair) (p q : SearchPath) (members : Nnfs) (items : List Nnf) (i : ℕ) (n : Nnf) → items ≡ nnf_items members → i < length items
    → n ≡ get_or items i n → IsBack p q → HandsFrom (any_of (nnfs_view members)) s pairs p q → IsStep s pairs (any_of (nnfs_view members)) p (nnf_view n) q
step_member s pairs p q members items i n e l is b h = record {
  takes = subst (λ x. TakesNoMore s.terms (ways_of pairs) (taken x (nnf_view n)) (taken (path_of s p) (any_of (nnfs_view members)))) (sym (path_back s p q b))
      (member_takes s.terms (ways_of pairs) (path_of s p) members items i n e l is);
  sizes = let m = most_back s p q b in let k = member_most members items i n e l is in omega (arith, m, k);
  kept = keeps_back p q b;
  handed = h;
}

same_facts : (s : Scope) (p q : SearchPath) → q.state ≡ p.state → constants (rows_among (facts_of s q)) ≡ constants (rows_among (facts_of s p))
same_facts s p q e = ap (λ x. constants (rows_among (facts_in (name_in s.objects) x))) e

pub step_marked : (s : Scope) (pairs : List Pair) (p q : SearchPath) (at : ℕ) (c : Choice) → q.state ≡ p.state → slice_get p.choices.items at ≡ Some c → c.is_done ≡ false
    → q.choices.items ≡ set p.choices.items at (with_done c true) → q.pairs.items ≡ p.pairs.items → IsStep s pairs yes p (any_of (nnfs_view c.members.now)) q
step_marked s pairs p q at c st here is_open is same = record {
  takes = subst (λ x. TakesNoMore s.terms (ways_of pairs) (taken x (any_of (nnfs_view c.members.now))) (path_of s p)) (sym path)
      (choice_takes s.terms (ways_of pairs) (path_of s p) at (nnfs_view c.members.now) (members_at p.choices.items at c here));
  sizes = let f = same_facts s p q st in let m = most_open-marked p.choices.items at c here is_open in let k = ap most_open is in let d = ap most_open same in omega (arith, f, m, k, d);
  kept = keeps_same p.state q.state st;
  handed = hands_same yes s pairs p q (keeps_by p.state q.state st);
}
  where
    path : path_of s q ≡ path_of s p
    path = ap (λ x. record { facts = facts_in (name_in s.objects) x; choices = choices_of q.choices.items }) st
        ∙ ap (λ c. record { facts = facts_of s p; choices = c }) (ap choices_of is ∙ marked_members p.choices.items at c true here)

pub step_pair_marked : (s : Scope) (pairs : List Pair) (p q : SearchPath) (at : ℕ) (c : Choice) (members : Readings Row) → choices_of p.pairs.items ≡ ways_of pairs
    → nnfs_view c.members.now ≡ members → q.state ≡ p.state → slice_get p.pairs.items at ≡ Some c → c.is_done ≡ false
    → q.pairs.items ≡ set p.pairs.items at (with_done c true) → q.choices.items ≡ p.choices.items → IsStep s pairs yes p (any_of members) q
step_pair_marked s pairs p q at c members ways e st here is_open is same = subst (λ rs. IsStep s pairs yes p (any_of rs) q) e (record {
  takes = subst (λ x. TakesNoMore s.terms (ways_of pairs) (taken x (any_of (nnfs_view c.members.now))) (path_of s p)) (sym path)
      (way_takes s.terms (ways_of pairs) (path_of s p) at (nnfs_view c.members.now) (ap (λ l. slice_get l at) (sym ways) ∙ members_at p.pairs.items at c here));
  sizes = let f = same_facts s p q st in let m = most_open-marked p.pairs.items at c here is_open in let k = ap most_open is in let d = ap most_open same in omega (arith, f, m, k, d);
  kept = keeps_same p.state q.state st;
  handed = hands_same yes s pairs p q (keeps_by p.state q.state st);
})
  where
    path : path_of s q ≡ path_of s p
    path = ap (λ x. record { facts = facts_in (name_in s.objects) x; choices = choices_of q.choices.items }) st
        ∙ ap (λ l. record { facts = facts_of s p; choices = choices_of l }) same

-- ---- where a stop comes from

-- a check, and equations
pub check_stops : (s : Scope) (pairs : List Pair) (p : SearchPath) (stop : LinearStop) → length (facts_of s p) < 2 ^ 63
    → ((ever : List Row) → HasHanded p.state ever → HasStops (terms_of p.state.rows) p.state.rows.pivots ever (Stands (rows_among (facts_of s p))) (facts_of s p) stop) → StopsFrom yes s pairs p stop
check_stops s pairs p stop few h = λ ever e.
    stops_here s.terms (terms_of p.state.rows) p.state.rows.pivots ever (path_of s p) (ways_of pairs) (most_on s p + most row_size yes) stop (omega arith) (omega (arith, few))
    (may_stop_as (Stands (rows_among (facts_of s p))) (MayTake s.terms (path_of s p) (ways_of pairs)) (terms_of p.state.rows) p.state.rows.pivots ever (rows_among (facts_of s p)) stop
    (standing_take s.terms (path_of s p) (ways_of pairs)) (h ever e))

pub equating_stops : (s : Scope) (pairs : List Pair) (p : SearchPath) (stop : LinearStop) → length (facts_of s p) < 2 ^ 63 → StopsBy (constants (rows_among (facts_of s p))) stop
    → StopsFrom yes s pairs p stop
equating_stops s pairs p stop few h = check_stops s pairs p stop few
    (λ ever e. may_stop (terms_of p.state.rows) p.state.rows.pivots ever (Stands (rows_among (facts_of s p))) (rows_among (facts_of s p)) stop h)

-- rows that a check hands
pub check_hands : (s : Scope) (pairs : List Pair) (p q : SearchPath) → HandsMore (Stands (rows_among (facts_of s p))) p.state q.state → HandsFrom yes s pairs p q
check_hands s pairs p q h =
    hands_as (Stands (rows_among (facts_of s p))) (MayTake s.terms (path_of s p) (ways_of pairs)) p.state.rows.tableau q.state.rows.tableau (standing_take s.terms (path_of s p) (ways_of pairs)) h

pub step_checked : (s : Scope) (pairs : List Pair) (p q : SearchPath) → IsBack p q → HandsMore (Stands (rows_among (facts_of s p))) p.state q.state → IsStep s pairs yes p yes q
step_checked s pairs p q b h = record {
  takes = same_path s.terms (ways_of pairs) (path_of s q) (path_of s p) (path_back s p q b);
  sizes = let m = most_back s p q b in omega (arith, m);
  kept = keeps_back p q b;
  handed = check_hands s pairs p q h;
}

-- what was known comes back
pub step_kept : (s : Scope) (pairs : List Pair) (p q : SearchPath) → IsBack p q → KeepsHanded p.state q.state → IsStep s pairs yes p yes q
step_kept s pairs p q b k = record {
  takes = same_path s.terms (ways_of pairs) (path_of s q) (path_of s p) (path_back s p q b);
  sizes = let m = most_back s p q b in omega (arith, m);
  kept = keeps_back p q b;
  handed = hands_same yes s pairs p q k;
}

pub checked_reaches : (s : Scope) (pairs : List Pair) (p q : SearchPath) → IsBack p q → HandsMore (Stands (rows_among (facts_of s p))) p.state q.state → ReachesFrom yes s pairs p q
checked_reaches s pairs p q b h = record {
  kept = keeps_back p q b;
  facts = subst (λ f. MayReach s.terms (path_of s p) (ways_of pairs) (most_on s p + most row_size yes) f) (sym (b.facts (name_in s.objects))) (reached_here s.terms (path_of s p) (ways_of pairs) (most_on s p + most row_size yes) (omega arith));
  handed = check_hands s pairs p q h;
}

-- literals that are taken
pub taking_stops : (s : Scope) (pairs : List Pair) (r : Reading Row) (p : SearchPath) (fs : List Fact) (stop : LinearStop) → fs ≡ taking.facts_of r
    → length (facts_of s p) < 2 ^ 63 → length fs < 2 ^ 63 → StopsBy (constants (rows_among (facts_of s p ++ fs))) stop → StopsFrom r s pairs p stop
taking_stops s pairs r p fs stop e few short h = λ ever k.
    let terms = terms_of p.state.rows in let limit = p.state.rows.pivots in
    let path = taking.path_with (path_of s p) (taking.facts_of r) (taking.choices_of r) in
    subst (λ x. StopsSearch s.terms terms limit ever x (ways_of pairs) (most_on s p + most row_size r) stop) (sym (taking.taken_is (path_of s p) r))
    (stops_here s.terms terms limit ever path (ways_of pairs) (most_on s p + most row_size r) stop le all_few
    (may_stop terms limit ever (MayTake s.terms path (ways_of pairs)) (rows_among (facts_of s p ++ taking.facts_of r)) stop (subst (λ l. StopsBy (constants (rows_among (facts_of s p ++ l))) stop) e h)))
  where
    all_few : length (facts_of s p ++ taking.facts_of r) < 2 ^ 64
    all_few = let n = length-append (facts_of s p) (taking.facts_of r) in let k = ap length e in omega (arith, n, k, few, short)

    le : constants (rows_among (facts_of s p ++ taking.facts_of r)) ≤ most_on s p + most row_size r
    le =
        let a = sizes_among (facts_of s p ++ taking.facts_of r) in let b = fact_sizes-append (facts_of s p) (taking.facts_of r) in
        let c = on_is s p in let d = added_sizes r in omega (arith, a, b, c, d)

-- ---- results

pub if_err_more : {X E : Type 0} {P Q : E → Type 0} (r : Result X E) → ((e : E) → P e → Q e) → IfErr r P → IfErr r Q
if_err_more {X} {E} {P} {Q} (Ok x) f h = tt
if_err_more {X} {E} {P} {Q} (Err e) f h = f e h

pub if_ok_none : {X E : Type 0} {P Q : Type 0} (r : Result (Option X) E) → (P → Q) → IfOk r (λ found. IfNone found P) → IfOk r (λ found. IfNone found Q)
if_ok_none {X} {E} {P} {Q} (Ok (Some x)) f h = tt
if_ok_none {X} {E} {P} {Q} (Ok None) f h = f h
if_ok_none {X} {E} {P} {Q} (Err e) f h = tt
