-- Who is where the flags and objects of a settled path are meets the path and the pairs.
use Rattle.std.proofs.Common.{◌≡◌, ℕ, zero, suc, List, [], ◌∷◌, ◌++◌, true, false, Some, slice_get, refl, ap, subst, ◌∙◌, eq-eqb}
use Rattle.std.proofs.lemmas.Bool.{ne_eqb}
use Rattle.lq_prover_case.specs.State.Flags.{HasValue}
use Rattle.lq_prover_case.specs.State.RowState.{row_point}
use Rattle.lq_prover_proof_tree.specs.Trees.Met.{AllChosen, AllHold, FactHolds, MeetsPath}
use Rattle.lq_prover_proof_tree.specs.Trees.Path.{Fact, row_fact, flag_fact, objects_fact, never, Path}
use Rattle.lq_prover_proof_tree.specs.Trees.Proves.{rows_from}
use Rattle.lq_prover_proof_tree.specs.Trees.Tree.{merges}
use Rattle.lq_logic_rows.specs.Contradiction.{Solves}
use Rattle.lq_logic_rows.specs.Row.{Row, RowHolds, Valuation}
use Rattle.lq_prover_case.specs.Objects.Joined.{differ, itself, onward}
use Rattle.lq_prover_search.specs.Path.Meeting.{IsAt, given_value}
use Rattle.lq_prover_search.specs.Path.SearchPath.{Begins}
use Rattle.lq_logic_predicates.specs.Points.{Point}
use Rattle.lq_logic_predicates.specs.Reading.{Readings}
use Rattle.lq_prover_search.specs.Search.Scope.{AllMayHold, MayHold, Scope}
use Rattle.lq_prover_search.specs.Search.SearchPath.{AreMet, EndsMet, IsSettled, facts_of, path_of, ways_of}
use Rattle.lq_prover_search.specs.declared.search.pair.Pair.{Pair}
use Rattle.lq_prover_search.specs.declared.search.search_path.SearchPath.{SearchPath}
use Rattle.lq_prover_search.proofs.SearchLemmas.Ready.{chosen, hold-left}

-- ---- facts

row_solved : (v : Valuation) (n : ℕ) (facts : List Fact) (k : ℕ) (r : Row) → Solves v (rows_from n facts) → slice_get facts k ≡ Some (row_fact r) → RowHolds v r
row_solved v n [] k r s e = cc
row_solved v n (row_fact x ∷ fs) zero r s e = let same : x ≡ r = cc in subst (RowHolds v) same s.0
row_solved v n (row_fact x ∷ fs) (suc k) r s e = row_solved v (suc n) fs k r s.1 e
row_solved v n (flag_fact x value ∷ fs) zero r s e = cc
row_solved v n (flag_fact x value ∷ fs) (suc k) r s e = row_solved v (suc n) fs k r s e
row_solved v n (objects_fact a b one ∷ fs) zero r s e = cc
row_solved v n (objects_fact a b one ∷ fs) (suc k) r s e = row_solved v (suc n) fs k r s e
row_solved v n (never ∷ fs) zero r s e = cc
row_solved v n (never ∷ fs) (suc k) r s e = row_solved v (suc n) fs k r s e

fact_may_hold : (facts : List Fact) (k : ℕ) (f : Fact) → AllMayHold facts → slice_get facts k ≡ Some f → MayHold f
fact_may_hold [] k f h e = cc
fact_may_hold (x ∷ facts) zero f h e = let same : x ≡ f = cc in subst MayHold same h.0
fact_may_hold (x ∷ facts) (suc k) f h e = fact_may_hold facts k f h.1 e

fact_holds : (s : Scope) (pairs : List Pair) (p : SearchPath) (q : Point) → IsSettled s pairs p → IsAt s.objects p.state q → (k : ℕ) (f : Fact) → slice_get (facts_of s p) k ≡ Some f
    → FactHolds (row_point p.state.rows) q f
fact_holds s pairs p q i at k (row_fact r) e = row_solved (row_point p.state.rows) 1 (facts_of s p) k r i.solves e
fact_holds s pairs p q i at k (flag_fact x value) e = by (i.flags (suc k) x value e)
  where
    by : HasValue p.state.flags x value → q.holds x ≡ value
    by (g, found, is) = at.flags x ∙ ap given_value found ∙ is
fact_holds s pairs p q i at k (objects_fact a b true) e =
    let t = i.ready.told k (objects_fact a b true) e in
    eq-eqb (q.class_of a) (q.class_of b)
    ((at.classes t.left t.right a b t.is_left t.is_right).1 (t.number ∷ [], onward t.number [] t.left t.right t.right t.says (itself t.right)))
fact_holds s pairs p q i at k (objects_fact a b false) e =
    let t = i.ready.told k (objects_fact a b false) e in
    ne_eqb (q.class_of a) (q.class_of b)
    (λ same. let one = (at.classes t.left t.right a b t.is_left t.is_right).0 same in i.apart (merges t.number one.0) (differ t.number one.0 t.left t.right t.says one.1))
fact_holds s pairs p q i at k never e = absurd (fact_may_hold (facts_of s p) k never i.ready.may_hold e)

all_hold : (v : Valuation) (p : Point) (facts : List Fact) → ((k : ℕ) (f : Fact) → slice_get facts k ≡ Some f → FactHolds v p f) → AllHold v p facts
all_hold v p [] h = tt
all_hold v p (f ∷ facts) h = (h 0 f refl, all_hold v p facts (λ k g e. h (suc k) g e))

-- ---- the path and the pairs

chosen-left : (v : Valuation) (p : Point) (xs ys : List (Readings Row)) → AllChosen v p (xs ++ ys) → AllChosen v p xs
chosen-left v p [] ys h = tt
chosen-left v p (x ∷ xs) ys h = (h.0, chosen-left v p xs ys h.1)

begun : (v : Valuation) (p : Point) (path new : Path) → Begins path new → MeetsPath v p new → MeetsPath v p path
begun v p path new b m = record {
  facts = hold-left v p path.facts b.facts (subst (AllHold v p) b.are_facts m.facts);
  choices = chosen-left v p path.choices b.choices (subst (AllChosen v p) b.are_choices m.choices);
}

pub ends_met : (s : Scope) (pairs : List Pair) (path : Path) (p : SearchPath) (q : Point) → EndsMet s pairs path p → IsAt s.objects p.state q
    → MeetsPath (row_point p.state.rows) q path × AllChosen (row_point p.state.rows) q (ways_of pairs)
ends_met s pairs path p q e at =
    let v = row_point p.state.rows in
    let hold = all_hold v q (facts_of s p) (fact_holds s pairs p q e.settled at) in
    let met : AreMet v q p.choices.items p.pairs.items = e.settled.ready.covered v q tt hold (e.settled.choices_met q at) (e.settled.pairs_met q at) in (
      begun v q path (path_of s p) e.begins (record { facts = hold; choices = chosen v q p.choices.items met.choices_are }),
      subst (AllChosen v q) e.settled.ready.pairs_are (chosen v q p.pairs.items met.pairs_are),
    )
