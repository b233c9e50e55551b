use Rattle.std.proofs.Common.{◌≡◌, ◌∙◌, ◌+◌, ◌≤◌, [], IfErr, ap, arith, length, refl, subst, sym}
use Rattle.lq_prover_case.specs.State.RowState.{terms_of as row_terms}
use Rattle.lq_prover_proof_tree.specs.Trees.Path.{nothing, taken}
use Rattle.lq_prover_proof_tree.specs.Literals.Gathered.{sizes}
use Rattle.lq_prover_search.proofs.PathLemmas.Leaves.{taken_begins}
use Rattle.lq_logic_predicates.specs.Literals.{all_pairs}
use Rattle.lq_logic_predicates.specs.NnfView.{nnf_view}
use Rattle.lq_logic_predicates.specs.PredView.{implication_of, pred_items}
use Rattle.lq_prover_search.specs.Search.Scope.{IsWithin}
use Rattle.lq_prover_search.specs.Search.SearchPath.{IsTaken, path_of, scope_of, ways_of}
use Rattle.lq_prover_search.specs.Search.Sizes.{most, row_size}
use Rattle.lq_prover_search.specs.Search.Stopping.{StopsFrom, StopsSearch, most_on}
use Rattle.lq_prover_search.proofs.SearchLemmas.Sizes.{most_taken}
use Rattle.lq_prover_search.proofs.SearchLemmas.Stops.{TakesNoMore}
use Rattle.lq_prover_valid.specs.Stopping.{StopsProving}
use Rattle.lq_prover_valid.proofs.Assumed.{stops_more}
use Rattle.lq_prover_valid.proofs.Halves.{begins_takes}
use Rattle.lq_prover_valid.proofs.Stopped.{begins, search_stops}
use Rattle.lq_prover_valid.proofs.proving.prove_given.Goals as goal

pub assume-requires-clause-within : goal.assume-requires-clause-within
assume-requires-clause-within c =
    let s = scope_of c.args.givens.now in
    let h = nnf_view c.in-Some.hypotheses.now in
    subst (λ x. IsWithin (scope_of x) h) (sym c.in-Ok.ensures.givens) (subst (IsWithin s) c.in-Some.ensures c.requires.within).0

pub prove_standing-requires-clause-goal_within : goal.prove_standing-requires-clause-goal_within
prove_standing-requires-clause-goal_within c = (subst (IsWithin (scope_of c.args.givens.now)) c.in-Some.ensures c.requires.within).1.0

pub prove_standing-requires-clause-givens : goal.prove_standing-requires-clause-givens
prove_standing-requires-clause-givens c = c.assume.ensures.givens ∙ c.in-Ok.ensures.givens

pub prove_standing-requires-clause-parts : goal.prove_standing-requires-clause-parts
prove_standing-requires-clause-parts c =
    let s = scope_of c.args.givens.now in
    let h = nnf_view c.in-Some.hypotheses.now in
    let g = nnf_view c.in-Some.goal.now in
    let p = c.in-Ok.standing.path in
    let q = c.assume.new.self.path in
    let t = subst (λ x. IsTaken (scope_of x) h p q) c.in-Ok.ensures.givens (rw c.in-None.is at c.in-Ok-assume.ensures.taken) in
    let begun = subst (λ x. path_of (scope_of x) p ≡ nothing) c.in-Ok.ensures.givens c.in-Ok.ensures.nothing in
    ap (λ x. taken x g) (t.path ∙ ap (λ x. taken x h) begun) ∙ sym (ap (taken nothing) c.in-Some.ensures)

pub prove_standing-requires-clause-handed : goal.prove_standing-requires-clause-handed
prove_standing-requires-clause-handed c = c.in-Ok-assume.ensures.handed [] c.in-Ok.ensures.handed

pub prove_standing-requires-clause-sizes : goal.prove_standing-requires-clause-sizes
prove_standing-requires-clause-sizes c =
    let s = scope_of c.args.givens.now in
    let h = nnf_view c.in-Some.hypotheses.now in
    let g = nnf_view c.in-Some.goal.now in
    let p = c.in-Ok.standing.path in
    let q = c.assume.new.self.path in
    let t = subst (λ x. IsTaken (scope_of x) h p q) c.in-Ok.ensures.givens (rw c.in-None.is at c.in-Ok-assume.ensures.taken) in
    let m = most_taken s h p q t in
    let k = c.in-Ok.ensures.sizes in
    let w : most row_size (nnf_view c.args.reading.now) ≡ most row_size h + (most row_size g + 0) = ap (most row_size) c.in-Some.ensures in
    let le = c.requires.sizes in omega (arith, m, k, w, le)

pub returns-in-None-clause-stop : goal.returns-in-None-clause-stop
returns-in-None-clause-stop c =
    let s = scope_of c.args.givens.now in
    let h = nnf_view c.in-Some.hypotheses.now in
    let p = c.in-Ok.standing.path in
    let q = c.assume.new.self.path in
    let t = subst (λ x. IsTaken (scope_of x) h p q) c.in-Ok.ensures.givens (rw c.in-None.is at c.in-Ok-assume.ensures.taken) in
    subst (λ n. IfErr c.prove_standing.result (StopsProving n (implication_of c.args.implication.now))) (t.limits.1 ∙ c.in-Ok.ensures.limit) c.prove_standing.ensures.stop

pub returns-in-Err-clause-stop : goal.returns-in-Err-clause-stop
returns-in-Err-clause-stop c =
    let s = scope_of c.args.givens.now in
    let h = nnf_view c.in-Some.hypotheses.now in
    let g = nnf_view c.in-Some.goal.now in
    let i = implication_of c.args.implication.now in
    let r = nnf_view c.args.reading.now in
    let pairs = c.args.givens.now.pairs.now in
    let p = c.in-Ok.standing.path in
    let preds = pred_items c.args.implication.now.hypotheses in
    let terms = row_terms p.state.rows in
    let limit = p.state.rows.pivots in
    let stop = c.in-Err.stop in
    let n = sizes (all_pairs s.terms) in
    let le = subst (λ ts. n ≤ sizes (all_pairs ts)) c.requires.terms (omega arith) in
    let e = c.in-Ok.ensures in
    let begun = subst (λ x. path_of (scope_of x) p ≡ nothing) e.givens e.nothing in
    let count = subst (λ x. terms ≡ length (scope_of x).terms) e.givens e.standing.ready.terms_are ∙ ap length c.requires.terms in
    let stops = subst (λ x. StopsFrom h (scope_of x) x.pairs.now p stop) e.givens c.in-Err.ensures.stop in
    let takes : TakesNoMore s.terms (ways_of pairs) (taken (path_of s p) h) (taken nothing r) =
    subst (λ x. TakesNoMore s.terms (ways_of pairs) (taken x h) (taken nothing r)) (sym begun)
    (subst (λ x. TakesNoMore s.terms (ways_of pairs) (taken nothing h) (taken nothing x)) (sym c.in-Some.ensures)
    (begins_takes s.terms (ways_of pairs) (taken nothing h) (taken (taken nothing h) g) (taken_begins (taken nothing h) g))) in
    let w : most row_size r ≡ most row_size h + (most row_size g + 0) = ap (most row_size) c.in-Some.ensures in
    let k = e.sizes in
    let z = c.requires.sizes in
    let small : most_on s p + most row_size h ≤ n + most row_size r = omega (arith, w, k, z) in
    subst (λ m. StopsProving m i c.stop_of.result) e.limit
    (search_stops terms limit i preds r pairs n stop c.stop_of.result count c.requires.gathers
    (begins s.terms i preds r pairs c.requires.terms refl c.requires.opening c.requires.given.each c.requires.ordered) le c.stop_of.ensures
    (subst (λ ts. StopsSearch ts terms limit [] (taken nothing r) (ways_of pairs) (n + most row_size r) stop) c.requires.terms
    (stops_more s.terms terms limit (ways_of pairs) (taken (path_of s p) h) (taken nothing r) (most_on s p + most row_size h) (n + most row_size r) stop takes small (stops [] e.handed))))
