use Rattle.std.proofs.Common.{◌≡◌, ◌∙◌, ◌+◌, ◌≤◌, [], ap, arith, length, refl, subst, sym}
use Rattle.std.proofs.lemmas.List.Elements.{All-weaker}
use Rattle.lq_prover_case.specs.State.RowState.{terms_of as row_terms}
use Rattle.lq_prover_proof_tree.specs.Trees.Path.{nothing, taken}
use Rattle.lq_prover_proof_tree.specs.Trees.Proves.{Proves}
use Rattle.lq_prover_proof_tree.specs.Trees.TreeView.{tree_view}
use Rattle.lq_prover_case.specs.Equations.Equating.{numbering_by}
use Rattle.lq_prover_proof_tree.specs.Literals.Gathered.{sizes}
use Rattle.lq_logic_predicates.specs.Literals.{all_pairs}
use Rattle.lq_logic_predicates.specs.NnfView.{nnf_view}
use Rattle.lq_logic_predicates.specs.PredView.{implication_of, pred_items}
use Rattle.lq_prover_search.specs.Search.Scope.{IsWithin}
use Rattle.lq_prover_search.specs.Search.SearchPath.{EndsMet, facts_of, path_of, scope_of, ways_of}
use Rattle.lq_prover_search.specs.Search.Sizes.{most, row_size}
use Rattle.lq_prover_search.specs.Search.Stopping.{MayReach, MayTake, ReachesFrom, StopsFrom, StopsSearch, most_on}
use Rattle.lq_prover_valid.specs.Stopping.{IsItsRow}
use Rattle.lq_prover_valid.proofs.Assumed.{reached_more, stops_same}
use Rattle.lq_prover_valid.proofs.Ending.{proves_implication}
use Rattle.lq_prover_valid.proofs.Stopped.{begins, its_facts, its_row, point_stops, search_stops}
use Rattle.lq_prover_valid.proofs.proving.prove_standing.Goals as goal

pub ask-requires-clause-within : goal.ask-requires-clause-within
ask-requires-clause-within c = subst (λ x. IsWithin (scope_of x) (nnf_view c.args.goal.now)) (sym c.requires.givens) c.requires.goal_within

pub point_of-requires-clause-met : goal.point_of-requires-clause-met
point_of-requires-clause-met c =
    let s = scope_of c.args.givens.now in
    let i = implication_of c.args.implication.now in
    let r = nnf_view c.args.reading.now in
    let g = nnf_view c.args.goal.now in
    let st = c.args.standing in
    let pairs = c.args.givens.now.pairs.now in
    subst (λ p. EndsMet s pairs p c.in-Open.ended.path) c.requires.parts
    (subst (λ x. EndsMet (scope_of x) x.pairs.now (taken (path_of (scope_of x) st.path) g) c.in-Open.ended.path) c.requires.givens (rw c.in-Open.is at c.in-Ok.ensures.met))

pub returns-in-Proved-clause-tree : goal.returns-in-Proved-clause-tree
returns-in-Proved-clause-tree c =
    let s = scope_of c.args.givens.now in
    let i = implication_of c.args.implication.now in
    let r = nnf_view c.args.reading.now in
    let g = nnf_view c.args.goal.now in
    let st = c.args.standing in
    let pairs = c.args.givens.now.pairs.now in
    let t = tree_view c.in-Proved.tree in
    proves_implication s.terms i r t c.requires.terms c.requires.opening
    (subst (λ p. Proves (numbering_by s.terms) p t) c.requires.parts
    (subst (λ x. Proves (numbering_by (scope_of x).terms) (taken (path_of (scope_of x) st.path) g) t) c.requires.givens (rw c.in-Proved.is at c.in-Ok.ensures.tree)))

pub point_of-requires-clause-facts : goal.point_of-requires-clause-facts
point_of-requires-clause-facts c =
    let s = scope_of c.args.givens.now in
    let i = implication_of c.args.implication.now in
    let r = nnf_view c.args.reading.now in
    let g = nnf_view c.args.goal.now in
    let st = c.args.standing in
    let pairs = c.args.givens.now.pairs.now in
    let n = sizes (all_pairs s.terms) in
    let preds = pred_items c.args.implication.now.hypotheses in
    let le = subst (λ ts. n ≤ sizes (all_pairs ts)) c.requires.terms (omega arith) in
    let facts = facts_of s c.in-Open.ended.path in
    let reached = subst (λ x. ReachesFrom g (scope_of x) x.pairs.now st.path c.in-Open.ended.path) c.requires.givens (rw c.in-Open.is at c.in-Ok.ensures.reached) in
    its_facts i preds r pairs n facts (begins s.terms i preds r pairs c.requires.terms refl c.requires.opening c.requires.given.each c.requires.ordered) le
    (subst (λ ts. MayReach ts (taken nothing r) (ways_of pairs) (n + most row_size r) facts) c.requires.terms
    (reached_more s.terms (ways_of pairs) (taken (path_of s st.path) g) (taken nothing r) (most_on s st.path + most row_size g) (n + most row_size r) facts c.requires.parts c.requires.sizes reached.facts))

pub point_of-requires-clause-handed : goal.point_of-requires-clause-handed
point_of-requires-clause-handed c =
    let s = scope_of c.args.givens.now in
    let i = implication_of c.args.implication.now in
    let r = nnf_view c.args.reading.now in
    let g = nnf_view c.args.goal.now in
    let st = c.args.standing in
    let pairs = c.args.givens.now.pairs.now in
    let preds = pred_items c.args.implication.now.hypotheses in
    let reached = subst (λ x. ReachesFrom g (scope_of x) x.pairs.now st.path c.in-Open.ended.path) c.requires.givens (rw c.in-Open.is at c.in-Ok.ensures.reached) in
    let begun = begins s.terms i preds r pairs c.requires.terms refl c.requires.opening c.requires.given.each c.requires.ordered in
    record {
      ever = reached.handed.more;
      each = All-weaker (MayTake s.terms (taken (path_of s st.path) g) (ways_of pairs)) (IsItsRow i)
          (λ q m. its_row i preds r pairs begun q
          (subst (λ ts. MayTake ts (taken nothing r) (ways_of pairs) q) c.requires.terms (subst (λ p. MayTake s.terms p (ways_of pairs) q) c.requires.parts m)))
          reached.handed.more reached.handed.each;
      handed = reached.handed.handed [] c.requires.handed;
    }

pub returns-in-Err-clause-stop : goal.returns-in-Err-clause-stop
returns-in-Err-clause-stop c =
    let s = scope_of c.args.givens.now in
    let i = implication_of c.args.implication.now in
    let r = nnf_view c.args.reading.now in
    let g = nnf_view c.args.goal.now in
    let st = c.args.standing in
    let pairs = c.args.givens.now.pairs.now in
    let limit = st.path.state.rows.pivots in
    let n = sizes (all_pairs s.terms) in
    let preds = pred_items c.args.implication.now.hypotheses in
    let le = subst (λ ts. n ≤ sizes (all_pairs ts)) c.requires.terms (omega arith) in
    let terms = row_terms st.path.state.rows in
    let count = subst (λ x. terms ≡ length (scope_of x).terms) c.requires.givens c.requires.standing.ready.terms_are ∙ ap length c.requires.terms in
    let stops = subst (λ x. StopsFrom g (scope_of x) x.pairs.now st.path c.in-Err.stop) c.requires.givens c.in-Err.ensures.stop in
    search_stops terms limit i preds r pairs n c.in-Err.stop c.stop_of.result count c.requires.gathers
    (begins s.terms i preds r pairs c.requires.terms refl c.requires.opening c.requires.given.each c.requires.ordered) le c.stop_of.ensures
    (subst (λ ts. StopsSearch ts terms limit [] (taken nothing r) (ways_of pairs) (n + most row_size r) c.in-Err.stop) c.requires.terms
    (stops_same s.terms terms limit (ways_of pairs) (taken (path_of s st.path) g) (taken nothing r) (most_on s st.path + most row_size g) (n + most row_size r) c.in-Err.stop
    c.requires.parts c.requires.sizes (stops [] c.requires.handed)))

pub returns-clause-stop : goal.returns-clause-stop
returns-clause-stop c =
    point_stops c.args.standing.path.state.rows.pivots (implication_of c.args.implication.now) c.in-Err-point_of.stop c.requires.gathers
    c.in-Err-point_of.ensures.stop
