use Rattle.std.proofs.Common.{◌≡◌, ◌∙◌, [], length, map, sym, ap, subst}
use Rattle.std.proofs.lemmas.List.Elements.{All-weaker}
use Rattle.std.proofs.lemmas.Result.{err_from_is_err_and}
use Rattle.lq_prover_case.specs.State.PathState.{facts_in, objects_in}
use Rattle.lq_prover_case.specs.State.RowState.{MayStop, terms_of as row_terms}
use Rattle.lq_prover_case.specs.State.Stored.{Stands}
use Rattle.lq_prover_case.proofs.StateLemmas.Handing.{may_stop_as}
use Rattle.lq_prover_proof_tree.specs.Trees.Proves.{Clashes, Proves, by_clash, rows_among}
use Rattle.lq_prover_proof_tree.specs.Trees.Tree.{Tree, Trees, leaf}
use Rattle.lq_prover_proof_tree.specs.Trees.TreeView.{clash_of, tree_step, tree_view, trees_step}
use Rattle.lq_prover_proof_tree.specs.declared.trees.tree.ProofTree as ProofTree
use Rattle.lq_prover_decide.specs.Case.{fact_of, path_of}
use Rattle.lq_prover_decide.specs.CaseView.{case_of}
use Rattle.lq_prover_decide.specs.Deciding.{IsChainOfEquals}
use Rattle.lq_prover_case.specs.Equations.Equating.{AddsEquations, AreEquated, numbering_by}
use Rattle.lq_prover_case.specs.Equations.Naming.{AllTold, name_in, objects_of}
use Rattle.lq_prover_decide.specs.Stopping.{IsItsRow}
use Rattle.lq_prover_decide.proofs.Ends.{chain_of}
use Rattle.lq_prover_decide.proofs.Stopped.{added_row}
use Rattle.lq_prover_case.proofs.EquationsLemmas.Chains.{begun, ended}
use Rattle.lq_prover_case.proofs.EquationsLemmas.Equations.{adds_may_stop, may_stop_by}
use Rattle.lq_prover_case.proofs.EquationsLemmas.Joining.{second}
use Rattle.lq_prover_decide.proofs.Settling.{settled}
use Rattle.lq_prover_differences.specs.Stops.{StopsBy}
use Rattle.lq_prover_differences.specs.Table.{constants}
use Rattle.lq_logic_predicates.specs.TableView.{terms_of}
use Rattle.lq_prover_decide.proofs.searching.refute.Goals as goal

pub returns-in-Some-clause-tree : goal.returns-in-Some-clause-tree
unfolding ProofTree.out-ProofTree denote.Hole.Carrier.out
returns-in-Some-clause-tree c =
    let l = c.args.literals.now in
    let case = case_of l in
    let name = name_in (objects_of c.args.objects.now) in
    let facts_are = ap (map fact_of) c.as_slice.ensures ∙ c.facts.ensures in
    let k = clash_of c.in-Some.clash in
    let e : tree_view (ProofTree.Leaf c.in-Some.clash) ≡ leaf k = ProofTree.fold_out-ProofTree Tree Trees tree_step trees_step (ProofTree.Leaf c.in-Some.clash) in
    subst (Proves (numbering_by case.terms) (path_of case)) (sym e)
    (by_clash (path_of case) k (subst (λ fs. Clashes fs k) facts_are (rw c.in-Some.is at c.in_ok-clash.ensures.clash)))

pub returns-in-Some-found-clause-tree : goal.returns-in-Some-found-clause-tree
returns-in-Some-found-clause-tree c =
    let l = c.args.literals.now in
    let case = case_of l in
    let name = name_in (objects_of c.args.objects.now) in
    let facts_are = ap (map fact_of) c.as_slice.ensures ∙ c.facts.ensures in
    let T = terms_of c.table-table.result.now in
    let base = begun (numbering_by T) [] case.facts (facts_in name c.take_facts.new.state) ((rw c.in_default.is at c.in_ok-clash.ensures.stands) ∙ facts_are) in
    subst (λ ts. Proves (numbering_by ts) (path_of case) (tree_view c.in_ok-refutation.field-0)) c.table-table.ensures
    (subst (Proves (numbering_by T) (path_of case)) (sym c.in_ok-refutation.ensures.is)
    (ended (numbering_by T) (path_of case) [] c.in_ok-joints.joints.items (facts_in name c.equate_all.new.state) (clash_of c.in-Some-found.clash) (c.in_ok-joints.ensures.wraps (path_of case) [] base)
    (rw c.in-Some-found.is at c.in_ok-joints.ensures.clash)))

pub returns-in-Some-found-clause-form : goal.returns-in-Some-found-clause-form
returns-in-Some-found-clause-form c = subst IsChainOfEquals (sym c.in_ok-refutation.ensures.is) (chain_of c.in_ok-joints.joints.items (clash_of c.in-Some-found.clash))

pub returns-in_ok-refutation-in-Some-2-clause-tree : goal.returns-in_ok-refutation-in-Some-2-clause-tree
returns-in_ok-refutation-in-Some-2-clause-tree c =
    let l = c.args.literals.now in
    let case = case_of l in
    let name = name_in (objects_of c.args.objects.now) in
    let facts_are = ap (map fact_of) c.as_slice.ensures ∙ c.facts.ensures in
    let T = terms_of c.table-table.result.now in
    let base = begun (numbering_by T) [] case.facts (facts_in name c.take_facts.new.state) ((rw c.in_default.is at c.in_ok-clash.ensures.stands) ∙ facts_are) in
    subst (λ ts. Proves (numbering_by ts) (path_of case) (tree_view c.in_ok-refutation-in-Some-2.field-0)) c.table-table.ensures
    (subst (Proves (numbering_by T) (path_of case)) (sym c.in_ok-refutation-in-Some-2.ensures.is)
    (ended (numbering_by T) (path_of case) [] c.in_ok-joints.joints.items (facts_in name c.equate_all.new.state) (clash_of c.in-Some-2.clash) (c.in_ok-joints.ensures.wraps (path_of case) [] base)
    (subst (λ fs. Clashes fs (clash_of c.in-Some-2.clash)) (c.in_ok-clash-2.ensures.facts name) ((rw c.in-Some-2.is at c.in_ok-clash-2.ensures.some) name))))

pub returns-in_ok-refutation-in-Some-2-clause-form : goal.returns-in_ok-refutation-in-Some-2-clause-form
returns-in_ok-refutation-in-Some-2-clause-form c = subst IsChainOfEquals (sym c.in_ok-refutation-in-Some-2.ensures.is) (chain_of c.in_ok-joints.joints.items (clash_of c.in-Some-2.clash))

pub returns-in_err-clash-clause-stop : goal.returns-in_err-clash-clause-stop
returns-in_err-clash-clause-stop c =
    let case = case_of c.args.literals.now in
    let facts_are = ap (map fact_of) c.as_slice.ensures ∙ c.facts.ensures in
    let p = err_from_is_err_and c.from_residual.result c.from_residual.ensures.1 in
    let stop = c.in_err-clash.field-0.0 in
    rw (p.1, p.2) (may_stop_by (length case.terms) c.args.state.now.rows.pivots [] (IsItsRow case) case.facts stop (subst (λ fs. StopsBy (constants (rows_among fs)) stop) facts_are c.in_err-clash.ensures.stop))

pub returns-in_err-joints-clause-stop : goal.returns-in_err-joints-clause-stop
returns-in_err-joints-clause-stop c =
    let case = case_of c.args.literals.now in
    let name = name_in (objects_of c.args.objects.now) in
    let facts_are = ap (map fact_of) c.as_slice.ensures ∙ c.facts.ensures in
    let stands = (rw c.in_default.is at c.in_ok-clash.ensures.stands) ∙ facts_are in
    let p = err_from_is_err_and c.from_residual-in_err-joints.result c.from_residual-in_err-joints.ensures.1 in
    let stop = c.in_err-joints.field-0.0 in
    rw (p.1, p.2) (may_stop_by (length case.terms) c.args.state.now.rows.pivots [] (IsItsRow case) case.facts stop (subst (λ fs. StopsBy (constants (rows_among fs)) stop) stands c.in_err-joints.ensures.stop))

pub returns-in_err-clash-2-clause-stop : goal.returns-in_err-clash-2-clause-stop
returns-in_err-clash-2-clause-stop c =
    let case = case_of c.args.literals.now in
    let name = name_in (objects_of c.args.objects.now) in
    let facts_are = ap (map fact_of) c.as_slice.ensures ∙ c.facts.ensures in
    let stands = (rw c.in_default.is at c.in_ok-clash.ensures.stands) ∙ facts_are in
    let before = facts_in name c.take_facts.new.state in
    let after = facts_in name c.equate_all.new.state in
    let p = err_from_is_err_and c.from_residual-in_err-clash-2.result c.from_residual-in_err-clash-2.ensures.1 in
    let stop = c.in_err-clash-2.field-0.0 in
    let pivots = second c.in_ok-joints.ensures.limits ∙ second c.in_ok-clash.ensures.limits in
    let limit = c.args.state.now.rows.pivots in
    let terms = c.in_ok-joints.ensures.limits.0 ∙ c.in_ok-clash.ensures.limits.0 ∙ c.requires.terms in
    let adds = subst (λ ts. AddsEquations ts before after) c.table-table.ensures (c.in_ok-joints.ensures.adds name) in
    let handed = c.in_ok-joints.ensures.handed [] (c.in_ok-clash.ensures.handed [] c.requires.handed) in
    let rows = Stands (rows_among after) in
    rw (p.1, p.2) (subst (λ fs. MayStop (length case.terms) limit [] (IsItsRow case) (rows_among fs) stop) stands
    (adds_may_stop case.terms (length case.terms) limit [] (IsItsRow case) before after stop adds
    (may_stop_as rows (IsItsRow case) (length case.terms) limit [] (rows_among after) stop (added_row case before after stands adds)
    (subst (λ m. MayStop m limit [] rows (rows_among after) stop) terms
    (subst (λ n. MayStop (row_terms c.equate_all.new.state.rows) n [] rows (rows_among after) stop) pivots (c.in_err-clash-2.ensures.stop name [] handed))))))

pub returns-in-None-clause-settled : goal.returns-in-None-clause-settled
returns-in-None-clause-settled c =
    let l = c.args.literals.now in
    let case = case_of l in
    let objects = objects_of c.args.objects.now in
    let name = name_in objects in
    let facts_are = ap (map fact_of) c.as_slice.ensures ∙ c.facts.ensures in
    let s = c.take_facts.new.state in
    let t = c.equate_all.new.state in
    let u = c.check.new.self in
    let stands = (rw c.in_default.is at c.in_ok-clash.ensures.stands) ∙ facts_are in
    let told = subst (AllTold objects (objects_in s)) facts_are (rw c.in_default.is at c.in_ok-clash.ensures.told) in
    let equated = subst (λ ts. AreEquated objects ts (objects_in t) (facts_in name t)) c.table-table.ensures (rw c.in_default-found.is at c.in_ok-joints.ensures.equated) in
    let e = c.in_ok-clash-2.ensures in
    let solves = rw c.in-None.is at e.solves in
    settled objects case s t u stands told (subst (λ ts. AddsEquations ts (facts_in name s) (facts_in name t)) c.table-table.ensures (c.in_ok-joints.ensures.adds name)) c.in_ok-joints.ensures.objects equated (e.facts name) e.objects solves.0 (solves.1 name) ((rw c.in-None.is at e.flags) name)
    (rw c.in-None.is at e.apart)

pub returns-in-None-clause-handed : goal.returns-in-None-clause-handed
returns-in-None-clause-handed c =
    let case = case_of c.args.literals.now in
    let name = name_in (objects_of c.args.objects.now) in
    let facts_are = ap (map fact_of) c.as_slice.ensures ∙ c.facts.ensures in
    let stands = (rw c.in_default.is at c.in_ok-clash.ensures.stands) ∙ facts_are in
    let before = facts_in name c.take_facts.new.state in
    let after = facts_in name c.equate_all.new.state in
    let adds = subst (λ ts. AddsEquations ts before after) c.table-table.ensures (c.in_ok-joints.ensures.adds name) in
    let more = c.check.ensures.handed name in
    record {
      ever = more.more;
      each = All-weaker (Stands (rows_among after)) (IsItsRow case) (added_row case before after stands adds) more.more more.each;
      handed = more.handed [] (c.in_ok-joints.ensures.handed [] (c.in_ok-clash.ensures.handed [] c.requires.handed));
    }
