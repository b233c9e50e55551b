use Rattle.std.proofs.Common.{◌≡◌, ◌∙◌, ◌^◌, ◌<◌, arith, ap, length, map, sym, subst}
use Rattle.std.specs.List.{filter}
use Rattle.std.proofs.lemmas.List.{length-map}
use Rattle.lq_prover_proof_tree.specs.Trees.Proves.{Proves}
use Rattle.lq_prover_proof_tree.specs.Trees.TreeView.{tree_view}
use Rattle.lq_prover_decide.specs.Case.{Case, fact_of, numbering_of, path_of}
use Rattle.lq_prover_decide.specs.CaseView.{case_of}
use Rattle.lq_prover_decide.specs.Deciding.{Fits}
use Rattle.lq_prover_decide.specs.Stopping.{StopsOnRows}
use Rattle.lq_prover_case.specs.Equations.Equating.{numbering_by}
use Rattle.lq_prover_case.specs.Equations.Naming.{AllBelow, HasAllArguments, HasAllSides, name_in, objects_of}
use Rattle.lq_prover_decide.proofs.Holding.{all_below}
use Rattle.lq_prover_case.proofs.EquationsLemmas.Joining.{second}
use Rattle.lq_prover_decide.proofs.Stopped.{stops}
use Rattle.lq_prover_proof_tree.specs.Literals.Parts.{is_application}
use Rattle.lq_logic_predicates.specs.Table.{all_differ}
use Rattle.lq_prover_decide.proofs.deciding.decide_by.Goals as goal

numbering_is : (c : Case) → Fits c → numbering_by c.terms ≡ numbering_of c
numbering_is c f = ap (λ ts. record { terms = c.terms; applications = filter is_application ts }) f.complete

pub returns-in-Ok-Some-clause-tree : goal.returns-in-Ok-Some-clause-tree
returns-in-Ok-Some-clause-tree c =
    let case = case_of c.args.literals.now in
    let tree = rw c.in-Ok-Some.field-0-is at c.in-Ok-Some.ensures.tree in
    subst (λ n. Proves n (path_of case) (tree_view c.in-Ok-Some.tree)) (numbering_is case c.requires.fits) tree

pub returns-in-Ok-Some-clause-none : goal.returns-in-Ok-Some-clause-none
returns-in-Ok-Some-clause-none c = λ v p agrees point hold.
    let case = case_of c.args.literals.now in
    let distinct = ap all_differ (sym c.table.ensures) ∙ c.len-terms.ensures.distinct in
    let tree = rw c.in-Ok-Some.field-0-is at c.in-Ok-Some.ensures.tree in
    c.proved_cases_have_no_point.ensures case (tree_view c.in-Ok-Some.tree) v p distinct agrees point hold
    (subst (λ n. Proves n (path_of case) (tree_view c.in-Ok-Some.tree)) (numbering_is case c.requires.fits) tree)

pub returns-in-Err-clause-stop : goal.returns-in-Err-clause-stop
returns-in-Err-clause-stop c =
    let case = case_of c.args.literals.now in
    let items = c.args.literals.now.facts.items in
    let few : length case.facts < 2 ^ 63 =
    (let n = length-map items.items fact_of in let v = items.ok in let w = items.small in omega (arith, n, v, w)) in
    stops c.args.limit case c.in-Err.stop c.stop_of.result few (subst (λ n. StopsOnRows n case c.in-Err.stop) c.requires.limit c.in-Err.ensures.stop) c.stop_of.ensures

pub case_point-requires-clause-terms : goal.case_point-requires-clause-terms
case_point-requires-clause-terms c = c.in-Ok-None.ensures.terms ∙ c.requires.terms
