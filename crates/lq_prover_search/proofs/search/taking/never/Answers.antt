use Rattle.std.proofs.Common.{sym, subst, arith}
use Rattle.lq_prover_proof_tree.specs.Trees.Path.{taken}
use Rattle.lq_logic_predicates.specs.Reading.{no}
use Rattle.lq_prover_search.specs.Path.SearchPath.{IsLeafOf}
use Rattle.lq_prover_search.proofs.PathLemmas.Leaves.{never_is_next}
use Rattle.lq_prover_search.proofs.PathLemmas.Seen.{false_seen}
use Rattle.lq_prover_case.specs.State.PathState.{facts_in}
use Rattle.lq_prover_search.specs.Search.Parts.{path_with}
use Rattle.lq_prover_search.proofs.search.taking.never.Goals as goal

pub returns-in-Some-clause-leaf : goal.returns-in-Some-clause-leaf
returns-in-Some-clause-leaf c = λ name choices.
    let m = c.mark.ensures name in
    let e = c.in-Some.ensures in
    let p = path_with (facts_in name c.args.state.now) choices in
    subst (IsLeafOf (taken p no)) (sym (false_seen c.in-Some.number)) (never_is_next p c.in-Some.number (omega (arith, m, e)))
