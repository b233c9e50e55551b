use Rattle.std.proofs.Common.{◌≡◌, IfErr, ap, arith, subst}
use Rattle.lq_prover_proof_tree.specs.Trees.Path.{nothing, taken}
use Rattle.lq_logic_predicates.specs.NnfView.{nnf_view}
use Rattle.lq_logic_predicates.specs.PredView.{implication_of}
use Rattle.lq_prover_search.specs.Search.SearchPath.{path_of, scope_of}
use Rattle.lq_prover_valid.specs.Stopping.{StopsProving}
use Rattle.lq_prover_valid.proofs.proving.prove_whole.Goals as goal

pub prove_standing-requires-clause-parts : goal.prove_standing-requires-clause-parts
prove_standing-requires-clause-parts c =
    ap (λ p. taken p (nnf_view c.args.reading.now)) (subst (λ x. path_of (scope_of x) c.in-Ok.standing.path ≡ nothing) c.in-Ok.ensures.givens c.in-Ok.ensures.nothing)

pub prove_standing-requires-clause-sizes : goal.prove_standing-requires-clause-sizes
prove_standing-requires-clause-sizes c = let m = c.in-Ok.ensures.sizes in let k = c.requires.sizes in omega (arith, m, k)

pub returns-clause-stop : goal.returns-clause-stop
returns-clause-stop c =
    subst (λ n. IfErr c.prove_standing.result (StopsProving n (implication_of c.args.implication.now))) c.in-Ok.ensures.limit c.prove_standing.ensures.stop
