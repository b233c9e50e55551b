use Rattle.std.proofs.Common.{map, subst, arith, IfSome, IfNone, ◌<◌, length}
use Rattle.lq_prover_proof_tree.specs.Literals.Gathered.{AllGathered, IsFirstPast}
use Rattle.lq_prover_proof_tree.specs.Literals.RowView.{rows_at}
use Rattle.lq_prover_proof_tree.specs.Literals.Sources.{row_source}
use Rattle.lq_prover_proof_tree.proofs.LiteralsLemmas.Leading.{pairs_next, pairs_found}
use Rattle.lq_logic_predicates.specs.PredView.{formula_of}
use Rattle.lq_logic_predicates.specs.TableView.{terms_of}
use Rattle.lq_prover_proof_tree.proofs.literals.pairs.first_past_pair.Goals as goal

pub returns-in-Some-clause-some : goal.returns-in-Some-clause-some
returns-in-Some-clause-some c =
    let ts = terms_of c.args.terms.now in let h : c.loop-at.at < length ts = omega arith in
    pairs_found ts c.loop-at.at (formula_of c.in-Some.pred) h c.loop-at.invariant
    (subst (λ o. IfSome o (λ p. IsFirstPast (map row_source (rows_at ts c.loop-at.at)) (formula_of p))) c.in-Some.is c.in_ok-pred.ensures.some)

pub loop-at-preserved : goal.loop-at-preserved
loop-at-preserved c =
    let ts = terms_of c.args.terms.now in let h : c.loop-at.at < length ts = omega arith in
    pairs_next ts c.loop-at.at h c.loop-at.invariant
    (subst (λ o. IfNone o (AllGathered (map row_source (rows_at ts c.loop-at.at)))) c.in-None.is c.in_ok-pred.ensures.none)
