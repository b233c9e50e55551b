use Rattle.std.proofs.Common.{map, subst, IfSome, IfNone}
use Rattle.lq_prover_proof_tree.specs.Literals.Gathered.{AllGathered, IsFirstPast}
use Rattle.lq_prover_proof_tree.specs.Literals.Sources.{row_source}
use Rattle.lq_prover_proof_tree.proofs.LiteralsLemmas.Leading.{rows_begin, rows_next, rows_found}
use Rattle.lq_logic_predicates.specs.Literals.{pair_rows}
use Rattle.lq_logic_predicates.specs.PredView.{formula_of}
use Rattle.lq_logic_predicates.specs.TableView.{terms_of}
use Rattle.lq_logic_predicates.specs.TermView.{sum_of}
use Rattle.lq_prover_proof_tree.proofs.literals.pairs.first_past_with.Goals as goal

pub loop-later-init : goal.loop-later-init
loop-later-init c = rows_begin (terms_of c.args.terms.now) (sum_of c.term-term.result.now) c.args.at c.term-term.ensures

pub returns-in-Some-clause-some : goal.returns-in-Some-clause-some
returns-in-Some-clause-some c =
    let t = sum_of c.term-term.result.now in let u = sum_of c.term.result.now in
    rows_found (terms_of c.args.terms.now) t u c.args.at c.loop-later.later (formula_of c.in-Some.pred) c.term.ensures c.loop-later.invariant
    (subst (λ o. IfSome o (λ p. IsFirstPast (map row_source (pair_rows t u)) (formula_of p))) c.in-Some.is c.in_ok-pred.ensures.some)

pub loop-later-preserved : goal.loop-later-preserved
loop-later-preserved c =
    let t = sum_of c.term-term.result.now in let u = sum_of c.term.result.now in
    rows_next (terms_of c.args.terms.now) t u c.args.at c.loop-later.later c.term.ensures c.loop-later.invariant
    (subst (λ o. IfNone o (AllGathered (map row_source (pair_rows t u)))) c.in-None.is c.in_ok-pred.ensures.none)
