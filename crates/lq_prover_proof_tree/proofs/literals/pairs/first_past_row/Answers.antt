use Rattle.std.proofs.Common.{sym, subst, map, []}
use Rattle.std.proofs.lemmas.List.Elements.{All-nil, All-cons, All-head}
use Rattle.lq_prover_proof_tree.specs.Literals.Gathered.{IsFirstPast}
use Rattle.lq_prover_proof_tree.specs.Literals.RowView.{row_view, row_views}
use Rattle.lq_prover_proof_tree.specs.Literals.Sources.{row_source}
use Rattle.lq_prover_proof_tree.proofs.LiteralsLemmas.Leading.{leads_next, leads_here}
use Rattle.lq_logic_predicates.specs.Comparison.{CanGather}
use Rattle.lq_prover_proof_tree.proofs.literals.pairs.first_past_row.Goals as goal

pub returns-then-past-clause-some : goal.returns-then-past-clause-some
returns-then-past-clause-some c =
    let rows = c.args.rows.now in let x = c.row-item.result in
    subst (IsFirstPast (map row_source (row_views rows))) (sym c.in_ok-pred.ensures)
    (leads_here row_source row_view rows c.loop-row.row-index x c.loop-row-test.true c.row-item.is c.loop-row.invariant
    (λ all. c.in_ok-past.ensures.past c.if-past.true (All-head CanGather (row_view x) [] all)))

pub loop-row-preserved : goal.loop-row-preserved
loop-row-preserved c =
    let rows = c.args.rows.now in let x = c.row-item.result in
    leads_next row_source row_view rows c.loop-row.row-index x c.loop-row-test.true c.row-item.is c.loop-row.invariant
    (All-cons CanGather (row_view x) [] (c.in_ok-past.ensures.fits c.if-past.false) (All-nil CanGather))
