use Rattle.std.proofs.Common.{map, drop}
use Rattle.lq_prover_proof_tree.specs.Literals.RowView.{row_views}
use Rattle.lq_prover_proof_tree.specs.Literals.Sources.{row_source}
use Rattle.lq_prover_proof_tree.proofs.LiteralsLemmas.Leading.{Leads}
use Rattle.lq_prover_proof_tree.proofs.literals.pairs.first_past_row.Given as goal

abbrev pub invariant-loop-row : goal.invariant-loop-row
invariant-loop-row l = Leads (map row_source (row_views (drop l.row-index l.rows))) (map row_source (row_views l.rows))
