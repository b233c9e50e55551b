use Rattle.lq_prover_case.specs.State.Stored.{Stands, tagged_rows}
use Rattle.lq_prover_case.proofs.StateLemmas.Handing.{stops_memory}
use Rattle.lq_prover_case.proofs.state.filling.decide_by.Goals as goal

pub returns-in_default-clause-stop : goal.returns-in_default-clause-stop
returns-in_default-clause-stop c = λ ever h. stops_memory (Stands (tagged_rows c.args.rows.now)) c.args.terms c.args.pivots ever
