use Rattle.std.proofs.Common.{◌∙◌, ◌++◌, ◌∷◌, [], ap, subst}
use Rattle.lq_logic_rows.specs.Contradiction.{Tagged}
use Rattle.lq_prover_differences.specs.Stops.{StopsBy}
use Rattle.lq_prover_differences.specs.Table.{constants}
use Rattle.lq_prover_case.proofs.StateLemmas.Evidence.{past_stops, stops_either}
use Rattle.lq_prover_case.proofs.state.stored.admit.Goals as goal

pub returns-in-Err-clause-stop : goal.returns-in-Err-clause-stop
returns-in-Err-clause-stop c =
    subst (λ (l : Tagged). StopsBy (constants (l ++ (c.args.tag, c.args.row.now) ∷ [])) c.in-Err.stop) c.allow.ensures.rows (past_stops _ c.in-Err.stop (c.in-Err.ensures.stop [] tt))

pub returns-in-Err-decide-clause-stop : goal.returns-in-Err-decide-clause-stop
returns-in-Err-decide-clause-stop c =
    subst (λ (l : Tagged). StopsBy (constants l) c.in-Err-decide.stop) (c.in-Ok-assert_row.ensures.stands ∙ ap (λ (l : Tagged). l ++ (c.args.tag, c.args.row.now) ∷ []) c.allow.ensures.rows)
    (stops_either _ c.in-Err-decide.stop c.in-Err-decide.ensures.stop)
