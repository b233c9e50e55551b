use Rattle.std.proofs.Common.{ℕ, All, Some, subst, sym}
use Rattle.lq_logic_rows.specs.Row.{Row}
use Rattle.lq_prover_case.specs.State.Stored.{Stands, tagged_rows}
use Rattle.lq_prover_case.proofs.StateLemmas.Handing.{all_stand, hands_kept, hands_then, stops_checked}
use Rattle.lq_prover_case.proofs.state.filling.decide_all.Goals as goal

pub returns-in-Ok-clause-handed : goal.returns-in-Ok-clause-handed
returns-in-Ok-clause-handed c =
    let P = Stands (tagged_rows c.args.rows.now) in
    hands_then P (Some c.args.tableau.now) (Some c.hand.new.tableau) (Some c.decide.new.engine) c.hand.ensures.handed
    (hands_kept P (Some c.hand.new.tableau) (Some c.decide.new.engine) c.decide.ensures.handed)

pub returns-in-Ok-clause-stop : goal.returns-in-Ok-clause-stop
returns-in-Ok-clause-stop c =
    let rows = tagged_rows c.args.rows.now in
    stops_checked (Stands rows) c.args.tableau.now c.hand.new.tableau c.decide.result
    (subst (All {X = ℕ × Row} (λ q. Stands rows q.1)) (sym c.in-Ok.ensures.all) (all_stand rows)) c.hand.ensures.handed c.hand.ensures.limits c.decide.ensures.stop

pub returns-in-Err-clause-handed : goal.returns-in-Err-clause-handed
returns-in-Err-clause-handed c =
    let P = Stands (tagged_rows c.args.rows.now) in
    hands_then P (Some c.args.tableau.now) (Some c.hand.new.tableau) (Some c.back_to.new.self) c.hand.ensures.handed
    (hands_kept P (Some c.hand.new.tableau) (Some c.back_to.new.self) c.back_to.ensures.handed)
