use Rattle.lq_refined_subtyping.proofs.TableLemmas.Twins.{put-behind, put-behind-twins}
use Rattle.lq_refined_subtyping.proofs.table.changes.put_behind.Goals as goal

pub returns-in_ok-after-in-Put-clause-same : goal.returns-in_ok-after-in-Put-clause-same
returns-in_ok-after-in-Put-clause-same c =
    λ scopes all. put-behind scopes all c.args.earlier.now c.args.by.now c.in-Put.first _ c.in-Put.is c.in_ok-after-in-Put.ensures

pub returns-in_ok-after-in-Twinned-clause-same : goal.returns-in_ok-after-in-Twinned-clause-same
returns-in_ok-after-in-Twinned-clause-same c =
    λ scopes all. put-behind-twins scopes all c.args.earlier.now c.args.by.now c.in-Twinned.first _ c.in-Twinned.is c.in_ok-after-in-Twinned.ensures
