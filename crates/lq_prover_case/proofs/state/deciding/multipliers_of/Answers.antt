use Rattle.lq_prover_proof_tree.specs.Trees.TreeView.{multiplier_items}
use Rattle.lq_prover_case.proofs.StateLemmas.Reading.{views_more, views_all}
use Rattle.lq_prover_case.proofs.state.deciding.multipliers_of.Goals as goal

pub loop-pair-preserved : goal.loop-pair-preserved
loop-pair-preserved g c =
    views_more (multiplier_items c.loop-pair.found) (multiplier_items c.push.new.self) (g.E.LinearEngine.multipliers c.args.engine.now) c.in-Some.pair c.len.result
    c.len.ensures c.in_ok-push.ensures.ok c.loop-pair.invariant c.in-Some.ensures.some

pub returns : goal.returns
returns g c =
    views_all (multiplier_items c.loop-pair.found) (g.E.LinearEngine.multipliers c.args.engine.now) c.len.result c.len.ensures c.loop-pair.invariant
    c.in_default.ensures.none
