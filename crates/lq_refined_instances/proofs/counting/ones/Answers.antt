use Rattle.std.proofs.Common.{◌≡◌, None}
use Rattle.lq_logic_predicates.specs.declared.symbol.Symbol.TheVariants.{Value}
use Rattle.lq_text_qualifiers.specs.declared.sorting.shape.Shape.TheVariants.{Int}
use Rattle.lq_refined_instances.specs.declared.scopes.Addition.{Addition}
use Rattle.lq_refined_instances.proofs.CountSteps.{ones-step}
use Rattle.lq_refined_instances.proofs.counting.ones.Goals as goal

pub loop-addition-preserved : goal.loop-addition-preserved
loop-addition-preserved c =
    let none : Addition = record { parent = 0; visible = record { symbol = Value; shape = Int }; hidden = None } in
    let A = c.deref-addition-items.result.now in
    let lent : A ≡ c.args.scopes.now.additions.items = c.deref-addition-items.ensures.value in
    ones-step c.args.scopes.now.additions.items A c.loop-addition._addition-index none c.loop-addition.counts.items c.push-in-loop-addition.new.self.items lent
    c.loop-addition-test.true c.loop-addition.invariant c.in_ok-push-2.ensures.items
