use Rattle.std.proofs.Common.{◌≡◌, subst, arith}
use Rattle.lq_types_rules.specs.Constructors.Building.{IsBase}
use Rattle.lq_types_rules.proofs.ConstructorsLemmas.Placing.{open_none, open_more, open_base}
use Rattle.lq_types_rules.proofs.constructors.building.base.Goals as goal

pub loop-init : goal.loop-init
loop-init c = open_none c.new-types.result c.new-types.ensures.arena c.new-types.ensures.none

pub loop-preserved : goal.loop-preserved
loop-preserved c = open_more c.loop.types c.open.new.self c.loop.counter c.in_ok-open.field-0 c.loop.invariant c.in_ok-open.ensures.added

pub returns : goal.returns
returns c =
    let e : c.loop.counter ≡ c.args.count = let b = c.loop-test.false in let d = c.loop.auto.counter-end in omega arith in
    subst (IsBase c.loop.types) e (open_base c.loop.types c.loop.counter c.loop.invariant)
