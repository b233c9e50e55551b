use Rattle.std.proofs.Common.{◌+◌, take, ap}
use Rattle.std.proofs.lemmas.List.{take_all}
use Rattle.lq_refined_templates.specs.Programs.BlockView.{item_view}
use Rattle.lq_generate_implications.specs.declared.walk.walk.Walk.{Walk}
use Rattle.lq_generate_implications.proofs.WalkLemmas.Stepping.{all-asked, begun-sound, begun-stands, items_on, items-more, steps-as, steps-trans}
use Rattle.lq_generate_implications.proofs.walk.program.ask_all.Goals as goal

pub loop-item-preserved : goal.loop-item-preserved
loop-item-preserved c =
    let b = c.args.basis.now in
    let w : Walk = record { types = c.args.types; list = c.in_ok-new.field-0; names = c.new-2.result; asked = c.new-3.result } in
    let s = begun-sound b w c.requires c.in_ok-new.ensures.environments c.new-2.ensures c.new-3.ensures.items in
    let v = c.loop-item.walk in
    let u = c.item.new.self in
    let i = c.loop-item.item-index in
    let items = c.args.program.now in
    let x = c.item-item.result in
    let n = c.in_ok-env.env in
    steps-as b w u 0 n (λ rest. items_on (take i items) (item_view x rest)) (items_on (take (i + 1) items))
    (λ rest. items-more items i x rest c.loop-item-test.true c.item-item.is)
    (steps-trans b w 0 s v u c.loop-item.env n (items_on (take i items)) (item_view x) c.loop-item.invariant c.in_ok-env.ensures)

pub returns-clause-asked : goal.returns-clause-asked
returns-clause-asked c =
    let b = c.args.basis.now in
    let w : Walk = record { types = c.args.types; list = c.in_ok-new.field-0; names = c.new-2.result; asked = c.new-3.result } in
    let v = c.loop-item.walk in
    let i = c.loop-item.item-index in
    let items = c.args.program.now in
    λ P s.
    all-asked P b w v c.loop-item.env items c.new-3.ensures.items (begun-stands P b w s c.in_ok-new.ensures.environments c.new-2.ensures)
    (steps-as b w v 0 c.loop-item.env (items_on (take i items)) (items_on items) (λ rest. ap (λ l. items_on l rest) (take_all i items c.loop-item-test.false))
    c.loop-item.invariant)
