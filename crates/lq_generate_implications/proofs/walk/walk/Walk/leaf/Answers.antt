use Rattle.std.proofs.Common.{sym, ap, ◌∙◌}
use Rattle.lq_refined_rules.specs.Checks.Tree as tree
use Rattle.lq_refined_templates.specs.Programs.BlockView.{operation_view, quotient_view}
use Rattle.lq_refined_templates.specs.Programs.PureView.{pure_view, pures_view, use_view}
use Rattle.lq_generate_implications.proofs.ObligationsLemmas.Stating.{on-ok}
use Rattle.lq_generate_implications.proofs.WalkLemmas.Views.{assert_false_seen, assert_seen, build_seen, call_seen, divide_seen, fetch_seen, make_seen, map_add_seen, store_seen}
use Rattle.lq_generate_implications.proofs.WalkLemmas.Walks.{asks-seen}
use Rattle.lq_generate_implications.proofs.walk.walk.Walk.leaf.Goals as goal

pub returns-in-Call : goal.returns-in-Call
returns-in-Call c =
    on-ok c.call.result c.call.ensures (λ f h r.
    asks-seen c.args.basis.now c.args.self.now c.call.new.self c.args.env c.args.place r (operation_view c.args.operation.now)
    (tree.call (pure_view c.in-Call.function) (pure_view c.in-Call.operand))
    (ap operation_view c.in-Call.is ∙ call_seen c.in-Call.function c.in-Call.operand) (f r))

pub returns-in-Make : goal.returns-in-Make
returns-in-Make c =
    on-ok c.make.result c.make.ensures (λ f h r.
    asks-seen c.args.basis.now c.args.self.now c.make.new.self c.args.env c.args.place r (operation_view c.args.operation.now)
    (tree.make c.in-Make.point (pure_view c.in-Make.length) (pure_view c.in-Make.element))
    (ap operation_view c.in-Make.is ∙ make_seen c.in-Make.point c.in-Make.length c.in-Make.element) (f r))

pub returns-in-Fetch : goal.returns-in-Fetch
returns-in-Fetch c =
    on-ok c.fetch.result c.fetch.ensures (λ f h r.
    asks-seen c.args.basis.now c.args.self.now c.fetch.new.self c.args.env c.args.place r (operation_view c.args.operation.now)
    (tree.fetch (use_view c.in-Fetch.used) (pure_view c.in-Fetch.index))
    (ap operation_view c.in-Fetch.is ∙ fetch_seen c.in-Fetch.used c.in-Fetch.index) (f r))

pub returns-in-Store : goal.returns-in-Store
returns-in-Store c =
    on-ok c.store.result c.store.ensures (λ f h r.
    asks-seen c.args.basis.now c.args.self.now c.store.new.self c.args.env c.args.place r (operation_view c.args.operation.now)
    (tree.store (use_view c.in-Store.used) (pure_view c.in-Store.index) (pure_view c.in-Store.element))
    (ap operation_view c.in-Store.is ∙ store_seen c.in-Store.used c.in-Store.index c.in-Store.element) (f r))

pub returns-in-Assert : goal.returns-in-Assert
returns-in-Assert c =
    on-ok c.assert.result c.assert.ensures (λ f h r.
    asks-seen c.args.basis.now c.args.self.now c.assert.new.self c.args.env c.args.place r (operation_view c.args.operation.now)
    (tree.assert (pure_view c.in-Assert.asserted))
    (ap operation_view c.in-Assert.is ∙ assert_seen c.in-Assert.asserted) (f r))

pub returns-in-AssertFalse : goal.returns-in-AssertFalse
returns-in-AssertFalse c =
    on-ok c.assert_false.result c.assert_false.ensures (λ f h r.
    asks-seen c.args.basis.now c.args.self.now c.assert_false.new.self c.args.env c.args.place r (operation_view c.args.operation.now)
    (tree.assert_false c.in-AssertFalse.point)
    (ap operation_view c.in-AssertFalse.is ∙ assert_false_seen c.in-AssertFalse.point) (f r))

pub returns-in-MapAdd : goal.returns-in-MapAdd
returns-in-MapAdd c =
    on-ok c.map_add.result c.map_add.ensures (λ f h r.
    asks-seen c.args.basis.now c.args.self.now c.map_add.new.self c.args.env c.args.place r (operation_view c.args.operation.now)
    (tree.map_add c.in-MapAdd.point (pure_view c.in-MapAdd.key) (pure_view c.in-MapAdd.element) (pure_view c.in-MapAdd.map))
    (ap operation_view c.in-MapAdd.is ∙ map_add_seen c.in-MapAdd.point c.in-MapAdd.key c.in-MapAdd.element c.in-MapAdd.map) (f r))

pub returns-in-Build : goal.returns-in-Build
returns-in-Build c =
    let p = c.in-Build.point in
    let n = c.in-Build.constructor in
    on-ok c.build.result c.build.ensures (λ f h r.
    asks-seen c.args.basis.now c.args.self.now c.build.new.self c.args.env c.args.place r (operation_view c.args.operation.now)
    (tree.build p n.0 (pures_view c.deref.result.now))
    (ap operation_view c.in-Build.is ∙ build_seen p n c.in-Build.operands ∙ ap (λ l. tree.build p n.0 (pures_view l)) (sym c.deref.ensures.value)) (f r))

pub returns-in-Divide : goal.returns-in-Divide
returns-in-Divide c =
    let q = c.in-Divide.quotient in
    let x = c.in-Divide.dividend in
    let y = c.in-Divide.divisor in
    on-ok c.divide.result c.divide.ensures (λ f h r.
    asks-seen c.args.basis.now c.args.self.now c.divide.new.self c.args.env c.args.place r (operation_view c.args.operation.now)
    (quotient_view q (pure_view x) (pure_view y)) (ap operation_view c.in-Divide.is ∙ divide_seen q x y) (f r))
