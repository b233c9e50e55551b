use Rattle.std.proofs.Common.{refl, sym, ap}
use Rattle.lq_refined_rules.specs.Checks.Operation.{bind}
use Rattle.lq_refined_rules.specs.Checks.Tree.{define_recursive}
use Rattle.lq_refined_rules.specs.Obligations.Obligations.{of_recursive}
use Rattle.lq_refined_templates.specs.Programs.BlockView.{block_view, item_view}
use Rattle.lq_generate_implications.proofs.WalkLemmas.Matching.{if-ok}
use Rattle.lq_generate_implications.proofs.WalkLemmas.Stepping.{steps-as, steps-enters}
use Rattle.lq_generate_implications.proofs.walk.walk.Walk.item.Goals as goal

pub returns-in-Define : goal.returns-in-Define
returns-in-Define c =
    let b = c.args.basis.now in
    let w = c.args.self.now in
    if-ok c.define.result c.define.ensures (λ n e.
    steps-as b w c.define.new.self c.args.env n _ (item_view c.args.item.now) (λ x. ap (λ i. item_view i x) (sym c.in-Define.is)) e)

pub returns-in-DefineFunction : goal.returns-in-DefineFunction
returns-in-DefineFunction c =
    let b = c.args.basis.now in
    let w = c.args.self.now in
    let g = c.in-DefineFunction.name.0 in
    let p = c.in-DefineFunction.point in
    let y = c.in-DefineFunction.parameter.0 in
    let k = block_view c.in-DefineFunction.body in
    if-ok c.function.result c.function.ensures (λ n e.
    steps-as b w c.function.new.self c.args.env n (λ rest. define_recursive g p y k rest) (item_view c.args.item.now)
    (λ x. ap (λ i. item_view i x) (sym c.in-DefineFunction.is))
    (steps-enters b w c.args.env c.requires c.function.new.self n (λ P Γ. bind g (P.template p) Γ) (λ P Γ. of_recursive P Γ g p y k)
    (λ rest. define_recursive g p y k rest) (λ P Γ rest. refl) e))

pub returns-in-RunUnit : goal.returns-in-RunUnit
returns-in-RunUnit c =
    let b = c.args.basis.now in
    let w = c.args.self.now in
    if-ok c.run_unit.result c.run_unit.ensures (λ n e.
    steps-as b w c.run_unit.new.self c.args.env n _ (item_view c.args.item.now) (λ x. ap (λ i. item_view i x) (sym c.in-RunUnit.is)) e)

pub returns-in-RunAny : goal.returns-in-RunAny
returns-in-RunAny c =
    let b = c.args.basis.now in
    let w = c.args.self.now in
    if-ok c.run_any.result c.run_any.ensures (λ n e.
    steps-as b w c.run_any.new.self c.args.env n _ (item_view c.args.item.now) (λ x. ap (λ i. item_view i x) (sym c.in-RunAny.is)) e)
