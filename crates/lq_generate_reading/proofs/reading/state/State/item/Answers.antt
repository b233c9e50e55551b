use Rattle.std.proofs.Common.{sym, subst}
use Rattle.lq_meaning_normal_tree.specs.BlockView.{definition_form_view, recursive_view}
use Rattle.lq_meaning_normal_tree.specs.declared.block.Recursive.{out-Recursive}
use Rattle.lq_meaning_normal_tree.specs.declared.item.DefinitionNode.{DefinitionNode}
use Rattle.lq_refined_templates.specs.Programs.BlockView as made
use Rattle.lq_refined_templates.specs.declared.programs.block.Block.{Block}
use Rattle.lq_refined_templates.specs.declared.programs.block.Item.TheVariants as item
use Rattle.lq_text_tree.specs.Items.{let_rec_of}
use Rattle.lq_generate_reading.specs.Reading.Items.{ItemReads}
use Rattle.lq_generate_reading.proofs.ReadingLemmas.ItemForms.{item_function}
use Rattle.lq_generate_reading.proofs.reading.state.State.item.Goals as goal

pub returns-in_ok-item-in-Value : goal.returns-in_ok-item-in-Value
returns-in_ok-item-in-Value c =
    subst (λ (d : DefinitionNode). ItemReads c.args.notes.now c.args.self.now c.value.new.self (made.item_view c.in_ok-item-in-Value.item) (definition_form_view d))
    (sym c.in-Value.is) c.in_ok-item-in-Value.ensures

pub returns-in_ok-point-in-Function : goal.returns-in_ok-point-in-Function
returns-in_ok-point-in-Function c =
    let m = c.args.notes.now in
    let old = c.args.self.now in
    let new = c.recursive.new.self in
    let f = c.in-Function.name in
    let r = c.in-Function.function in
    let k = c.in_ok-point-in-Function.point in
    let body = c.in_ok-point-in-Function.body in
    let y = (out-Recursive r).parameter.binder in
    subst (λ (d : DefinitionNode). ItemReads m old new (made.item_view (item.DefineFunction f k y c.into_inner.result)) (definition_form_view d)) (sym c.in-Function.is)
    (subst (λ (b : Block). ItemReads m old new (made.item_view (item.DefineFunction f k y b)) (let_rec_of f.0 (recursive_view r))) (sym c.into_inner.ensures)
    (item_function m old c.bind.new.self new f r (k, made.block_view body.value) c.in_ok-bind-in-Function.ensures c.in_ok-point-in-Function.ensures))
