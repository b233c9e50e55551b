use Rattle.std.proofs.Common.{ℕ, List, ◌++◌, refl, ap}
use Rattle.lq_meaning_normal_tree.specs.BlockView.{definition_form_view, definitions_view}
use Rattle.lq_meaning_normal_tree.specs.declared.item.Definition.{Definition}
use Rattle.lq_meaning_normalize.specs.MadeNames.Numbers.{binders_view}
use Rattle.lq_meaning_normalize.specs.MadeNames.Order.{names_of_item, names_of_items}
use Rattle.lq_meaning_normalize.proofs.MadeNamesLemmas.Adding.{row_done, row_next}
use Rattle.lq_meaning_normalize.proofs.made_names.listing.names_of.Goals as goal

abbrev items_among : List Definition → List ℕ
items_among ds = names_of_items (definitions_view ds)

abbrev item_names : Definition → List ℕ
item_names d = names_of_item (definition_form_view d.node)

pub loop-definition-init : goal.loop-definition-init
loop-definition-init c = ap (λ (l : List _). binders_view l ++ items_among c.args.definitions.now) c.new-names.ensures.items

pub loop-definition-preserved : goal.loop-definition-preserved
loop-definition-preserved c =
    row_next items_among item_names refl (λ x xs. refl) c.args.definitions.now c.loop-definition.definition-index c.definition-item.result _ _ _
    c.loop-definition-test.true c.definition-item.is c.loop-definition.invariant c.in_ok-push_definition.ensures

pub returns : goal.returns
returns c =
    row_done items_among item_names refl (λ x xs. refl) c.args.definitions.now c.loop-definition.definition-index _ _ c.loop-definition-test.false
    c.loop-definition.invariant
