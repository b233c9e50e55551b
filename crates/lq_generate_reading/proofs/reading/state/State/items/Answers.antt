use Rattle.std.proofs.Common.{◌≡◌, ◌∙◌, ◌+◌, [], ◌∷◌, drop, ap}
use Rattle.lq_meaning_normal_tree.specs.BlockView.{definition_view, definitions_view}
use Rattle.lq_refined_templates.specs.Programs.BlockView.{item_view}
use Rattle.lq_generate_reading.specs.Reading.Items.{items_onto, program_read}
use Rattle.lq_generate_reading.proofs.ReadingLemmas.ItemForms.{items_next, items_onto-push}
use Rattle.lq_generate_reading.proofs.ReadingLemmas.Looping.{through_as, through_begin, through_of}
use Rattle.lq_generate_reading.proofs.ReadingLemmas.Rows.{dropped_all, dropped_next}
use Rattle.lq_generate_reading.proofs.reading.state.State.items.Goals as goal

pub loop-definition-init : goal.loop-definition-init
loop-definition-init c =
    let m = c.args.notes.now in
    let s = c.args.self.now in
    let W = program_read m s (definitions_view c.args.definitions.now) in
    through_as m s s (λ r. r) (items_onto c.new-made.result.items) W W (λ r. ap (λ l. items_onto l r) c.new-made.ensures.items)
    (through_begin m s W c.requires)

pub loop-definition-preserved : goal.loop-definition-preserved
loop-definition-preserved c =
    let m = c.args.notes.now in
    let old = c.args.self.now in
    let mid = c.loop-definition.self in
    let all = c.args.definitions.now in
    let i = c.loop-definition.definition-index in
    let x = c.definition-item.result in
    let f = items_onto c.loop-definition.made.items in
    let W = program_read m old (definitions_view all) in
    let rest = definitions_view (drop (i + 1) all) in
    let e : drop i all ≡ x ∷ drop (i + 1) all = dropped_next all i x c.loop-definition-test.true c.definition-item.is in
    items_next m old mid c.item.new.self f (items_onto c.push.new.self.items) (item_view c.in_ok-item.item) (definition_view x) rest W
    (through_of m old mid f W (program_read m mid (definitions_view (drop i all))) (program_read m mid (definition_view x ∷ rest))
    (ap (λ l. program_read m mid (definitions_view l)) e) c.loop-definition.invariant)
    c.in_ok-item.ensures
    (λ r. ap (λ l. items_onto l r) c.in_ok-push.ensures.items ∙ items_onto-push c.loop-definition.made.items c.in_ok-item.item r)

pub returns : goal.returns
returns c =
    let m = c.args.notes.now in
    let old = c.args.self.now in
    let new = c.loop-definition.self in
    let all = c.args.definitions.now in
    through_of m old new (items_onto c.loop-definition.made.items) (program_read m old (definitions_view all))
    (program_read m new (definitions_view (drop c.loop-definition.definition-index all))) (program_read m new [])
    (ap (λ l. program_read m new (definitions_view l)) (dropped_all all c.loop-definition.definition-index c.loop-definition-test.false))
    c.loop-definition.invariant
