use Rattle.std.proofs.Common.{subst}
use Rattle.lq_meaning_normal_tree.specs.BlockView.{block_view}
use Rattle.lq_refined_templates.specs.Programs.BlockView as made
use Rattle.lq_generate_reading.specs.Reading.Items.{defined_point_read}
use Rattle.lq_generate_reading.specs.Reading.State.{Reads}
use Rattle.lq_generate_reading.proofs.ReadingLemmas.ItemForms.{item_defined}
use Rattle.lq_generate_reading.proofs.reading.state.State.defined.Goals as goal

pub returns : goal.returns
returns c =
    let m = c.args.notes.now in
    let mid = c.block.new.self in
    let two = c.defined_point.new.self in
    let x = c.args.name in
    let e = block_view c.args.block.now in
    let b = made.block_view c.in_ok-made.made in
    let k = c.in_ok-point.point in
    item_defined m c.args.self.now mid two c.bind.new.self c.args.place x e b k c.in_ok-made.ensures
    (subst (λ i. Reads m mid two k (defined_point_read m mid x.0 i b)) c.number_of.ensures c.in_ok-point.ensures) c.in_ok-bind.ensures
