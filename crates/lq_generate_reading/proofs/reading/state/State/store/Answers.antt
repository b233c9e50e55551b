use Rattle.std.proofs.Common.{refl}
use Rattle.lq_meaning_normal_tree.specs.AtomView.{atom_view}
use Rattle.lq_refined_rules.specs.Checks.Tree as t
use Rattle.lq_refined_templates.specs.Programs.BlockView.{operation_view}
use Rattle.lq_refined_templates.specs.Programs.PureView.{pure_view, use_view}
use Rattle.lq_refined_templates.specs.declared.programs.block.Operation.TheVariants as operation
use Rattle.lq_text_tree.specs.Tree as form
use Rattle.lq_generate_reading.specs.Visibility.Notes.{annotation_view}
use Rattle.lq_generate_reading.specs.Reading.Operations.{operation_read}
use Rattle.lq_generate_reading.specs.Reading.Pures.{pair_of, variable_read}
use Rattle.lq_generate_reading.proofs.ReadingLemmas.Composing.{both}
use Rattle.lq_generate_reading.proofs.ReadingLemmas.Made.{made_store, said}
use Rattle.lq_generate_reading.proofs.reading.state.State.store.Goals as goal

pub returns : goal.returns
returns c =
    let m = c.args.notes.now in
    let n = annotation_view m in
    let old = c.args.self.now in
    let i = c.args.id in
    let a = atom_view c.args.array.now in
    let b = atom_view c.args.index.now in
    let e = atom_view c.args.element.now in
    let u = c.in_ok-array.array in
    let x = c.in_ok-index.index in
    let y = c.in_ok-index.element in
    said m old c.two.new.self (operation_view (operation.Store u x y)) (t.store (use_view u) (pure_view x) (pure_view y))
    (operation_read m old i (form.store a b e)) (operation_read m old i (form.store a b e)) (made_store u x y) refl
    (both m old c.variable.new.self c.two.new.self (use_view u) (variable_read m old a) (pure_view x, pure_view y) (λ j Δ. pair_of n j Δ b e)
    (λ v p. t.store v p.0 p.1) c.in_ok-array.ensures c.in_ok-index.ensures)
