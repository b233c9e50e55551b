use Rattle.std.proofs.Common.{[], refl}
use Rattle.lq_meaning_normal_tree.specs.AtomView.{atom_view}
use Rattle.lq_refined_rules.specs.Checks.Tree as t
use Rattle.lq_refined_templates.specs.Programs.BlockView.{operation_view}
use Rattle.lq_refined_templates.specs.Programs.PureView.{pure_view}
use Rattle.lq_refined_templates.specs.declared.programs.block.Operation.TheVariants as operation
use Rattle.lq_refined_templates.specs.Points.Annotation.{element_type}
use Rattle.lq_refined_templates.specs.Points.Point.{whole}
use Rattle.lq_refined_templates.specs.Points.Seen.{scope_at}
use Rattle.lq_text_tree.specs.Tree as form
use Rattle.lq_generate_reading.specs.Visibility.Notes.{annotation_view}
use Rattle.lq_generate_reading.specs.Reading.Operations.{operation_read}
use Rattle.lq_generate_reading.specs.Reading.Pures.{pair_of}
use Rattle.lq_generate_reading.specs.Reading.State.{seen_of}
use Rattle.lq_generate_reading.proofs.ReadingLemmas.Composing.{pointed}
use Rattle.lq_generate_reading.proofs.ReadingLemmas.Made.{made_make, said}
use Rattle.lq_generate_reading.proofs.reading.state.State.make.Goals as goal

pub returns : goal.returns
returns c =
    let m = c.args.notes.now in
    let n = annotation_view m in
    let old = c.args.self.now in
    let i = c.args.id in
    let a = atom_view c.args.count.now in
    let b = atom_view c.args.element.now in
    let k = c.in_ok-point.point in
    let x = c.in_ok-count.count in
    let y = c.in_ok-count.element in
    said m old c.two.new.self (operation_view (operation.Make k x y)) (t.make k (pure_view x) (pure_view y))
    (operation_read m old i (form.make a b)) (operation_read m old i (form.make a b)) (made_make k x y) refl
    (pointed m old c.elements.new.self c.two.new.self k (whole (scope_at n (seen_of old) i) [] (element_type (n.types i)))
    (pure_view x, pure_view y) (λ j Δ. pair_of n j Δ a b) (λ j e. t.make j e.0 e.1) c.in_ok-point.ensures c.in_ok-count.ensures)
