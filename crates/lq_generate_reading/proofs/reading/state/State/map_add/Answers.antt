use Rattle.std.proofs.Common.{[], refl}
use Rattle.lq_meaning_normal_tree.specs.AtomView.{atom_view}
use Rattle.lq_refined_rules.specs.Checks.Tree as t
use Rattle.lq_refined_templates.specs.Programs.BlockView.{operation_view}
use Rattle.lq_refined_templates.specs.Programs.PureView.{pure_view}
use Rattle.lq_refined_templates.specs.declared.programs.block.Operation.TheVariants as operation
use Rattle.lq_refined_templates.specs.Points.Point.{whole}
use Rattle.lq_refined_templates.specs.Points.Seen.{scope_at}
use Rattle.lq_text_tree.specs.Tree as form
use Rattle.lq_generate_reading.specs.Visibility.Notes.{annotation_view}
use Rattle.lq_generate_reading.specs.Reading.Operations.{operation_read}
use Rattle.lq_generate_reading.specs.Reading.Pures.{triple_of}
use Rattle.lq_generate_reading.specs.Reading.State.{seen_of}
use Rattle.lq_generate_reading.proofs.ReadingLemmas.Composing.{pointed}
use Rattle.lq_generate_reading.proofs.ReadingLemmas.Made.{made_map_add, said}
use Rattle.lq_generate_reading.proofs.reading.state.State.map_add.Goals as goal

pub returns : goal.returns
returns c =
    let m = c.args.notes.now in
    let n = annotation_view m in
    let old = c.args.self.now in
    let i = c.args.id in
    let e = atom_view c.args.key.now in
    let f = atom_view c.args.element.now in
    let g = atom_view c.args.map.now in
    let k = c.in_ok-point.point in
    let x = c.in_ok-key.key in
    let y = c.in_ok-key.element in
    let z = c.in_ok-key.map in
    said m old c.three.new.self (operation_view (operation.MapAdd k x y z)) (t.map_add k (pure_view x) (pure_view y) (pure_view z))
    (operation_read m old i (form.map_add e f g)) (operation_read m old i (form.map_add e f g)) (made_map_add k x y z) refl
    (pointed m old c.own.new.self c.three.new.self k (whole (scope_at n (seen_of old) i) [] (n.types i))
    (pure_view x, pure_view y, pure_view z) (λ j Δ. triple_of n j Δ e f g) (λ j h. t.map_add j h.0 h.1 h.2) c.in_ok-point.ensures c.in_ok-key.ensures)
