use Rattle.lq_meaning_normal_tree.specs.BlockView.{atoms_view}
use Rattle.lq_refined_rules.specs.Checks.Tree as t
use Rattle.lq_refined_templates.specs.Programs.BlockView.{operation_view}
use Rattle.lq_refined_templates.specs.declared.programs.block.Operation.TheVariants as operation
use Rattle.lq_refined_templates.specs.Programs.PureView.{pures_view}
use Rattle.lq_refined_templates.specs.Points.Pure.{pures_of}
use Rattle.lq_refined_templates.specs.Points.Reading.{built}
use Rattle.lq_refined_templates.specs.Points.Seen.{scope_at}
use Rattle.lq_text_tree.specs.Tree as form
use Rattle.lq_generate_reading.specs.Visibility.Notes.{annotation_view}
use Rattle.lq_generate_reading.specs.Reading.Operations.{operation_read}
use Rattle.lq_generate_reading.specs.Reading.State.{seen_of}
use Rattle.lq_generate_reading.proofs.ReadingLemmas.Composing.{pointed}
use Rattle.lq_generate_reading.proofs.ReadingLemmas.Made.{made_build, said}
use Rattle.std.proofs.Common.{refl}
use Rattle.lq_generate_reading.proofs.reading.state.State.build.Goals as goal

pub returns : goal.returns
returns c w =
    let m = c.args.notes.now in
    let n = annotation_view m in
    let old = c.args.self.now in
    let i = c.args.id in
    let es = atoms_view c.args.fields.now in
    let k = c.in_ok-point.point in
    let made = c.in_ok-fields.fields in
    let name = c.args.name in
    said m old c.pures.new.self (operation_view (operation.Build k name made)) (t.build k name.0 (pures_view made.items))
    (operation_read m old i (form.build name.0 w es)) (operation_read m old i (form.build name.0 w es)) (made_build k name made) refl
    (pointed m old c.built.new.self c.pures.new.self k (built (scope_at n (seen_of old) i) (n.types i) es) (pures_view made.items) (λ j Δ. pures_of n Δ j es)
    (λ j ys. t.build j name.0 ys) c.in_ok-point.ensures c.in_ok-fields.ensures)
