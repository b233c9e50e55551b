use Rattle.std.proofs.Common.{◌∙◌, refl, sym, ap}
use Rattle.lq_meaning_normal_tree.specs.AtomView.{atom_node_view}
use Rattle.lq_meaning_normal_tree.specs.BlockView.{atoms_view, operation_node_view}
use Rattle.lq_refined_rules.specs.Checks.Tree as t
use Rattle.lq_refined_templates.specs.Programs.BlockView.{operation_view}
use Rattle.lq_refined_templates.specs.Programs.PureView.{pure_view}
use Rattle.lq_refined_templates.specs.declared.programs.block.Operation.TheVariants as operation
use Rattle.lq_refined_templates.specs.declared.programs.pure.Pure.TheVariants as pure
use Rattle.lq_refined_templates.specs.Points.Pure.{with_one, without_points}
use Rattle.lq_text_tree.specs.Tree as form
use Rattle.lq_generate_reading.specs.Visibility.Notes.{annotation_view}
use Rattle.lq_generate_reading.specs.Reading.Operations.{operation_read}
use Rattle.lq_generate_reading.specs.Reading.Pures.{pure_form_read}
use Rattle.lq_generate_reading.specs.Reading.State.{count_of, seen_of}
use Rattle.lq_generate_reading.proofs.ReadingLemmas.Composing.{one, reads_nothing}
use Rattle.lq_generate_reading.proofs.ReadingLemmas.Forms.{pure_operation, seen_build, seen_fun, seen_if, seen_match, seen_pure}
use Rattle.lq_generate_reading.proofs.ReadingLemmas.Made.{made_pure, made_unit, said}
use Rattle.lq_generate_reading.proofs.reading.state.State.simple.Goals as goal

pub returns-in_ok-pure-in-Pure : goal.returns-in_ok-pure-in-Pure
returns-in_ok-pure-in-Pure c =
    let m = c.args.notes.now in
    let old = c.args.self.now in
    let a = c.in-Pure.node in
    let e = c.in_ok-pure-in-Pure.pure in
    let i = c.args.id in
    said m old c.pure_node.new.self (operation_view (operation.Pure e)) (t.pure (pure_view e))
    (with_one (pure_form_read m old i (atom_node_view a)) t.pure) (operation_read m old i (operation_node_view c.args.node.now)) (made_pure e)
    (ap (λ o. operation_read m old i (operation_node_view o)) c.in-Pure.is ∙ (ap (operation_read m old i) (seen_pure a)
    ∙ pure_operation (annotation_view m) (seen_of old) (count_of old) i a))
    (one m old c.pure_node.new.self (pure_view e) (pure_form_read m old i (atom_node_view a)) t.pure c.in_ok-pure-in-Pure.ensures)

pub returns-in_ok-made-in-Build : goal.returns-in_ok-made-in-Build
returns-in_ok-made-in-Build c =
    let m = c.args.notes.now in
    let old = c.args.self.now in
    let o = c.in_ok-made-in-Build.made in
    let i = c.args.id in
    let name = c.in-Build.name in
    let w = c.in-Build.field-1 in
    let fields = c.in-Build.fields in
    said m old c.build.new.self (operation_view o) (operation_view o) (operation_read m old i (form.build name.0 w (atoms_view c.deref-in-Build.result.now)))
    (operation_read m old i (operation_node_view c.args.node.now)) refl
    (ap (λ n. operation_read m old i (operation_node_view n)) c.in-Build.is
    ∙ (ap (operation_read m old i) (seen_build name w fields)
    ∙ ap (λ l. operation_read m old i (form.build name.0 w (atoms_view l))) (sym c.deref-in-Build.ensures.value)))
    (c.in_ok-made-in-Build.ensures w)

pub returns-in-Fun : goal.returns-in-Fun
returns-in-Fun c =
    let m = c.args.notes.now in
    let old = c.args.self.now in
    let i = c.args.id in
    let e = t.pure t.unit in
    said m old old (operation_view (operation.Pure pure.Unit)) e (without_points e) (operation_read m old i (operation_node_view c.args.node.now)) made_unit
    (ap (λ n. operation_read m old i (operation_node_view n)) c.in-Fun.is ∙ ap (operation_read m old i) (seen_fun c.in-Fun.field-0 c.in-Fun.field-1))
    (reads_nothing m old e c.requires)

pub returns-in-If : goal.returns-in-If
returns-in-If c =
    let m = c.args.notes.now in
    let old = c.args.self.now in
    let i = c.args.id in
    let e = t.pure t.unit in
    said m old old (operation_view (operation.Pure pure.Unit)) e (without_points e) (operation_read m old i (operation_node_view c.args.node.now)) made_unit
    (ap (λ n. operation_read m old i (operation_node_view n)) c.in-If.is
    ∙ ap (operation_read m old i) (seen_if c.in-If.field-0 c.in-If.field-1 c.in-If.field-2))
    (reads_nothing m old e c.requires)

pub returns-in-Match : goal.returns-in-Match
returns-in-Match c =
    let m = c.args.notes.now in
    let old = c.args.self.now in
    let i = c.args.id in
    let e = t.pure t.unit in
    said m old old (operation_view (operation.Pure pure.Unit)) e (without_points e) (operation_read m old i (operation_node_view c.args.node.now)) made_unit
    (ap (λ n. operation_read m old i (operation_node_view n)) c.in-Match.is
    ∙ ap (operation_read m old i) (seen_match c.in-Match.field-0 c.in-Match.field-1 c.in-Match.field-2))
    (reads_nothing m old e c.requires)
