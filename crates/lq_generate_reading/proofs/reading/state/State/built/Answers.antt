use Rattle.std.proofs.Common.{◌∙◌, ap₂}
use Rattle.lq_refined_instances.specs.Scopes.{scope_in}
use Rattle.lq_meaning_normal_tree.specs.BlockView.{atoms_view}
use Rattle.lq_refined_templates.specs.Points.Point.{inner}
use Rattle.lq_refined_templates.specs.Points.Reading.{built}
use Rattle.lq_refined_templates.specs.Points.Seen.{scope_at}
use Rattle.lq_types_table.specs.Nodes.{at}
use Rattle.lq_generate_reading.specs.Visibility.Notes.{annotation_view, types_in}
use Rattle.lq_generate_reading.specs.Reading.State.{scopes_of, seen_of}
use Rattle.lq_generate_reading.proofs.ReadingLemmas.Composing.{noted_behind}
use Rattle.lq_generate_reading.proofs.ReadingLemmas.Forms.{built_more}
use Rattle.lq_generate_reading.proofs.reading.state.State.built.Goals as goal

pub returns-in_ok-point-in-len1-up : goal.returns-in_ok-point-in-len1-up
returns-in_ok-point-in-len1-up c =
    let m = c.args.notes.now in
    let n = annotation_view m in
    let old = c.args.self.now in
    let mid = c.scope_at.new.self in
    let i = c.args.node in
    let s = c.in_ok-scope.scope in
    let as_ = c.args.fields.now in
    let Γ = scope_at n (seen_of old) i in
    noted_behind m old mid c.put-in-len1-up.new.self s c.in_ok-point-in-len1-up.point
    (inner (scope_in (scopes_of mid) s) (at (types_in m) c.type_of-number.result)) (built Γ (n.types i) (atoms_view as_)) c.in_ok-scope.ensures.reads
    c.in_ok-point-in-len1-up.ensures
    (ap₂ inner c.in_ok-scope.ensures.scope c.type_of-number.ensures.is ∙ built_more Γ (n.types i) as_ c.in-len1-up.len_at_least)
