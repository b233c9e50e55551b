use Rattle.std.proofs.Common.{[]}
use Rattle.lq_meaning_normal_tree.specs.AtomView.{atom_view}
use Rattle.lq_refined_templates.specs.Programs.PureView.{pure_view}
use Rattle.lq_refined_templates.specs.Points.Point.{whole}
use Rattle.lq_refined_templates.specs.Points.Pure.{pure_of}
use Rattle.lq_refined_templates.specs.Points.Reading.{expecting}
use Rattle.lq_refined_templates.specs.Points.Seen.{scope_at}
use Rattle.lq_generate_reading.specs.Visibility.Notes.{annotation_view}
use Rattle.lq_generate_reading.specs.Reading.State.{seen_of}
use Rattle.lq_generate_reading.proofs.ReadingLemmas.Composing.{pointed}
use Rattle.lq_generate_reading.proofs.reading.state.State.choice_head.Goals as goal

pub returns : goal.returns
returns c =
    let m = c.args.notes.now in
    let n = annotation_view m in
    let old = c.args.self.now in
    let i = c.args.id in
    pointed m old c.own.new.self c.pure.new.self c.in_ok-point.point (expecting c.args.idle (whole (scope_at n (seen_of old) i) [] (n.types i)))
    (pure_view c.in_ok-condition.condition) (λ k Δ. pure_of n Δ k (atom_view c.args.condition.now)) (λ k x. (k, x)) c.in_ok-point.ensures
    c.in_ok-condition.ensures
