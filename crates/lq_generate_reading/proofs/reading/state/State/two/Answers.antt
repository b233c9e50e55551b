use Rattle.lq_meaning_normal_tree.specs.AtomView.{atom_view}
use Rattle.lq_refined_templates.specs.Points.Pure.{pure_of}
use Rattle.lq_refined_templates.specs.Programs.PureView.{pure_view}
use Rattle.lq_generate_reading.specs.Visibility.Notes.{annotation_view}
use Rattle.lq_generate_reading.specs.Reading.Pures.{pure_read}
use Rattle.lq_generate_reading.proofs.ReadingLemmas.Composing.{both}
use Rattle.lq_generate_reading.proofs.reading.state.State.two.Goals as goal

pub returns : goal.returns
returns c =
    let m = c.args.notes.now in
    both m c.args.self.now c.pure.new.self c.pure-2.new.self (pure_view c.in_ok-first.first) (pure_read m c.args.self.now (atom_view c.args.first.now))
    (pure_view c.in_ok-second.second) (λ k Δ. pure_of (annotation_view m) Δ k (atom_view c.args.second.now)) (λ x y. (x, y)) c.in_ok-first.ensures
    c.in_ok-second.ensures
