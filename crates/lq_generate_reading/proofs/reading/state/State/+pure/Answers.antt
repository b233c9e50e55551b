use Rattle.lq_meaning_normal_tree.specs.AtomView.{atom_view}
use Rattle.lq_refined_templates.specs.Points.Pure.{pure_of}
use Rattle.lq_refined_templates.specs.Programs.PureView.{pure_view}
use Rattle.lq_generate_reading.specs.Visibility.Notes.{annotation_view}
use Rattle.lq_generate_reading.specs.Reading.Pures.{pure_read}
use Rattle.lq_generate_reading.proofs.ReadingLemmas.Composing.{both}
use Rattle.lq_generate_reading.proofs.reading.state.State.+pure.Goals as goal

pub boxes-returns : goal.boxes-returns
boxes-returns t c =
    let m = c.args.notes.now in
    both m c.args.self.now c.boxed.new.self c.boxed-2.new.self (pure_view c.in_ok-first.first.value) (pure_read m c.args.self.now (atom_view c.args.first.now))
    (pure_view c.in_ok-second.second.value) (λ k Δ. pure_of (annotation_view m) Δ k (atom_view c.args.second.now)) (λ x y. (x, y))
    c.in_ok-first.ensures c.in_ok-second.ensures
