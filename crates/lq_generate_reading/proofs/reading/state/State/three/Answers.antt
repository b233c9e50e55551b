use Rattle.lq_meaning_normal_tree.specs.AtomView.{atom_view}
use Rattle.lq_refined_templates.specs.Programs.PureView.{pure_view}
use Rattle.lq_generate_reading.specs.Visibility.Notes.{annotation_view}
use Rattle.lq_generate_reading.specs.Reading.Pures.{pair_of, pure_read}
use Rattle.lq_generate_reading.proofs.ReadingLemmas.Composing.{both}
use Rattle.lq_generate_reading.proofs.reading.state.State.three.Goals as goal

pub returns : goal.returns
returns c =
    let m = c.args.notes.now in
    both m c.args.self.now c.pure.new.self c.two.new.self (pure_view c.in_ok-first.first) (pure_read m c.args.self.now (atom_view c.args.first.now))
    (pure_view c.in_ok-second.second, pure_view c.in_ok-second.third)
    (λ k Δ. pair_of (annotation_view m) k Δ (atom_view c.args.second.now) (atom_view c.args.third.now)) (λ x y. (x, y.0, y.1)) c.in_ok-first.ensures
    c.in_ok-second.ensures
