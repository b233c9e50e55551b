use Rattle.std.proofs.Common.{◌≡◌, ◌++◌, drop}
use Rattle.lq_meaning_normal_tree.specs.BlockView.{atoms_view}
use Rattle.lq_refined_templates.specs.Programs.PureView.{pures_view}
use Rattle.lq_generate_reading.specs.Reading.Pures.{pures_read}
use Rattle.lq_generate_reading.specs.Reading.State.{seen_of}
use Rattle.lq_generate_reading.specs.Reading.Through.{Through}
use Rattle.lq_generate_reading.proofs.reading.state.State.pures.Given as goal

abbrev pub invariant-loop-atom : goal.invariant-loop-atom
invariant-loop-atom l = record {
  through : Through l.notes l.initial.self l.self (λ es. pures_view l.made.items ++ es) (pures_read l.notes l.initial.self (atoms_view l.atoms))
      (pures_read l.notes l.self (atoms_view (drop l.atom-index l.atoms)));
  seen : seen_of l.self ≡ seen_of l.initial.self;
}
