use Rattle.std.proofs.Common.{◌∷◌, get_or, None}
use Rattle.lq_base_names.specs.declared.name.Binder.{Binder}
use Rattle.lq_generate_reading.specs.Reading.State.{seen_of}
use Rattle.lq_generate_reading.proofs.ReadingLemmas.Binding.{all_more, sees_more}
use Rattle.lq_generate_reading.proofs.reading.state.State.bind_all.Goals as goal

pub loop-name-preserved : goal.loop-name-preserved
loop-name-preserved c =
    let none : Binder = record { 0 = 0 } in
    sees_more c.args.notes.now c.args.self.now c.loop-name.self c.bind.new.self (λ Δ. record { name = (get_or c.args.names.now c.loop-name.name-index none).0; until = None } ∷ Δ)
    _ _ c.loop-name.invariant c.in_ok-bind.ensures (all_more c.args.names.now c.loop-name.name-index none (seen_of c.args.self.now) c.loop-name-test.true)
