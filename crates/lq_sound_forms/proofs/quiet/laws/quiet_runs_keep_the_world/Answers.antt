use Rattle.lq_sound_values.specs.Inhabitants.Shut.{Shuts, no_shuts}
use Rattle.lq_sound_values.specs.Inhabitants.Runs.{LandsIn}
use Rattle.lq_sound_forms.proofs.QuietLemmas.Agreeing.{all_agree}
use Rattle.lq_sound_forms.proofs.QuietLemmas.Closing.{close_quiet}
use Rattle.lq_sound_forms.proofs.QuietLemmas.Staying.{stays_at}
use Rattle.lq_sound_forms.proofs.QuietLemmas.Keeping.{keeps_world}
use Rattle.lq_sound_forms.proofs.quiet.laws.quiet_runs_keep_the_world.Goals as goal

pub returns-clause-steps : goal.returns-clause-steps
returns-clause-steps c = stays_at

pub returns-clause-closed : goal.returns-clause-closed
returns-clause-closed c = close_quiet

pub returns-clause-runs : goal.returns-clause-runs
returns-clause-runs c = λ S W T n e w is h. keeps_world (LandsIn S W T) n e w is h

pub returns-clause-agree : goal.returns-clause-agree
returns-clause-agree c = λ S W T n e w is h.
    keeps_world (λ k v u. (by : Shuts) → LandsIn S (W by) (T by) k v u) n e w is
    (all_agree Shuts no_shuts (λ by. LandsIn S (W by) (T by)) n e w h)
