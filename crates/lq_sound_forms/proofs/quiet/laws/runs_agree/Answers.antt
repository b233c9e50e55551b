use Rattle.lq_sound_values.specs.Inhabitants.Shut.{Shuts, no_shuts}
use Rattle.lq_sound_values.specs.Inhabitants.Runs.{LandsIn}
use Rattle.lq_sound_forms.proofs.QuietLemmas.Agreeing.{all_agree}
use Rattle.lq_sound_forms.proofs.quiet.laws.runs_agree.Goals as goal

pub returns : goal.returns
returns c = λ S W T n e w h. all_agree Shuts no_shuts (λ by. LandsIn S (W by) (T by)) n e w h
