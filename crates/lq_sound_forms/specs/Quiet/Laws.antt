-- What many runs of one expression say of its value, and what runs of quiet expressions leave as it is.
use Rattle.std.specs.Prelude.{◌≡◌, ℕ, Some}
use Rattle.lq_meaning_steps.specs.Model.Core.{Core, Pairs, close}
use Rattle.lq_meaning_steps.specs.Model.Operations.{World}
use Rattle.lq_meaning_steps.specs.Model.Step.{goes}
use Rattle.lq_meaning_steps.specs.Model.StepFunction.{step}
use Rattle.lq_refined_rules.specs.Checks.Tree.{Block}
use Rattle.lq_sound_values.specs.Inhabitants.Truth.{Scene}
use Rattle.lq_sound_values.specs.Inhabitants.Shut.{Shut, Shuts}
use Rattle.lq_sound_values.specs.Inhabitants.Inhabits.{Table}
use Rattle.lq_sound_values.specs.Inhabitants.Runs.{RunsWell, LandsIn}
use Rattle.lq_sound_forms.specs.Pures.Cores.{block_core}
use Rattle.lq_sound_forms.specs.Quiet.Quiet.{IsQuiet, IsValueBlock}

-- where it runs well to a type for each choice of closed types, one value is of all these types
abbrev pub RunsAgree : Type 0
RunsAgree =
    (S : Scene) (W : Shuts → Table) (T : Shuts → Shut) (n : ℕ) (e : Core) (w : World)
    → ((by : Shuts) → RunsWell n e w (LandsIn S (W by) (T by))) → RunsWell n e w (λ k v u. (by : Shuts) → LandsIn S (W by) (T by) k v u)

-- ---- quiet expressions

abbrev pub QuietStepsStay : Type 0
QuietStepsStay = (e d : Core) (w u : World) → IsQuiet e → step e w ≡ Some (goes d u) → IsQuiet d × (u ≡ w)

abbrev pub QuietCoresClose : Type 0
QuietCoresClose = (ps : Pairs) (e : Core) → IsQuiet e → IsQuiet (close ps e)

-- the value is there in the world of the start
abbrev pub QuietRunsKeepTheWorld : Type 0
QuietRunsKeepTheWorld =
    (S : Scene) (W : Table) (T : Shut) (n : ℕ) (e : Core) (w : World) → IsQuiet e → RunsWell n e w (LandsIn S W T)
    → RunsWell n e w (λ k v u. LandsIn S W T k v u × (u ≡ w))

-- and so with a type for each choice of closed types
abbrev pub QuietRunsAgree : Type 0
QuietRunsAgree =
    (S : Scene) (W : Shuts → Table) (T : Shuts → Shut) (n : ℕ) (e : Core) (w : World) → IsQuiet e
    → ((by : Shuts) → RunsWell n e w (LandsIn S (W by) (T by)))
    → RunsWell n e w (λ k v u. ((by : Shuts) → LandsIn S (W by) (T by) k v u) × (u ≡ w))

-- ---- blocks

abbrev pub ValueBlocksAreQuiet : Type 0
ValueBlocksAreQuiet = (b : Block) → IsValueBlock b → IsQuiet (block_core b) × ((ps : Pairs) → IsQuiet (close ps (block_core b)))
