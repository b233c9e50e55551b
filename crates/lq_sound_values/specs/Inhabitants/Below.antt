-- When what inhabits one closed type inhabits another.
use Rattle.std.specs.Prelude.{ℕ}
use Rattle.lq_meaning_steps.specs.Model.Core.{Value}
use Rattle.lq_sound_values.specs.Inhabitants.Truth.{Scene}
use Rattle.lq_sound_values.specs.Inhabitants.Shut.{Shut, Shuts, no_shuts, more_shuts}
use Rattle.lq_sound_values.specs.Inhabitants.Inhabits.{Table, Inhabits}

-- at each number, under each table
abbrev pub Below : Scene → Shut → Shut → Type 0
Below S A B = (n : ℕ) (W : Table) (v : Value) → Inhabits S n W A v → Inhabits S n W B v

abbrev pub AllBelow : Scene → Shuts → Shuts → Type 0
AllBelow S no_shuts no_shuts = Unit {0}
AllBelow S no_shuts (more_shuts B Bs) = ⊥
AllBelow S (more_shuts A As) no_shuts = ⊥
AllBelow S (more_shuts A As) (more_shuts B Bs) = Below S A B × AllBelow S As Bs
