-- What stands in memory.
use Rattle.std.specs.Prelude.{◌≡◌, ℕ, List, Option, Some, None, Result, Err}
use Rattle.lq_text_refusal.specs.declared.refused.Refused.{Refused as Cause}
use Rattle.lq_text_front.specs.Texts.Resolution.{Resolution}
use Rattle.lq_text_front.specs.Texts.Told.{texts_view}
use Rattle.lq_text_front.specs.Bytes.Refusals.{resolution_refusal}
use Rattle.lq_text_front.specs.Bytes.Stages.{Bound}
use Rattle.lq_text_front.specs.declared.bytes.bound.BoundTexts.{BoundTexts}
use Rattle.lq_text_front.specs.declared.bytes.error.Refusing.{Refusing}
use Rattle.lq_text_front.specs.declared.bytes.error.Refusing.TheVariants.{Refused, Memory}

-- the texts of names and the three texts with their names bound; of their trees nothing is kept
abbrev pub IsView : BoundTexts → Bound → Type 0
IsView t b = (t.names ≡ b.read.names) × (texts_view t.texts ≡ b.texts)

-- it is refused by this cause, or memory ran out
abbrev pub IsOf : Option Cause → Refusing → Type 0
IsOf cause (Refused r) = cause ≡ Some r
IsOf cause Memory = Unit {0}

-- these stages refuse it, or memory ran out
abbrev pub IsBy : {B : Type 0} → (Result B Cause → Type 0) → Refusing → Type 0
IsBy {B} R (Refused r) = R (Err r)
IsBy {B} R Memory = Unit {0}

-- the refusal is that of what is told, where something is; want of memory may come at any time
abbrev pub IsRefusalOf : List (List ℕ) → Option Resolution → Refusing → Type 0
IsRefusalOf names None e = e ≡ Memory
IsRefusalOf names (Some due) e = IsOf (resolution_refusal names due) e
