-- That one status and one report are due.
use Rattle.std.specs.Prelude.{◌≡◌, ◌⊎◌, List, ℕ, Option, Some, None, Ok}
use Rattle.lq_top_words.specs.Command.Command.{Request, command_of, judge, sample}
use Rattle.lq_top_words.specs.Inputs.Once.{Tells}
use Rattle.lq_top_words.specs.Inputs.Visits.{Visit}
use Rattle.lq_top_judge.specs.Judgement.Agreeing.{DifferAlike, IsStopped}
use Rattle.lq_top_judge.specs.declared.verdict.judgement.Judgement.TheVariants as judgement
use Rattle.lq_top_app.specs.Asked.{Asked, limit_of}
use Rattle.lq_top_app.specs.Report.{IsDue, IsPrinted}
use Rattle.lq_top_app.specs.declared.status.Status.{Status}
use Rattle.lq_top_app.specs.declared.status.Status.TheVariants.{Good, Rejected, Undecided, Refused, Usage, File, SinkFault, Memory}

-- Where a file is wanted, the folder tells what it holds and didn't fail.
abbrev pub IsKnown : Option Request → Visit → Type 0
IsKnown None v = Unit {0}
IsKnown (Some (judge mode program measures quals pivots)) v = Tells v
IsKnown (Some (sample count pivots)) v = Unit {0}

-- The reports are one, but for the values in the lines on a point.
abbrev pub SameReport : Status → List ℕ → List ℕ → Type 0
SameReport Rejected r q = DifferAlike r q
SameReport Good r q = r ≡ q
SameReport Undecided r q = r ≡ q
SameReport Refused r q = r ≡ q
SameReport Usage r q = r ≡ q
SameReport File r q = r ≡ q
SameReport SinkFault r q = r ≡ q
SameReport Memory r q = r ≡ q

-- the texts are undecided since the prover stopped, as the report says
pub record StopsHere (words : List (List ℕ)) (v : Visit) (status : Status) (report : List ℕ) : Type 0 where
  pub asked : Asked words v
  pub cause : List ℕ
  pub stopped : IsStopped (limit_of asked.request) asked.texts (Ok (judgement.Undecided cause))
  pub status_is : status ≡ Undecided
  pub tells : IsPrinted asked.request asked.texts (Ok (judgement.Undecided cause)) report

-- Two statuses and reports that are due are one, but for the values in the lines on a point, unless the prover stopped for one of them.
abbrev pub IsDetermined : Type 0
IsDetermined =
    (words : List (List ℕ)) (v : Visit) (s t : Status) (r q : List ℕ) → IsKnown (command_of words) v → IsDue words v s r → IsDue words v t q
    → ((s ≡ t) × SameReport s r q) ⊎ (StopsHere words v s r ⊎ StopsHere words v t q)

-- it is this status, or the sink failed, or memory ran out
abbrev pub IsOrFault : Status → Status → Type 0
IsOrFault due status = (status ≡ due) ⊎ ((status ≡ SinkFault) ⊎ (status ≡ Memory))

-- some report is due by which the texts are undecided since the prover stopped
abbrev pub MayStop : List (List ℕ) → Visit → Type 0
MayStop words v = (report : List ℕ) × StopsHere words v Undecided report

-- Only a fault of the sink, want of memory or a stop of the prover comes in place of a status that is due, or such a status in place of a stop.
abbrev pub IsExact : List (List ℕ) → Visit → Status → Type 0
IsExact words v status =
    (due : Status) (report : List ℕ) → IsKnown (command_of words) v → IsDue words v due report
    → (status ≡ due) ⊎ ((status ≡ SinkFault) ⊎ ((status ≡ Memory) ⊎ MayStop words v))
