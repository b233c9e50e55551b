-- The cause of each status.
use Rattle.std.specs.Prelude.{◌≡◌, ℕ, List, Some, Ok, Err}
use Rattle.lq_text_front.specs.Bytes.Stages.{Bytes}
use Rattle.lq_top_words.specs.Command.Command.{Request, command_of}
use Rattle.lq_top_words.specs.Inputs.Visits.{Visit}
use Rattle.lq_top_judge.specs.Judgement.Answers.{IsByGathering}
use Rattle.lq_top_judge.specs.Verdict.Judgement.{IsJudgement, IsRejected, IsUndecided}
use Rattle.lq_top_judge.specs.Judgement.Safety.{IsSafelyAccepted}
use Rattle.lq_top_judge.specs.declared.verdict.judgement.Refusal.TheVariants.{Code}
use Rattle.lq_top_pose.specs.Stages.{PosesTo, Typed}
use Rattle.lq_top_app.specs.Asked.{Asked, AreTexts, WasFileFault, limit_of}

-- a file that the words name didn't come, as the line says
abbrev pub IsFileHere : List (List ℕ) → Visit → List ℕ → Type 0
IsFileHere words v line = (request : Request) × (command_of words ≡ Some request) × WasFileFault request v line

-- the texts are refused by a number and a line
abbrev pub IsRefusedHere : List (List ℕ) → Visit → Type 0
IsRefusedHere words v = (a : Asked words v) × ((code : ℕ) × ((line : List ℕ) × IsJudgement (limit_of a.request) a.texts (Err (Code code line))))

-- they have no solution
abbrev pub IsRejectedHere : List (List ℕ) → Visit → Type 0
IsRejectedHere words v =
    (a : Asked words v) × ((t : Typed) × PosesTo a.texts (Ok t) × ((failure : List ℕ) × ((explained : List ℕ) × IsRejected t failure explained)))

-- they aren't decided
abbrev pub IsUndecidedHere : List (List ℕ) → Visit → Type 0
IsUndecidedHere words v = (a : Asked words v) × ((t : Typed) × PosesTo a.texts (Ok t) × ((cause : List ℕ) × IsUndecided (limit_of a.request) t cause))

-- they aren't decided, by the prover only where their implications aren't all of differences and small
abbrev pub IsDecidedHere : List (List ℕ) → Visit → Type 0
IsDecidedHere words v = (a : Asked words v) × ((cause : List ℕ) × IsByGathering (limit_of a.request) a.texts cause)

-- they are accepted with some types, and safe so
abbrev pub IsSafeFor : Request → Visit → Type 0
IsSafeFor request v = (b : Bytes) × AreTexts request v b × ((types : List ℕ) × IsSafelyAccepted b types)

abbrev pub IsSafeHere : List (List ℕ) → Visit → Type 0
IsSafeHere words v = (a : Asked words v) × ((types : List ℕ) × IsSafelyAccepted a.texts types)
