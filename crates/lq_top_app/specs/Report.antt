-- Which status and which report are due for words and what the folder handed over.
use Rattle.std.specs.Prelude.{◌≡◌, ◌⊎◌, ℕ, List, ◌++◌, Option, Some, None, Result, Ok, Err, codes}
use Rattle.lq_text_front.specs.Bytes.Stages.{Bytes}
use Rattle.lq_top_words.specs.Command.Command.{Request, command_of, judge, sample, usage_line}
use Rattle.lq_top_words.specs.declared.command.command.Mode.{Mode}
use Rattle.lq_top_words.specs.declared.command.command.Mode.TheVariants.{Check, Types, Explain}
use Rattle.lq_top_words.specs.Inputs.Visits.{Visit, IsUntouched}
use Rattle.lq_top_judge.specs.Verdict.Counting.{HasCounts}
use Rattle.lq_top_judge.specs.Verdict.Judgement.{IsJudgement}
use Rattle.lq_top_judge.specs.declared.verdict.counting.Counts.{Counts}
use Rattle.lq_top_judge.specs.declared.verdict.judgement.Judgement.{Judgement}
use Rattle.lq_top_judge.specs.declared.verdict.judgement.Judgement.TheVariants as judgement
use Rattle.lq_top_judge.specs.declared.verdict.judgement.Refusal.{Refusal}
use Rattle.lq_top_judge.specs.declared.verdict.judgement.Refusal.TheVariants as refusal
use Rattle.lq_top_pose.specs.Stages.{PosesTo, Typed}
use Rattle.lq_top_words.specs.Sample.Sample.{counts_text}
use Rattle.lq_top_app.specs.Asked.{AreTexts, WasFileFault, limit_of}
use Rattle.lq_top_app.specs.declared.status.Status.{Status}
use Rattle.lq_top_app.specs.declared.status.Status.TheVariants.{Good, Rejected, Undecided, Refused, Usage, File, Memory}

-- the status of a judgement
abbrev pub status_of : Result Judgement Refusal → Status
status_of (Ok (judgement.Accepted types)) = Good
status_of (Ok (judgement.Rejected failure explained)) = Rejected
status_of (Ok (judgement.Undecided cause)) = Undecided
status_of (Err (refusal.Code code line)) = Refused
status_of (Err refusal.Memory) = Memory

-- ---- what is printed

abbrev pub accepted_text : Mode → List ℕ → List ℕ
accepted_text Check types = codes "accepted\n"
accepted_text Types types = types
accepted_text Explain types = codes "accepted\n"

abbrev pub rejected_text : Mode → List ℕ → List ℕ → List ℕ
rejected_text Check failure explained = failure
rejected_text Types failure explained = failure
rejected_text Explain failure explained = explained

abbrev pub printed : Mode → Judgement → List ℕ
printed mode (judgement.Accepted types) = accepted_text mode types
printed mode (judgement.Rejected failure explained) = rejected_text mode failure explained
printed mode (judgement.Undecided cause) = cause

-- the lines on how many functions a sample has, and how much is to be solved for these texts
abbrev pub AreCounts : ℕ → Bytes → List ℕ → Type 0
AreCounts count b lines = (t : Typed) × PosesTo b (Ok t) × ((c : Counts) × HasCounts t c × (lines ≡ counts_text count c.unknowns c.instances c.implications))

abbrev pub IsLine : Refusal → List ℕ → Type 0
IsLine (refusal.Code code line) report = report ≡ line
IsLine refusal.Memory report = ⊥

-- The report tells the judgement on the texts. In a sample's the counts stand in front of a verdict.
abbrev pub IsPrinted : Request → Bytes → Result Judgement Refusal → List ℕ → Type 0
IsPrinted (judge mode program measures quals pivots) b (Ok j) report = report ≡ printed mode j
IsPrinted (judge mode program measures quals pivots) b (Err e) report = IsLine e report
IsPrinted (sample count pivots) b (Ok j) report = (lines : List ℕ) × AreCounts count b lines × (report ≡ lines ++ printed Check j)
IsPrinted (sample count pivots) b (Err e) report = IsLine e report

-- ---- what is due

-- a judgement that is due on the texts has this status, and this report tells it
pub record IsVerdict (request : Request) (b : Bytes) (status : Status) (report : List ℕ) : Type 0 where
  pub judgement : Result Judgement Refusal
  pub due : IsJudgement (limit_of request) b judgement
  pub status_is : status ≡ status_of judgement
  pub tells : IsPrinted request b judgement report

pub record IsJudged (request : Request) (v : Visit) (status : Status) (report : List ℕ) : Type 0 where
  pub texts : Bytes
  pub are : AreTexts request v texts
  pub verdict : IsVerdict request texts status report

-- For words that are no command the usage line is due. Else a line on a file that didn't come, or the verdict.
abbrev pub IsDueFor : Option Request → Visit → Status → List ℕ → Type 0
IsDueFor None v status report = (status ≡ Usage) × IsUntouched v × (report ≡ usage_line)
IsDueFor (Some request) v status report = ((status ≡ File) × WasFileFault request v report) ⊎ IsJudged request v status report

-- This status and this report are due.
abbrev pub IsDue : List (List ℕ) → Visit → Status → List ℕ → Type 0
IsDue words v status report = IsDueFor (command_of words) v status report
