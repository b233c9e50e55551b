-- What is due at a status.
use Rattle.std.proofs.Common.{◌≡◌, inl, inr, ℕ, List, Option, Some, None, Result, Ok, Err, refl}
use Rattle.lq_text_front.specs.Bytes.Stages.{Bytes}
use Rattle.lq_top_words.specs.Command.Command.{Request, command_of}
use Rattle.lq_top_words.specs.Inputs.Visits.{Visit}
use Rattle.lq_top_judge.specs.Verdict.Judgement.{IsJudgement, IsRejected, IsUndecided}
use Rattle.lq_top_judge.specs.declared.verdict.judgement.Judgement.{Judgement}
use Rattle.lq_top_judge.specs.declared.verdict.judgement.Judgement.TheVariants as judgement
use Rattle.lq_top_judge.specs.declared.verdict.judgement.Refusal.{Refusal}
use Rattle.lq_top_judge.specs.declared.verdict.judgement.Refusal.TheVariants as refusal
use Rattle.lq_top_pose.specs.Stages.{PosesTo, Typed}
use Rattle.lq_top_app.specs.Asked.{WasFileFault, limit_of}
use Rattle.lq_top_app.specs.Report.{IsDue, IsDueFor, IsJudged, status_of}
use Rattle.lq_top_app.specs.declared.status.Status.{Status}
use Rattle.lq_top_app.specs.declared.status.Status.TheVariants.{Rejected, Undecided, Refused, Usage, File, SinkFault, Memory}

-- a judgement is at none of these statuses
not_usage : (j : Result Judgement Refusal) → Usage ≡ status_of j → ⊥
not_usage (Ok (judgement.Accepted types)) e = cc
not_usage (Ok (judgement.Rejected failure explained)) e = cc
not_usage (Ok (judgement.Undecided cause)) e = cc
not_usage (Err (refusal.Code code line)) e = cc
not_usage (Err refusal.Memory) e = cc

not_file : (j : Result Judgement Refusal) → File ≡ status_of j → ⊥
not_file (Ok (judgement.Accepted types)) e = cc
not_file (Ok (judgement.Rejected failure explained)) e = cc
not_file (Ok (judgement.Undecided cause)) e = cc
not_file (Err (refusal.Code code line)) e = cc
not_file (Err refusal.Memory) e = cc

not_fault : (j : Result Judgement Refusal) → SinkFault ≡ status_of j → ⊥
not_fault (Ok (judgement.Accepted types)) e = cc
not_fault (Ok (judgement.Rejected failure explained)) e = cc
not_fault (Ok (judgement.Undecided cause)) e = cc
not_fault (Err (refusal.Code code line)) e = cc
not_fault (Err refusal.Memory) e = cc

not_memory : (limit : ℕ) (b : Bytes) (j : Result Judgement Refusal) → IsJudgement limit b j → Memory ≡ status_of j → ⊥
not_memory limit b (Ok (judgement.Accepted types)) is e = cc
not_memory limit b (Ok (judgement.Rejected failure explained)) is e = cc
not_memory limit b (Ok (judgement.Undecided cause)) is e = cc
not_memory limit b (Err (refusal.Code code line)) is e = cc
not_memory limit b (Err refusal.Memory) is e = is

no_verdict : (request : Option Request) (v : Visit) (report : List ℕ) → IsDueFor request v SinkFault report → ⊥
no_verdict None v report due = let e = due.0 in cc
no_verdict (Some request) v report (inl due) = let e = due.0 in cc
no_verdict (Some request) v report (inr due) = not_fault due.verdict.judgement due.verdict.status_is

-- neither a fault of the sink nor want of memory is due
pub no_fault_due : (words : List (List ℕ)) (v : Visit) (report : List ℕ) → IsDue words v SinkFault report → ⊥
no_fault_due words v report = no_verdict (command_of words) v report

no_memory : (request : Option Request) (v : Visit) (report : List ℕ) → IsDueFor request v Memory report → ⊥
no_memory None v report due = let e = due.0 in cc
no_memory (Some request) v report (inl due) = let e = due.0 in cc
no_memory (Some request) v report (inr due) = not_memory (limit_of request) due.texts due.verdict.judgement due.verdict.due due.verdict.status_is

pub no_memory_due : (words : List (List ℕ)) (v : Visit) (report : List ℕ) → IsDue words v Memory report → ⊥
no_memory_due words v report = no_memory (command_of words) v report

-- the usage line is due for no command
pub usage_for : (request : Option Request) (v : Visit) (report : List ℕ) → IsDueFor request v Usage report → request ≡ None
usage_for None v report due = refl
usage_for (Some request) v report (inl due) = absurd (let e = due.0 in cc)
usage_for (Some request) v report (inr due) = absurd (not_usage due.verdict.judgement due.verdict.status_is)

-- a line on a file is due for a command that names it
pub file_for : (request : Option Request) (v : Visit) (report : List ℕ) → IsDueFor request v File report
    → (r : Request) × (request ≡ Some r) × WasFileFault r v report
file_for None v report due = absurd (let e = due.0 in cc)
file_for (Some request) v report (inl due) = (request, refl, due.1)
file_for (Some request) v report (inr due) = absurd (not_file due.verdict.judgement due.verdict.status_is)

-- at another status a verdict is due
pub judged_for : (request : Option Request) (v : Visit) (status : Status) (report : List ℕ) → (status ≡ Usage → ⊥) → (status ≡ File → ⊥)
    → IsDueFor request v status report → (r : Request) × (request ≡ Some r) × IsJudged r v status report
judged_for None v status report usage file due = absurd (usage due.0)
judged_for (Some request) v status report usage file (inl due) = absurd (file due.0)
judged_for (Some request) v status report usage file (inr due) = (request, refl, due)

-- ---- which judgement it is

pub refused_as : (limit : ℕ) (b : Bytes) (j : Result Judgement Refusal) → IsJudgement limit b j → Refused ≡ status_of j
    → (code : ℕ) × ((line : List ℕ) × IsJudgement limit b (Err (refusal.Code code line)))
refused_as limit b (Ok (judgement.Accepted types)) is e = absurd cc
refused_as limit b (Ok (judgement.Rejected failure explained)) is e = absurd cc
refused_as limit b (Ok (judgement.Undecided cause)) is e = absurd cc
refused_as limit b (Err (refusal.Code code line)) is e = (code, (line, is))
refused_as limit b (Err refusal.Memory) is e = absurd is

pub rejected_as : (limit : ℕ) (b : Bytes) (j : Result Judgement Refusal) → IsJudgement limit b j → Rejected ≡ status_of j
    → (t : Typed) × PosesTo b (Ok t) × ((failure : List ℕ) × ((explained : List ℕ) × IsRejected t failure explained))
rejected_as limit b (Ok (judgement.Accepted types)) is e = absurd cc
rejected_as limit b (Ok (judgement.Rejected failure explained)) is e = (is.0, is.1, (failure, (explained, is.2)))
rejected_as limit b (Ok (judgement.Undecided cause)) is e = absurd cc
rejected_as limit b (Err (refusal.Code code line)) is e = absurd cc
rejected_as limit b (Err refusal.Memory) is e = absurd is

pub undecided_as : (limit : ℕ) (b : Bytes) (j : Result Judgement Refusal) → IsJudgement limit b j → Undecided ≡ status_of j
    → (t : Typed) × PosesTo b (Ok t) × ((cause : List ℕ) × IsUndecided limit t cause)
undecided_as limit b (Ok (judgement.Accepted types)) is e = absurd cc
undecided_as limit b (Ok (judgement.Rejected failure explained)) is e = absurd cc
undecided_as limit b (Ok (judgement.Undecided cause)) is e = (is.0, is.1, (cause, is.2))
undecided_as limit b (Err (refusal.Code code line)) is e = absurd cc
undecided_as limit b (Err refusal.Memory) is e = absurd is
