-- Answers that tell a judgement.
use Rattle.std.proofs.Common.{◌≡◌, ℕ, List, ◌++◌, Result, Ok, Err, IfOk, Some, refl, ◌∙◌, ap}
use Rattle.lq_text_front.specs.Bytes.Stages.{Bytes, bytes_of}
use Rattle.lq_top_words.specs.Command.Command.{Request, command_of, judge, sample}
use Rattle.lq_top_words.specs.declared.command.command.Mode.TheVariants.{Check}
use Rattle.lq_top_words.specs.Inputs.Visits.{Visit, IsUntouched}
use Rattle.lq_top_judge.specs.Judgement.Answers as answers
use Rattle.lq_top_judge.specs.Judgement.Safety.{IsSafelyAccepted}
use Rattle.lq_top_judge.specs.declared.verdict.judgement.Judged.{Judged}
use Rattle.lq_top_judge.specs.declared.verdict.judgement.Judgement.{Judgement}
use Rattle.lq_top_judge.specs.declared.verdict.judgement.Judgement.TheVariants as judgement
use Rattle.lq_top_judge.specs.declared.verdict.judgement.Refusal.{Refusal}
use Rattle.lq_top_judge.specs.declared.verdict.judgement.Refusal.TheVariants as refusal
use Rattle.lq_top_words.specs.Sample.Sample.{counts_text}
use Rattle.lq_top_app.specs.Asked.{limit_of, sample_texts}
use Rattle.lq_top_app.specs.Causes.{IsSafeFor, IsSafeHere}
use Rattle.lq_top_app.specs.Report.{IsLine, IsVerdict, printed, status_of}
use Rattle.lq_top_app.specs.declared.status.Status.{Status}
use Rattle.lq_top_app.specs.declared.status.Status.TheVariants.{Good}

-- what holds of an answer by two facts, and by one
pub if_both : {T E : Type 0} (P Q R : T → Type 0) (r : Result T E) → ((x : T) → P x → Q x → R x) → IfOk r P → IfOk r Q → IfOk r R
if_both P Q R (Ok x) f p q = f x p q
if_both P Q R (Err e) f p q = tt

pub if_also : {T E : Type 0} (P R : T → Type 0) (r : Result T E) → ((x : T) → P x → R x) → IfOk r P → IfOk r R
if_also P R (Ok x) f p = f x p
if_also P R (Err e) f p = tt

pub same_bytes : (p m q r n s : List ℕ) → p ≡ r → m ≡ n → q ≡ s → bytes_of p m q ≡ bytes_of r n s
same_bytes p m q r n s e f g =
    ap (λ (l : List ℕ). bytes_of l m q) e ∙ (ap (λ (l : List ℕ). bytes_of r l q) f ∙ ap (λ (l : List ℕ). bytes_of r n l) g)

-- the verdict on a sample, behind its counts
pub sample_verdict_is : (count pivots : ℕ) (b : Bytes) (j : Judged) (status : Status) (report : List ℕ) → answers.IsJudged pivots b j → status ≡ status_of (Ok j.judgement)
    → report ≡ counts_text count j.counts.unknowns j.counts.instances j.counts.implications ++ printed Check j.judgement → IsVerdict (sample count pivots) b status report
sample_verdict_is count pivots b j status report is at told = record {
  judgement = Ok j.judgement;
  due = (is.0, is.1, is.2);
  status_is = at;
  tells = (
    counts_text count j.counts.unknowns j.counts.instances j.counts.implications,
    (is.0, is.1, (j.counts, is.3, refl)),
    told,
  );
}

-- the verdict of a refusal
pub refusal_is : (request : Request) (b : Bytes) (e : Refusal) (status : Status) (report : List ℕ) → answers.IsRefusal (limit_of request) b e → status ≡ status_of (Err e) → IsLine e report
    → IsVerdict request b status report
refusal_is (judge mode p m q n) b (refusal.Code code line) status report is at told = record { judgement = Err (refusal.Code code line); due = is; status_is = at; tells = told }
refusal_is (sample count n) b (refusal.Code code line) status report is at told = record { judgement = Err (refusal.Code code line); due = is; status_is = at; tells = told }
refusal_is request b refusal.Memory status report is at told = absurd told

pub refusal_is_not_good : (e : Refusal) (status : Status) → status ≡ status_of (Err e) → status ≡ Good → ⊥
refusal_is_not_good (refusal.Code code line) status at good = cc
refusal_is_not_good refusal.Memory status at good = cc

-- what is good is accepted, and safe so
pub good_is_safe : (b : Bytes) (j : Judgement) (status : Status) → answers.IsSafe b j → status ≡ status_of (Ok j) → status ≡ Good → (types : List ℕ) × IsSafelyAccepted b types
good_is_safe b (judgement.Accepted types) status safe at good = (types, safe)
good_is_safe b (judgement.Rejected failure explained) status safe at good = absurd cc
good_is_safe b (judgement.Undecided cause) status safe at good = absurd cc

pub safe_by : (words : List (List ℕ)) (v : Visit) (request : Request) → command_of words ≡ Some request → IsSafeFor request v → IsSafeHere words v
safe_by words v request is safe = (record { request = request; is = is; texts = safe.0; are = safe.1 }, safe.2)

pub sample_safe_by : (words : List (List ℕ)) (v : Visit) (count pivots : ℕ) → command_of words ≡ Some (sample count pivots) → IsUntouched v
    → ((types : List ℕ) × IsSafelyAccepted (sample_texts count) types) → IsSafeHere words v
sample_safe_by words v count pivots is calm safe = (record { request = sample count pivots; is = is; texts = sample_texts count; are = (calm, refl) }, safe)
