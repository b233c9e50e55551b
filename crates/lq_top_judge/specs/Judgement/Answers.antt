-- What is answered for three texts.
use Rattle.std.specs.Prelude.{◌≡◌, ◌⊎◌, ℕ, List, Result, Ok, Err}
use Rattle.lq_text_front.specs.Bytes.Stages.{Bytes}
use Rattle.lq_top_pose.specs.Stages.{PosesTo, Typed}
use Rattle.lq_top_judge.specs.Judgement.Agreeing.{Agree, IsOfProver, IsStopped}
use Rattle.lq_top_judge.specs.Verdict.Counting.{HasCounts}
use Rattle.lq_top_judge.specs.Verdict.Judgement.{IsJudgement, IsUndecided, IsVerdictOn}
use Rattle.lq_top_judge.specs.Judgement.Safety.{AreDecidable, IsSafelyAccepted}
use Rattle.lq_top_judge.specs.declared.verdict.judgement.Judged.{Judged}
use Rattle.lq_top_judge.specs.declared.verdict.judgement.Judgement.{Judgement}
use Rattle.lq_top_judge.specs.declared.verdict.judgement.Judgement.TheVariants.{Accepted, Rejected, Undecided}
use Rattle.lq_top_judge.specs.declared.verdict.judgement.Refusal.{Refusal}
use Rattle.lq_top_judge.specs.declared.verdict.judgement.Refusal.TheVariants.{Code, Memory}

-- the judgement that is due, and how much was solved for it
abbrev pub IsJudged : ℕ → Bytes → Judged → Type 0
IsJudged limit b j = (t : Typed) × PosesTo b (Ok t) × IsVerdictOn limit t j.judgement × HasCounts t j.counts

-- the refusal that is due, or memory ran out
abbrev pub IsRefusal : ℕ → Bytes → Refusal → Type 0
IsRefusal limit b (Code code line) = IsJudgement limit b (Err (Code code line))
IsRefusal limit b Memory = Unit {0}

-- of an accepted program
abbrev pub IfAccepted : Judgement → (List ℕ → Type 0) → Type 0
IfAccepted (Accepted types) P = P types
IfAccepted (Rejected failure explained) P = Unit {0}
IfAccepted (Undecided cause) P = Unit {0}

-- of one that isn't decided
abbrev pub IfUndecided : Judgement → (List ℕ → Type 0) → Type 0
IfUndecided (Accepted types) P = Unit {0}
IfUndecided (Rejected failure explained) P = Unit {0}
IfUndecided (Undecided cause) P = P cause

-- what is accepted is safe
abbrev pub IsSafe : Bytes → Judgement → Type 0
IsSafe b j = IfAccepted j (IsSafelyAccepted b)

-- where all implications are of differences and small, or solvable, the prover didn't stop
abbrev pub IsByGathering : ℕ → Bytes → List ℕ → Type 0
IsByGathering limit b cause =
    (t : Typed) × PosesTo b (Ok t) × ((is : IsUndecided limit t cause) × (AreDecidable limit t → IsOfProver is.stop → ⊥))

abbrev pub IsDecided : ℕ → Bytes → Judgement → Type 0
IsDecided limit b j = IfUndecided j (IsByGathering limit b)

-- In place of a judgement that is due only one that agrees comes, or want of memory, or one of both is that the prover stopped.
abbrev pub IsExact : ℕ → Bytes → Result Judgement Refusal → Type 0
IsExact limit b answer =
    (due : Result Judgement Refusal) → IsJudgement limit b due
    → Agree answer due ⊎ ((answer ≡ Err Memory) ⊎ (IsStopped limit b answer ⊎ IsStopped limit b due))
