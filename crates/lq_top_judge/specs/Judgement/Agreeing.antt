-- When two judgements are one.
use Rattle.std.specs.Prelude.{◌≡◌, ◌⊎◌, ℕ, List, Result, Ok}
use Rattle.lq_text_front.specs.Bytes.Stages.{Bytes}
use Rattle.lq_top_answers.specs.Failure.Failures.{DifferInValues}
use Rattle.lq_logic_predicates.specs.declared.pred.Stop.{Stop}
use Rattle.lq_logic_predicates.specs.declared.pred.Stop.TheVariants.{Number, Gather, Pivots, Memory as MemoryStop}
use Rattle.lq_top_pose.specs.Stages.{PosesTo, Typed}
use Rattle.lq_top_judge.specs.Verdict.Judgement.{IsJudgement, IsUndecided}
use Rattle.lq_top_judge.specs.declared.verdict.judgement.Judgement.{Judgement}
use Rattle.lq_top_judge.specs.declared.verdict.judgement.Judgement.TheVariants.{Rejected, Undecided}
use Rattle.lq_top_judge.specs.declared.verdict.judgement.Refusal.{Refusal}

-- what the prover stopped on: neither a literal that can't be gathered nor memory
abbrev pub IsOfProver : Stop → Type 0
IsOfProver (Number past) = Unit {0}
IsOfProver (Pivots n) = Unit {0}
IsOfProver (Gather p) = ⊥
IsOfProver MemoryStop = ⊥

-- it is undecided since the prover stopped
abbrev pub IsStopped : ℕ → Bytes → Result Judgement Refusal → Type 0
IsStopped limit b (Ok (Undecided cause)) = (t : Typed) × PosesTo b (Ok t) × ((is : IsUndecided limit t cause) × IsOfProver is.stop)
IsStopped limit b j = ⊥

-- the same lines but for the values at the points, between these
abbrev pub DifferAlike : List ℕ → List ℕ → Type 0
DifferAlike text other = (front back : List ℕ) × DifferInValues front back text other

-- they are one, but for the values in the lines on a point
abbrev pub Agree : Result Judgement Refusal → Result Judgement Refusal → Type 0
Agree (Ok (Rejected failure explained)) (Ok (Rejected other also)) = DifferAlike failure other × DifferAlike explained also
Agree a b = a ≡ b

-- Two judgements that are due agree, unless the prover stopped for one of them.
abbrev pub IsOneJudgement : Type 0
IsOneJudgement =
    (limit : ℕ) (b : Bytes) (x y : Result Judgement Refusal) → IsJudgement limit b x → IsJudgement limit b y
    → Agree x y ⊎ (IsStopped limit b x ⊎ IsStopped limit b y)
