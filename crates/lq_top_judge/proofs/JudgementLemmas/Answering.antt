-- What is answered, by what is judged of what was posed.
use Rattle.std.proofs.Common.{inl, inr, ℕ, ◌≤◌, Ok, length}
use Rattle.lq_text_front.specs.Bytes.Stages.{Bytes}
use Rattle.lq_text_lexer.specs.declared.limits.TheConstants.{TEXT_LIMIT}
use Rattle.lq_top_pose.specs.Stages.{PosesTo, Typed}
use Rattle.lq_top_pose.specs.Views.{IsPosedView}
use Rattle.lq_top_pose.specs.declared.posing.PosedTexts.{PosedTexts}
use Rattle.lq_top_judge.specs.Judgement.Agreeing.{IsOneJudgement}
use Rattle.lq_top_judge.specs.Judgement.Answers.{IsDecided, IsExact, IsSafe}
use Rattle.lq_top_judge.specs.Verdict.Judgement.{IsJudgement, IsVerdictOn}
use Rattle.lq_top_judge.specs.Judgement.Safety.{AcceptedAreSafe, SmallAreDecided}
use Rattle.lq_top_judge.specs.declared.verdict.judgement.Judgement.{Judgement}
use Rattle.lq_top_judge.specs.declared.verdict.judgement.Judgement.TheVariants.{Accepted, Rejected, Undecided}

pub safe_of : AcceptedAreSafe → (m : PosedTexts) (limit : ℕ) (b : Bytes) → length b.program ≤ TEXT_LIMIT → (t : Typed) (j : Judgement) → PosesTo b (Ok t)
    → IsPosedView m t → IsVerdictOn limit t j → IsSafe b j
safe_of law m limit b short t (Accepted types) poses view is =
    (t, poses, (is, law m.texts.noted b t types short (record { program = view.program; annotation = view.annotation }) poses is))
safe_of law m limit b short t (Rejected failure explained) poses view is = tt
safe_of law m limit b short t (Undecided cause) poses view is = tt

pub decided_of : SmallAreDecided → (limit : ℕ) (b : Bytes) (j : Judgement) → IsJudgement limit b (Ok j) → IsDecided limit b j
decided_of law limit b (Accepted types) is = tt
decided_of law limit b (Rejected failure explained) is = tt
decided_of law limit b (Undecided cause) is = (is.0, is.1, (is.2, law limit is.0 cause is.2))

pub exact_ok : IsOneJudgement → (limit : ℕ) (b : Bytes) (j : Judgement) → IsJudgement limit b (Ok j) → IsExact limit b (Ok j)
exact_ok law limit b j is due of_due =
    elim (law limit b (Ok j) due is of_due) [
      | inl same ↦ inl same
      | inr stopped ↦ inr (inr stopped)
    ]
