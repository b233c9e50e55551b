-- Two judgements on three texts agree, unless the prover stopped for one of them.
use Rattle.std.proofs.Common.{◌≡◌, ◌⊎◌, inl, inr, ℕ, Result, Ok, Err, sym, ap, subst, ◌∙◌}
use Rattle.lq_text_front.specs.Bytes.Stages.{Bytes}
use Rattle.lq_top_pose.specs.Stages.{PosesTo, Typed, constraints_in}
use Rattle.lq_text_refusal.specs.Refusals.{code_of, refusal_line}
use Rattle.lq_text_refusal.specs.Stages.{HasOneAnswer}
use Rattle.lq_top_judge.specs.Judgement.Agreeing.{Agree, IsStopped}
use Rattle.lq_top_judge.specs.Verdict.Judgement.{IsJudgement, IsVerdictOn, instances_of}
use Rattle.lq_top_judge.specs.declared.verdict.judgement.Judgement.{Judgement}
use Rattle.lq_top_judge.specs.declared.verdict.judgement.Judgement.TheVariants.{Accepted, Rejected, Undecided}
use Rattle.lq_top_judge.specs.declared.verdict.judgement.Refusal.{Refusal}
use Rattle.lq_top_judge.specs.declared.verdict.judgement.Refusal.TheVariants.{Code, Memory}
use Rattle.lq_top_judge.proofs.JudgementLemmas.Verdicts.{Laws, accepted_once, accepted_or_rejected, gathered_or_not, rejected_once, undecided_once}

module _ (laws : Laws) (one : HasOneAnswer PosesTo) (limit : ℕ) (b : Bytes) where
  -- verdicts on one problem
  verdicts : (t : Typed) → PosesTo b (Ok t) → (x y : Judgement) → IsVerdictOn limit t x → IsVerdictOn limit t y
      → Agree (Ok x) (Ok y) ⊎ (IsStopped limit b (Ok x) ⊎ IsStopped limit b (Ok y))
  verdicts t posed (Accepted types) (Accepted others) p q = inl (ap (λ l. Ok (Accepted l)) (accepted_once laws t types others p q))
  verdicts t posed (Accepted types) (Rejected failure explained) p q = absurd (accepted_or_rejected laws t types failure explained p q)
  verdicts t posed (Rejected failure explained) (Accepted types) p q = absurd (accepted_or_rejected laws t types failure explained q p)
  verdicts t posed (Rejected failure explained) (Rejected other also) p q = inl (rejected_once laws t failure explained other also p q)
  verdicts t posed (Accepted types) (Undecided cause) p q =
      inr (inr (t, posed, (q, gathered_or_not laws t limit cause q (λ at f is. laws.first (instances_of t) (constraints_in t) at f is p.gathered))))
  verdicts t posed (Undecided cause) (Accepted types) p q =
      inr (inl (t, posed, (p, gathered_or_not laws t limit cause p (λ at f is. laws.first (instances_of t) (constraints_in t) at f is q.gathered))))
  verdicts t posed (Rejected failure explained) (Undecided cause) p q =
      inr (inr (t, posed, (q, gathered_or_not laws t limit cause q (λ at f is. laws.first (instances_of t) (constraints_in t) at f is p.refutes.gathered))))
  verdicts t posed (Undecided cause) (Rejected failure explained) p q =
      inr (inl (t, posed, (p, gathered_or_not laws t limit cause p (λ at f is. laws.first (instances_of t) (constraints_in t) at f is q.refutes.gathered))))
  verdicts t posed (Undecided cause) (Undecided other) p q =
      elim (undecided_once laws t limit cause other p q) [
        | inl same ↦ inl (ap (λ l. Ok (Undecided l)) same)
        | inr (inl left) ↦ inr (inl (t, posed, (p, left)))
        | inr (inr right) ↦ inr (inr (t, posed, (q, right)))
      ]

  pub one_verdict : (x y : Result Judgement Refusal) → IsJudgement limit b x → IsJudgement limit b y
      → Agree x y ⊎ (IsStopped limit b x ⊎ IsStopped limit b y)
  one_verdict (Ok x) (Ok y) p q =
      let same : p.0 ≡ q.0 = (let e = one b (Ok p.0) (Ok q.0) p.1 q.1 in cc) in
      verdicts q.0 q.1 x y (subst (λ (t : Typed). IsVerdictOn limit t x) same p.2) q.2
  one_verdict (Ok x) (Err (Code code line)) p q = absurd (let wrong = one b (Ok p.0) (Err q.0) p.1 q.1 in cc)
  one_verdict (Err (Code code line)) (Ok y) p q = absurd (let wrong = one b (Err p.0) (Ok q.0) p.1 q.1 in cc)
  one_verdict (Err (Code code line)) (Err (Code other also)) p q =
      let same : p.0 ≡ q.0 = (let e = one b (Err p.0) (Err q.0) p.1 q.1 in cc) in
      let codes : code ≡ other = p.2.0 ∙ ap code_of same ∙ sym q.2.0 in
      let lines : line ≡ also = p.2.1 ∙ ap refusal_line same ∙ sym q.2.1 in
      inl (ap (λ c. Err (Code c line)) codes ∙ ap (λ l. Err (Code other l)) lines)
  one_verdict (Err Memory) y p q = absurd p
  one_verdict x (Err Memory) p q = absurd q
