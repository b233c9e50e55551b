use Rattle.std.proofs.Common.{◌≡◌, ◌++◌, ◌∙◌, List, [], ℕ, Ok, Err, refl, subst}
use Rattle.lq_text_front.specs.Bytes.Stages.{Bytes, bytes_of}
use Rattle.lq_top_words.specs.Command.Command.{sample}
use Rattle.lq_top_words.specs.declared.command.command.Mode.TheVariants.{Check}
use Rattle.lq_top_judge.specs.Judgement.Answers.{IsJudged, IsRefusal, IsSafe}
use Rattle.lq_top_judge.specs.Judgement.Safety.{IsSafelyAccepted}
use Rattle.lq_top_words.specs.Sample.Sample.{counts_text}
use Rattle.lq_top_app.specs.Asked.{sample_texts}
use Rattle.lq_top_app.specs.Report.{IsLine, IsVerdict, printed, status_of}
use Rattle.lq_top_app.specs.declared.status.Status.TheVariants.{Good}
use Rattle.lq_top_app.proofs.Verdicts.{good_is_safe, if_also, if_both, refusal_is, same_bytes, sample_verdict_is}
use Rattle.lq_top_app.proofs.verdict.sample_verdict.Goals as goal

pub returns-in-Ok-clause-verdict : goal.returns-in-Ok-clause-verdict
returns-in-Ok-clause-verdict c =
    let b : Bytes = sample_texts c.args.count in
    let j = c.in-Ok.judged in
    let same : bytes_of c.deref.result.now [] c.sample_qualifiers.result.now ≡ b =
    same_bytes c.deref.result.now [] c.sample_qualifiers.result.now b.program b.measures b.qualifiers (c.deref.ensures.value ∙ c.in_ok-program.ensures.text) refl c.sample_qualifiers.ensures in
    let is : IsJudged c.args.pivots b j = subst (λ (d : Bytes). IsJudged c.args.pivots d j) same c.in-Ok.ensures.judged in
    if_both (λ r. r.status ≡ status_of (Ok j.judgement))
    (λ r. r.report ≡ counts_text c.args.count j.counts.unknowns j.counts.instances j.counts.implications ++ printed Check j.judgement)
    (λ r. IsVerdict (sample c.args.count c.args.pivots) b r.status r.report) c.counted.result
    (λ r at told. sample_verdict_is c.args.count c.args.pivots b j r.status r.report is at told) c.counted.ensures.status c.counted.ensures.report

pub returns-clause-verdict : goal.returns-clause-verdict
returns-clause-verdict c =
    let b : Bytes = sample_texts c.args.count in
    let e = c.in-Err.refusal in
    let same : bytes_of c.deref.result.now [] c.sample_qualifiers.result.now ≡ b =
    same_bytes c.deref.result.now [] c.sample_qualifiers.result.now b.program b.measures b.qualifiers (c.deref.ensures.value ∙ c.in_ok-program.ensures.text) refl c.sample_qualifiers.ensures in
    let is : IsRefusal c.args.pivots b e = subst (λ (d : Bytes). IsRefusal c.args.pivots d e) same c.in-Err.ensures.refused in
    if_both (λ r. r.status ≡ status_of (Err e)) (λ r. IsLine e r.report) (λ r. IsVerdict (sample c.args.count c.args.pivots) b r.status r.report) c.refused.result
    (λ r at told. refusal_is (sample c.args.count c.args.pivots) b e r.status r.report is at told) c.refused.ensures.status c.refused.ensures.report

pub returns-in-Ok-clause-safe : goal.returns-in-Ok-clause-safe
returns-in-Ok-clause-safe c =
    let b : Bytes = sample_texts c.args.count in
    let j = c.in-Ok.judged in
    let same : bytes_of c.deref.result.now [] c.sample_qualifiers.result.now ≡ b =
    same_bytes c.deref.result.now [] c.sample_qualifiers.result.now b.program b.measures b.qualifiers (c.deref.ensures.value ∙ c.in_ok-program.ensures.text) refl c.sample_qualifiers.ensures in
    let is : IsSafe b j.judgement = subst (λ (d : Bytes). IsSafe d j.judgement) same c.in-Ok.ensures.safe in
    if_also (λ r. r.status ≡ status_of (Ok j.judgement)) (λ r. r.status ≡ Good → (types : List ℕ) × IsSafelyAccepted b types) c.counted.result
    (λ r at good. good_is_safe b j.judgement r.status is at good) c.counted.ensures.status
