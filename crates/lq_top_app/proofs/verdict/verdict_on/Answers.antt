use Rattle.std.proofs.Common.{◌≡◌, List, ℕ, Ok, Err}
use Rattle.lq_text_front.specs.Bytes.Stages.{Bytes, bytes_of}
use Rattle.lq_top_judge.specs.Judgement.Safety.{IsSafelyAccepted}
use Rattle.lq_top_app.specs.Asked.{request_by}
use Rattle.lq_top_app.specs.Report.{IsLine, IsVerdict, printed, status_of}
use Rattle.lq_top_app.specs.declared.status.Status.TheVariants.{Good}
use Rattle.lq_top_app.proofs.Verdicts.{good_is_safe, if_also, if_both, refusal_is, refusal_is_not_good}
use Rattle.lq_top_app.proofs.verdict.verdict_on.Goals as goal

pub returns-in-Ok-clause-verdict : goal.returns-in-Ok-clause-verdict
returns-in-Ok-clause-verdict c =
    let j = c.in-Ok.judgement in
    let b : Bytes = bytes_of c.args.program.now c.args.measures.now c.args.quals.now in
    if_both (λ r. r.status ≡ status_of (Ok j)) (λ r. r.report ≡ printed c.args.files.now.mode j) (λ r. IsVerdict (request_by c.args.files.now) b r.status r.report) c.answer_of.result
    (λ r at told. record { judgement = Ok j; due = c.in-Ok.ensures.judged; status_is = at; tells = told }) c.answer_of.ensures.status c.answer_of.ensures.report

pub returns-in-Ok-clause-safe : goal.returns-in-Ok-clause-safe
returns-in-Ok-clause-safe c =
    let j = c.in-Ok.judgement in
    let b : Bytes = bytes_of c.args.program.now c.args.measures.now c.args.quals.now in
    if_also (λ r. r.status ≡ status_of (Ok j)) (λ r. r.status ≡ Good → (types : List ℕ) × IsSafelyAccepted b types) c.answer_of.result
    (λ r at good. good_is_safe b j r.status c.in-Ok.ensures.safe at good) c.answer_of.ensures.status

pub returns-in-Err-clause-verdict : goal.returns-in-Err-clause-verdict
returns-in-Err-clause-verdict c =
    let e = c.in-Err.refusal in
    let b : Bytes = bytes_of c.args.program.now c.args.measures.now c.args.quals.now in
    if_both (λ r. r.status ≡ status_of (Err e)) (λ r. IsLine e r.report) (λ r. IsVerdict (request_by c.args.files.now) b r.status r.report) c.refused.result
    (λ r at told. refusal_is (request_by c.args.files.now) b e r.status r.report c.in-Err.ensures.refused at told) c.refused.ensures.status c.refused.ensures.report

pub returns-in-Err-clause-safe : goal.returns-in-Err-clause-safe
returns-in-Err-clause-safe c =
    let e = c.in-Err.refusal in
    let b : Bytes = bytes_of c.args.program.now c.args.measures.now c.args.quals.now in
    if_also (λ r. r.status ≡ status_of (Err e)) (λ r. r.status ≡ Good → (types : List ℕ) × IsSafelyAccepted b types) c.refused.result
    (λ r at good. absurd (refusal_is_not_good e r.status at good)) c.refused.ensures.status
