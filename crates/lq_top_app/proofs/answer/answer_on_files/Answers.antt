-- The verdict is on the texts that were handed over.
use Rattle.std.proofs.Common.{◌≡◌, List, ℕ, Some, inr, subst}
use Rattle.lq_text_front.specs.Bytes.Stages.{Bytes, bytes_of}
use Rattle.lq_top_words.specs.Command.Command.{Request}
use Rattle.lq_top_words.specs.Inputs.Visits.{Visit, visit}
use Rattle.lq_top_judge.specs.Judgement.Safety.{IsSafelyAccepted}
use Rattle.lq_top_app.specs.Asked.{request_by}
use Rattle.lq_top_app.specs.Causes.{IsSafeFor}
use Rattle.lq_top_app.specs.Report.{IsDueFor, IsVerdict}
use Rattle.lq_top_app.specs.declared.status.Status.TheVariants.{Good}
use Rattle.lq_top_app.proofs.Verdicts.{if_also, same_bytes}
use Rattle.lq_top_app.proofs.answer.answer_on_files.Goals as goal

pub returns-in-Ok-clause-due : goal.returns-in-Ok-clause-due
returns-in-Ok-clause-due g c =
    let v : Visit = visit g.F.Folder.files g.F.Folder.absents g.F.Folder.failures c.args.folder.now c.fetch_inputs.new.folder in
    let request : Request = request_by c.args.files.now in
    let read : Bytes = bytes_of c.deref.result.now c.deref-in-Ok.result.now c.deref-in-Ok-2.result.now in
    let b : Bytes = bytes_of c.in-Ok.texts.program.items c.in-Ok.texts.measures.items c.in-Ok.texts.quals.items in
    let same : read ≡ b =
    same_bytes read.program read.measures read.qualifiers b.program b.measures b.qualifiers c.deref.ensures.value c.deref-in-Ok.ensures.value c.deref-in-Ok-2.ensures.value in
    if_also (λ r. IsVerdict request read r.status r.report) (λ r. IsDueFor (Some request) v r.status r.report) c.verdict_on.result
    (λ r is. inr (record { texts = b; are = c.in-Ok.ensures.handed; verdict = subst (λ (d : Bytes). IsVerdict request d r.status r.report) same is })) c.verdict_on.ensures.verdict

pub returns-in-Ok-clause-safe : goal.returns-in-Ok-clause-safe
returns-in-Ok-clause-safe g c =
    let v : Visit = visit g.F.Folder.files g.F.Folder.absents g.F.Folder.failures c.args.folder.now c.fetch_inputs.new.folder in
    let request : Request = request_by c.args.files.now in
    let read : Bytes = bytes_of c.deref.result.now c.deref-in-Ok.result.now c.deref-in-Ok-2.result.now in
    let b : Bytes = bytes_of c.in-Ok.texts.program.items c.in-Ok.texts.measures.items c.in-Ok.texts.quals.items in
    let same : read ≡ b =
    same_bytes read.program read.measures read.qualifiers b.program b.measures b.qualifiers c.deref.ensures.value c.deref-in-Ok.ensures.value c.deref-in-Ok-2.ensures.value in
    if_also (λ r. r.status ≡ Good → (types : List ℕ) × IsSafelyAccepted read types) (λ r. r.status ≡ Good → IsSafeFor request v) c.verdict_on.result
    (λ r safe good. (b, c.in-Ok.ensures.handed, subst (λ (d : Bytes). (types : List ℕ) × IsSafelyAccepted d types) same (safe good))) c.verdict_on.ensures.safe
