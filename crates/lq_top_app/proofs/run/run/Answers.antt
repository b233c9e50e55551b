use Rattle.std.proofs.Common.{List, ℕ, ap, ◌∙◌, subst}
use Rattle.lq_top_words.specs.Inputs.Visits.{visit}
use Rattle.lq_base_io.specs.Sink.{with_more}
use Rattle.lq_top_app.specs.Report.{IsDue}
use Rattle.lq_top_app.specs.declared.status.Status.{Status}
use Rattle.lq_top_app.proofs.Sending.{sent_whole}
use Rattle.lq_top_app.proofs.Statuses.{no_fault_due}
use Rattle.lq_top_app.proofs.run.run.Goals as goal

pub returns-in-Ok-send-clause-report : goal.returns-in-Ok-send-clause-report
returns-in-Ok-send-clause-report g c =
    sent_whole c.args.words.now (visit g.F.Folder.files g.F.Folder.absents g.F.Folder.failures c.args.folder.now c.answer_to.new.folder) c.in-Ok.answer.status c.in-Ok.answer.report (g.K.Sink.taken c.args.out.now) (g.K.Sink.taken c.send.new.out)
    c.in-Ok.ensures.due (c.in-Ok-send.ensures.ok ∙ ap (λ (l : List ℕ). with_more l (g.K.Sink.taken c.args.out.now)) c.as_bytes.ensures)

pub returns-in-Ok-send-clause-sink : goal.returns-in-Ok-send-clause-sink
returns-in-Ok-send-clause-sink g c = λ fault.
    let v = visit g.F.Folder.files g.F.Folder.absents g.F.Folder.failures c.args.folder.now c.answer_to.new.folder in
    absurd (no_fault_due c.args.words.now v c.in-Ok.answer.report (subst (λ (s : Status). IsDue c.args.words.now v s c.in-Ok.answer.report) fault c.in-Ok.ensures.due))
