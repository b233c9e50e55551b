use Rattle.std.proofs.Common.{◌≡◌, List, ℕ, Some, refl, rules}
use Rattle.lq_top_words.specs.Command.Command.{command_of, sample}
use Rattle.lq_top_words.specs.Inputs.Visits.{Visit, visit}
use Rattle.lq_top_judge.specs.Judgement.Safety.{IsSafelyAccepted}
use Rattle.lq_top_app.specs.Asked.{request_by, sample_texts}
use Rattle.lq_top_app.specs.Causes.{IsSafeFor, IsSafeHere}
use Rattle.lq_top_app.specs.declared.status.Status.TheVariants.{Good}
use Rattle.lq_top_app.proofs.Verdicts.{if_also, safe_by, sample_safe_by}
use Rattle.lq_top_app.proofs.answer.answer_to.Goals as goal

pub returns-in-Some-Judge-clause-safe : goal.returns-in-Some-Judge-clause-safe
returns-in-Some-Judge-clause-safe g c =
    let v : Visit = visit g.F.Folder.files g.F.Folder.absents g.F.Folder.failures c.args.folder.now c.answer_on_files.new.folder in
    let is : command_of c.args.words.now ≡ Some (request_by c.in-Some-Judge.files) = search rules in
    if_also (λ r. r.status ≡ Good → IsSafeFor (request_by c.in-Some-Judge.files) v) (λ r. r.status ≡ Good → IsSafeHere c.args.words.now v) c.answer_on_files.result
    (λ r safe good. safe_by c.args.words.now v (request_by c.in-Some-Judge.files) is (safe good)) c.answer_on_files.ensures.safe

pub returns-in-Some-Sample-clause-safe : goal.returns-in-Some-Sample-clause-safe
returns-in-Some-Sample-clause-safe g c =
    let is : command_of c.args.words.now ≡ Some (sample c.in-Some-Sample.count c.in-Some-Sample.pivots) = search rules in
    if_also (λ r. r.status ≡ Good → (types : List ℕ) × IsSafelyAccepted (sample_texts c.in-Some-Sample.count) types) (λ r. r.status ≡ Good → IsSafeHere c.args.words.now _)
    c.sample_verdict.result
    (λ r safe good. sample_safe_by c.args.words.now _ c.in-Some-Sample.count c.in-Some-Sample.pivots is (record { absents = refl; failures = refl }) (safe good)) c.sample_verdict.ensures.safe
