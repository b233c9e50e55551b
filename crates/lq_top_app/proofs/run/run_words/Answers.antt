use Rattle.lq_top_words.specs.Inputs.Visits.{Visit, visit}
use Rattle.lq_top_app.specs.declared.status.Status.TheVariants.{Rejected, Undecided, Refused, Usage, File}
use Rattle.lq_top_app.proofs.Caused.{decided_here, due_at, exact, file_here, only_file, only_usage, refused_here, rejected_here, undecided_here, usage_here}
use Rattle.lq_top_app.proofs.run.run_words.Goals as goal

pub returns-clause-usage : goal.returns-clause-usage
returns-clause-usage g c = λ is.
    let v : Visit = visit g.F.Folder.files g.F.Folder.absents g.F.Folder.failures c.args.folder.now c.run.new.folder in
    let old = g.K.Sink.taken c.args.out.now in
    let new = g.K.Sink.taken c.run.new.out in
    usage_here c.args.words.now v old new (due_at c.args.words.now v old new c.run.result Usage c.run.ensures.report is)

pub returns-clause-file : goal.returns-clause-file
returns-clause-file g c = λ is.
    let v : Visit = visit g.F.Folder.files g.F.Folder.absents g.F.Folder.failures c.args.folder.now c.run.new.folder in
    let old = g.K.Sink.taken c.args.out.now in
    let new = g.K.Sink.taken c.run.new.out in
    file_here c.args.words.now v old new (due_at c.args.words.now v old new c.run.result File c.run.ensures.report is)

pub returns-clause-refused : goal.returns-clause-refused
returns-clause-refused g c = λ is.
    let v : Visit = visit g.F.Folder.files g.F.Folder.absents g.F.Folder.failures c.args.folder.now c.run.new.folder in
    let old = g.K.Sink.taken c.args.out.now in
    let new = g.K.Sink.taken c.run.new.out in
    refused_here c.args.words.now v old new (due_at c.args.words.now v old new c.run.result Refused c.run.ensures.report is)

pub returns-clause-rejected : goal.returns-clause-rejected
returns-clause-rejected g c = λ is.
    let v : Visit = visit g.F.Folder.files g.F.Folder.absents g.F.Folder.failures c.args.folder.now c.run.new.folder in
    let old = g.K.Sink.taken c.args.out.now in
    let new = g.K.Sink.taken c.run.new.out in
    rejected_here c.args.words.now v old new (due_at c.args.words.now v old new c.run.result Rejected c.run.ensures.report is)

pub returns-clause-undecided : goal.returns-clause-undecided
returns-clause-undecided g c = λ is.
    let v : Visit = visit g.F.Folder.files g.F.Folder.absents g.F.Folder.failures c.args.folder.now c.run.new.folder in
    let old = g.K.Sink.taken c.args.out.now in
    let new = g.K.Sink.taken c.run.new.out in
    undecided_here c.args.words.now v old new (due_at c.args.words.now v old new c.run.result Undecided c.run.ensures.report is)

pub returns-clause-decided : goal.returns-clause-decided
returns-clause-decided g c = λ is.
    let v : Visit = visit g.F.Folder.files g.F.Folder.absents g.F.Folder.failures c.args.folder.now c.run.new.folder in
    let old = g.K.Sink.taken c.args.out.now in
    let new = g.K.Sink.taken c.run.new.out in
    decided_here c.small_are_decided.ensures c.args.words.now v
    (undecided_here c.args.words.now v old new (due_at c.args.words.now v old new c.run.result Undecided c.run.ensures.report is))

pub returns-clause-only_usage : goal.returns-clause-only_usage
returns-clause-only_usage g c = λ none.
    let v : Visit = visit g.F.Folder.files g.F.Folder.absents g.F.Folder.failures c.args.folder.now c.run.new.folder in
    let old = g.K.Sink.taken c.args.out.now in
    let new = g.K.Sink.taken c.run.new.out in
    only_usage c.args.words.now v old new c.run.result c.run.ensures.report none

pub returns-clause-only_file : goal.returns-clause-only_file
returns-clause-only_file g c = λ rose.
    let v : Visit = visit g.F.Folder.files g.F.Folder.absents g.F.Folder.failures c.args.folder.now c.run.new.folder in
    let old = g.K.Sink.taken c.args.out.now in
    let new = g.K.Sink.taken c.run.new.out in
    only_file c.args.words.now v old new c.run.result c.run.ensures.report rose

pub returns-clause-exact : goal.returns-clause-exact
returns-clause-exact g c =
    let v : Visit = visit g.F.Folder.files g.F.Folder.absents g.F.Folder.failures c.args.folder.now c.run.new.folder in
    let old = g.K.Sink.taken c.args.out.now in
    let new = g.K.Sink.taken c.run.new.out in
    exact c.one_report.ensures c.args.words.now v old new c.run.result c.run.ensures.report
