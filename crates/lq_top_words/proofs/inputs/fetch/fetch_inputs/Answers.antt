-- What is due of a file that didn't come is due of the whole visit.
use Rattle.std.proofs.Common.{◌≡◌, ◌∙◌, Err, refl, sym, arith, rules}
use Rattle.lq_top_words.specs.Inputs.Visits.{Visit, visit, IsFileFault}
use Rattle.lq_top_words.specs.Inputs.Wanted.{Wanted, wanted_by, names_in, IsFaultIfNamed, WasFault}
use Rattle.lq_top_words.proofs.InputsLemmas.Within.{EndsWith, fault_if_within, handed_within, handed_if_within, told_of, program_fault, measures_fault, quals_fault}
use Rattle.lq_top_words.proofs.inputs.fetch.fetch_inputs.Goals as goal

pub returns-in_err-program-clause-fault : goal.returns-in_err-program-clause-fault
returns-in_err-program-clause-fault g c =
    let was : c.from_residual.result ≡ Err c.in_err-program.field-0.0 = search rules in
    let w : Wanted = wanted_by c.args.files.now in
    let v : Visit = visit g.F.Folder.files g.F.Folder.absents g.F.Folder.failures c.args.folder.now c.fetch_text.new.folder in
    told_of (IsFileFault v w.program) (WasFault v (names_in w)) (program_fault v w) c.from_residual.result c.in_err-program.field-0.0 was c.in_err-program.ensures.fault

pub returns-in_err-measures-clause-fault : goal.returns-in_err-measures-clause-fault
returns-in_err-measures-clause-fault g c =
    let was : c.from_residual-in_err-measures.result ≡ Err c.in_err-measures.field-0.0 = search rules in
    let w : Wanted = wanted_by c.args.files.now in
    let v : Visit = visit g.F.Folder.files g.F.Folder.absents g.F.Folder.failures c.args.folder.now c.fetch_named.new.folder in
    let part : Visit = visit g.F.Folder.files g.F.Folder.absents g.F.Folder.failures c.fetch_text.new.folder c.fetch_named.new.folder in
    let first : Visit = visit g.F.Folder.files g.F.Folder.absents g.F.Folder.failures c.args.folder.now c.fetch_text.new.folder in
    let ends : EndsWith v part = record {
      files = sym c.fetch_text.ensures.same;
      absents = c.fetch_text.ensures.absents;
      absents_now = refl;
      failures = sym c.in_ok-program.ensures.calm;
      failures_now = refl;
    } in
    told_of (IsFaultIfNamed part w.measures) (WasFault v (names_in w))
    (λ line f. measures_fault v w c.in_ok-program.program.items line (handed_within v first refl w.program c.in_ok-program.program.items c.in_ok-program.ensures.handed)
    (fault_if_within v part ends w.measures line f))
    c.from_residual-in_err-measures.result c.in_err-measures.field-0.0 was c.in_err-measures.ensures.fault

pub returns-in_err-quals-clause-fault : goal.returns-in_err-quals-clause-fault
returns-in_err-quals-clause-fault g c =
    let was : c.from_residual-in_err-quals.result ≡ Err c.in_err-quals.field-0.0 = search rules in
    let w : Wanted = wanted_by c.args.files.now in
    let v : Visit = visit g.F.Folder.files g.F.Folder.absents g.F.Folder.failures c.args.folder.now c.fetch_named-2.new.folder in
    let part : Visit = visit g.F.Folder.files g.F.Folder.absents g.F.Folder.failures c.fetch_named.new.folder c.fetch_named-2.new.folder in
    let first : Visit = visit g.F.Folder.files g.F.Folder.absents g.F.Folder.failures c.args.folder.now c.fetch_text.new.folder in
    let second : Visit = visit g.F.Folder.files g.F.Folder.absents g.F.Folder.failures c.fetch_text.new.folder c.fetch_named.new.folder in
    let ends : EndsWith v part = record {
      files = sym (c.fetch_named.ensures.same ∙ c.fetch_text.ensures.same);
      absents = omega (arith, c.fetch_text.ensures.absents, c.fetch_named.ensures.absents);
      absents_now = refl;
      failures = sym (c.in_ok-measures.ensures.calm ∙ c.in_ok-program.ensures.calm);
      failures_now = refl;
    } in
    told_of (IsFaultIfNamed part w.quals) (WasFault v (names_in w))
    (λ line f. quals_fault v w c.in_ok-program.program.items c.in_ok-measures.measures.items line
    (handed_within v first refl w.program c.in_ok-program.program.items c.in_ok-program.ensures.handed)
    (handed_if_within v second (sym c.fetch_text.ensures.same) w.measures c.in_ok-measures.measures.items c.in_ok-measures.ensures.handed)
    (fault_if_within v part ends w.quals line f))
    c.from_residual-in_err-quals.result c.in_err-quals.field-0.0 was c.in_err-quals.ensures.fault
