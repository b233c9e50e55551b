use Rattle.std.proofs.Common.{refl}
use Rattle.lq_text_front.specs.Texts.Told.{error_view, texts_view}
use Rattle.lq_text_tree.specs.Texts.{measures_view, program_view, quals_view}
use Rattle.lq_text_front.specs.Bytes.Stages.{AreNamed, AreRead, Readings, bound_as, bytes_of, reading_of, sources_in}
use Rattle.lq_text_front.proofs.BytesLemmas.Dues.{names_due, program_is_read, then_by, told_due}
use Rattle.lq_text_front.proofs.bytes.binding.bind.Goals as goal

pub resolve-requires : goal.resolve-requires
resolve-requires c =
    let t = c.in_ok-trees.trees in
    let ok = c.in_ok-trees.ensures.ok in
    let r : Readings = ((reading_of (program_view t.program) ok.0, reading_of (measures_view t.measures) ok.1), reading_of (quals_view t.qualifiers) t.names) in
    let read = program_is_read (bytes_of c.args.program.now c.args.measures.now c.args.qualifiers.now) r ok.2 in
    c.parsed_programs_have_places.ensures c.args.program.now read.0 read.1 (program_view t.program) read.2

pub returns-in-Ok-clause-bound : goal.returns-in-Ok-clause-bound
returns-in-Ok-clause-bound c =
    let t = c.in_ok-trees.trees in
    let ok = c.in_ok-trees.ensures.ok in
    let r : Readings = ((reading_of (program_view t.program) ok.0, reading_of (measures_view t.measures) ok.1), reading_of (quals_view t.qualifiers) t.names) in
    (bound_as (sources_in r) (texts_view c.in-Ok.texts), (r, ok.2, (refl, c.in-Ok.ensures.resolved)), (refl, refl))

pub returns-in-Err-clause-refused : goal.returns-in-Err-clause-refused
returns-in-Err-clause-refused c =
    let t = c.in_ok-trees.trees in
    let ok = c.in_ok-trees.ensures.ok in
    let r : Readings = ((reading_of (program_view t.program) ok.0, reading_of (measures_view t.measures) ok.1), reading_of (quals_view t.qualifiers) t.names) in
    let told = told_due c.in-Err.error (sources_in r) c.in-Err.ensures.told in
    then_by AreRead AreNamed (bytes_of c.args.program.now c.args.measures.now c.args.qualifiers.now) r c.no_names.result ok.2
    (names_due r (error_view c.in-Err.error) c.no_names.result c.no_names.ensures told)
