use Rattle.std.proofs.Common.{◌≡◌, Ok, Err, IfErr, List, ℕ, refl, sym, subst, rules}
use Rattle.lq_text_actions.specs.Value as value
use Rattle.lq_base_names.specs.declared.place.TextKind.TheVariants as kind
use Rattle.lq_text_tree.specs.Texts.{measures_view, program_view}
use Rattle.lq_text_front.specs.Bytes.Stages.{AreMeasuresRead, AreQualifiersRead, AreRead, AreTwoRead, Beside, IsProgramRead, ReadsTo, bytes_of, reading_of}
use Rattle.lq_text_front.specs.Bytes.Views.{IsBy}
use Rattle.lq_text_front.proofs.BytesLemmas.Dues.{beside_by, still_by, then_by}
use Rattle.lq_text_front.proofs.bytes.reading.read.Goals as goal

pub returns-in_err-measures-clause-refused : goal.returns-in_err-measures-clause-refused
returns-in_err-measures-clause-refused c =
    let b = bytes_of c.args.program.now c.args.measures.now c.args.qualifiers.now in
    let program = reading_of (program_view c.in_ok-program.program) c.program_in.new.names in
    let program_ok = subst (λ (known : List (List ℕ)). ReadsTo kind.Program value.items known c.args.program.now (Ok program)) c.in_ok-names.ensures
    c.in_ok-program.ensures.ok in
    let n = c.in_err-measures.field-0.0 in
    let beside = beside_by (AreMeasuresRead b) program n c.in_err-measures.ensures.refused in
    let two = then_by IsProgramRead (Beside (AreMeasuresRead b)) b program n program_ok beside in
    let was : c.from_residual-in_err-measures.result ≡ Err n = search rules in
    subst (λ r. IfErr r (λ e. IsBy (AreRead b) e)) (sym was) (still_by AreTwoRead (Beside (AreQualifiersRead b)) b n two)

pub returns-in_err-qualifiers-clause-refused : goal.returns-in_err-qualifiers-clause-refused
returns-in_err-qualifiers-clause-refused c =
    let b = bytes_of c.args.program.now c.args.measures.now c.args.qualifiers.now in
    let program = reading_of (program_view c.in_ok-program.program) c.program_in.new.names in
    let measures = reading_of (measures_view c.in_ok-measures.measures) c.measures_in.new.names in
    let program_ok = subst (λ (known : List (List ℕ)). ReadsTo kind.Program value.items known c.args.program.now (Ok program)) c.in_ok-names.ensures
    c.in_ok-program.ensures.ok in
    let two : AreTwoRead b (Ok (program, measures)) = (program, program_ok, (refl, c.in_ok-measures.ensures.ok)) in
    let n = c.in_err-qualifiers.field-0.0 in
    let beside = beside_by (AreQualifiersRead b) (program, measures) n c.in_err-qualifiers.ensures.refused in
    let was : c.from_residual-in_err-qualifiers.result ≡ Err n = search rules in
    subst (λ r. IfErr r (λ e. IsBy (AreRead b) e)) (sym was) (then_by AreTwoRead (Beside (AreQualifiersRead b)) b (program, measures) n two beside)

pub returns-clause-ok : goal.returns-clause-ok
returns-clause-ok c =
    let program = reading_of (program_view c.in_ok-program.program) c.program_in.new.names in
    let measures = reading_of (measures_view c.in_ok-measures.measures) c.measures_in.new.names in
    let program_ok = subst (λ (known : List (List ℕ)). ReadsTo kind.Program value.items known c.args.program.now (Ok program)) c.in_ok-names.ensures
    c.in_ok-program.ensures.ok in (
      c.program_in.new.names,
      c.measures_in.new.names,
      ((program, measures), (program, program_ok, (refl, c.in_ok-measures.ensures.ok)), (refl, c.in_ok-qualifiers.ensures.ok)),
    )
