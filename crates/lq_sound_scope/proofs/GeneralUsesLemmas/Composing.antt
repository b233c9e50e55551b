-- The laws on the way to what is read of a text, put together.
use Rattle.std.proofs.Common.{◌≡◌, ℕ, ◌≤◌, false, length, None, sym, ap, subst, ◌∙◌}
use Rattle.std.proofs.lemmas.Option.{slice_get_past}
use Rattle.lq_types_infer.specs.Annotation.Whole.{program_of}
use Rattle.lq_sound_readiness.specs.NormalTexts.Laws.{ParsedProgramsAreWritten}
use Rattle.lq_meaning_normal_form.specs.Types.Laws.{ScopedProgramsArePlain}
use Rattle.lq_meaning_normal_form.specs.Types.Programs.{normal_items}
use Rattle.lq_meaning_normal_form.specs.Types.Written.{ItemsAreWritten}
use Rattle.lq_meaning_normalize.specs.Normalize.Laws.{ProgramsAreOnePass}
use Rattle.lq_refined_templates.specs.Points.Reading as reading
use Rattle.lq_text_walk.specs.Scoped.Scoping.{Scoping}
use Rattle.lq_generate_reading.specs.SourceNames.Texts.{source_of}
use Rattle.lq_sound_readiness.specs.TextPrograms.Laws.{IsOfText}
use Rattle.lq_sound_scope.specs.Scalars.Uses.{ProgramUsesBefore}
use Rattle.lq_sound_scope.specs.GeneralUses.Laws.{NotedProgramsUseBefore, NormalFormsUseBefore, ReadProgramsUseBefore, NotedTextsUseBefore}

items_written : ParsedProgramsAreWritten → (s : Scoping) → IsOfText s → ItemsAreWritten s.items
items_written written s t = subst (λ (r : Scoping). ItemsAreWritten r.items) (sym t.bound) (written t.text t.names t.tokens t.trees t.read t.known)

pub texts_use : NotedProgramsUseBefore → NormalFormsUseBefore → ReadProgramsUseBefore → ParsedProgramsAreWritten → ScopedProgramsArePlain
    → ProgramsAreOnePass → NotedTextsUseBefore
texts_use source normal read written plain one i n t knows =
    let s = program_of i.annotated in
    let k = length s.sources in
    let is_plain = plain s i.annotated.program.scoped (items_written written s t) in
    let no_text : (x : ℕ) → k ≤ x → n.text x ≡ None = λ x above. knows.texts x ∙ ap source_of (slice_get_past s.sources x above) in
    subst (λ is. ProgramUsesBefore (λ y. false) (reading.program_of n is).read) (sym (one k s.items))
    (read n (λ y. false) (normal_items k s.items) (normal n (λ y. false) k s.items is_plain no_text (source i n knows)))
