-- Typed texts are plain, and safe.
use Rattle.std.proofs.Math.Logic.{∥∥₁_elim, ∥∥₁_map}
use Rattle.lq_types_infer.specs.Annotation.Whole.{program_of}
use Rattle.lq_generate_datatypes.specs.Equations.{place_in}
use Rattle.lq_meaning_steps.specs.Model.FromTree.{items_of}
use Rattle.lq_generate_problem.specs.Posed.{datatypes_of}
use Rattle.lq_sound_scope.specs.Scalars.Data.{HasDatatypes}
use Rattle.lq_sound_scope.specs.Scalars.Laws.{ScalarNormalFormsArePlain}
use Rattle.lq_sound_programs.specs.Scenes.Scenes.{MeasuresAreKnown}
use Rattle.lq_sound_texts.specs.Measures.Laws.{TextMeasuresFit}
use Rattle.lq_sound_readiness.specs.TextPrograms.Laws.{NotedTextsAreTyped}
use Rattle.lq_sound_texts.specs.TypedTexts.Safety.{basis_in, normal_in, CheckedTextsAreSafe}
use Rattle.lq_sound_texts.proofs.TypedTextsLemmas.Outcomes.{safe_prop}
use Rattle.lq_sound_texts.specs.Texts.Laws.{TextsArePlain, TextsAreSafe}
use Rattle.lq_sound_texts.proofs.TextsLemmas.Conditions.{Laws, is_over, scalar_text}

pub texts_plain : Laws → NotedTextsAreTyped → ScalarNormalFormsArePlain → TextsArePlain
texts_plain L typed scalar i n ms A O short knows sorted measures known =
    let s = program_of i.annotated in
    ∥∥₁_map (typed i n short.of_text knows) (λ r.
    let t = scalar_text L i n short ms knows measures r.normal in
    let has : HasDatatypes (basis_in s ms n) O = record { listed = t.listed; equations = t.equations; measures = known } in
    scalar (datatypes_of s.datatypes ms) n r.by (normal_in s) A O r.same r.normal r.obeys r.uses t.scalar has sorted t.ready t.differ t.twins t.before)

pub texts_safe : TextsArePlain → CheckedTextsAreSafe → TextMeasuresFit → MeasuresAreKnown → TextsAreSafe
texts_safe plain checked fit know i n ms A short knows sorted measures covariant solved =
    let s = program_of i.annotated in
    let P = basis_in s ms n in
    let own = know P ms (place_in s.datatypes) (fit P s.datatypes ms (is_over s ms n) measures).0 in
    ∥∥₁_elim (plain i n ms A own.objects short knows sorted measures own.measures) (safe_prop (items_of s.items))
    (λ there. checked i n ms A own.objects short.of_text knows covariant solved own.lengths there)
