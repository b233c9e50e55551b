-- Typed texts are posed, and what they are asked for speaks of bound names.
use Rattle.std.proofs.Common.{◌≡◌, ℕ, None, [], ap, refl}
use Rattle.std.proofs.Math.Logic.{∥∥₁_map}
use Rattle.lq_types_infer.specs.Annotation.Whole.{program_of}
use Rattle.lq_sound_adequacy.specs.Subtypings.Laws.{EnvironmentsDiffer, ImplicationsAreBound, NormalFormsArePosed, ObligationsAreBound}
use Rattle.lq_generate_datatypes.specs.Equations.{place_in}
use Rattle.lq_sound_scope.specs.NameCounts.Laws.{ShortTextsHaveTwins}
use Rattle.lq_refined_rules.specs.Obligations.Laws.{ObligationsAreImplications}
use Rattle.lq_generate_problem.specs.Posed.{datatypes_of, read_of}
use Rattle.lq_sound_programs.specs.Scenes.Scenes.{equations_at}
use Rattle.lq_sound_readiness.specs.TextPrograms.Laws.{NotedTextsAreReady, NotedTextsAreTyped}
use Rattle.lq_sound_texts.specs.TypedTexts.Safety.{basis_in, normal_in}
use Rattle.lq_sound_adequacy.specs.Implications.Laws.{ImplicationsAreSorted}
use Rattle.lq_sound_adequacy.specs.Programs.Kinds.{kinds_by}
use Rattle.lq_sound_adequacy.specs.Programs.Laws.{NormalFormsAreSorted}
use Rattle.lq_sound_texts.specs.Measures.Laws.{TextMeasuresAreSorted}
use Rattle.lq_sound_texts.proofs.TextsLemmas.Conditions.{Laws, is_over, scalar_text}
use Rattle.lq_sound_adequacy.specs.Texts.Laws.{points_in, unknowns_in, TextEnvironmentsDiffer, TextImplicationsAreBound, TextImplicationsAreSorted, TextObligationsAreBound, TextsArePosed}

pub texts_posed : Laws → NotedTextsAreTyped → NormalFormsArePosed → TextsArePosed
texts_posed L typed posed i n ms short knows measures =
    let s = program_of i.annotated in
    ∥∥₁_map (typed i n short.of_text knows) (λ r.
    let t = scalar_text L i n short ms knows measures r.normal in
    posed (datatypes_of s.datatypes ms) n r.by (normal_in s) r.same r.normal r.obeys r.uses t.scalar t.equations
    (λ c none. ap (equations_at ms (place_in s.datatypes) c) none) t.ready t.differ t.twins t.before)

pub obligations_bound : TextsArePosed → ObligationsAreBound → TextObligationsAreBound
obligations_bound posed bound i n ms short knows measures =
    let s = program_of i.annotated in
    ∥∥₁_map (posed i n ms short knows measures) (bound (basis_in s ms n) (unknowns_in s ms n) (points_in s n) (read_of n (normal_in s)))

pub implications_bound : TextsArePosed → ImplicationsAreBound → ObligationsAreImplications → TextImplicationsAreBound
implications_bound posed bound are i n ms short knows measures =
    let s = program_of i.annotated in
    let P = basis_in s ms n in
    let p = read_of n (normal_in s) in
    (are P [] p, ∥∥₁_map (posed i n ms short knows measures) (λ h. (bound P (unknowns_in s ms n) (points_in s n) p h).1))

pub implications_sorted : Laws → NotedTextsAreTyped → NormalFormsArePosed → NormalFormsAreSorted → TextMeasuresAreSorted → ImplicationsAreSorted → TextImplicationsAreSorted
implications_sorted L typed posed sorted equations laws i n ms short knows measures =
    let s = program_of i.annotated in
    let P = basis_in s ms n in
    let D = datatypes_of s.datatypes ms in
    ∥∥₁_map (typed i n short.of_text knows) (λ r.
    let t = scalar_text L i n short ms knows measures r.normal in
    let others = λ (c : ℕ) (none : P.setting.constructors c ≡ None). ap (equations_at ms (place_in s.datatypes) c) none in
    let is_posed = posed D n r.by (normal_in s) r.same r.normal r.obeys r.uses t.scalar t.equations others t.ready t.differ t.twins t.before in
    let well = equations P s.datatypes ms (is_over s ms n) measures in
    let is_sorted = sorted D n r.by (normal_in s) r.same r.normal r.obeys r.uses t.scalar t.equations others t.ready t.differ t.twins t.before well in
    (laws P (unknowns_in s ms n) (points_in s n) (read_of n (normal_in s)) is_posed (kinds_by r.by) is_sorted).1)

pub names_differ : NotedTextsAreReady → ShortTextsHaveTwins → EnvironmentsDiffer → TextEnvironmentsDiffer
names_differ ready twins differ i n ms short knows =
    let s = program_of i.annotated in
    let is_ready = ready i n (datatypes_of s.datatypes ms) short.of_text refl knows in
    differ (basis_in s ms n) (read_of n (normal_in s)) is_ready (twins i n short knows)
