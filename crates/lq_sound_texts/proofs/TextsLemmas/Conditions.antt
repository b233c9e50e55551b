-- What is read of a typed text is as laws of scalar programs ask.
use Rattle.std.proofs.Common.{List, [], length, refl, sym, subst}
use Rattle.lq_types_infer.specs.Annotation.Whole.{program_of}
use Rattle.lq_refined_rules.specs.Checks.Binders.{AllDiffer, binders}
use Rattle.lq_refined_rules.specs.Checks.Ready.{IsReady}
use Rattle.lq_sound_scope.specs.NameCounts.Laws.{ShortTextsHaveTwins}
use Rattle.lq_sound_scope.specs.NameCounts.Short.{IsOfShortText}
use Rattle.lq_sound_scope.specs.GeneralUses.Laws.{NotedTextsUseBefore}
use Rattle.lq_types_infer.specs.declared.instantiation.instantiated.Instantiated.{Instantiated}
use Rattle.lq_sound_readiness.specs.NormalTexts.Laws.{ParsedProgramsAreWritten}
use Rattle.lq_meaning_normal_form.specs.Types.Laws.{ScopedProgramsArePlain}
use Rattle.lq_meaning_normal_form.specs.Types.Written.{ItemsAreWritten}
use Rattle.lq_meaning_normalize.specs.Normalize.Laws.{ProgramsAreOnePass}
use Rattle.lq_generate_reading.specs.Notes.Known.{Knows}
use Rattle.lq_refined_templates.specs.Points.Annotation.{Annotation}
use Rattle.lq_refined_templates.specs.Points.Reading as reading
use Rattle.lq_generate_problem.specs.Posed.{datatypes_of, read_of}
use Rattle.lq_sound_readiness.specs.Reading.Normal.{AreNormal}
use Rattle.lq_sound_readiness.specs.Binders.Laws.{BindersOfNormalFormsDiffer}
use Rattle.lq_sound_programs.specs.Safety.Programs.{no_symbols}
use Rattle.lq_sound_programs.specs.Safety.Scoped.{ListsConstructors}
use Rattle.lq_sound_scope.specs.Scalars.Data.{AreEquationsSorted}
use Rattle.lq_sound_scope.specs.Scalars.Scalar.{HaveTwins, IsScalarProgram}
use Rattle.lq_sound_scope.specs.Scalars.Uses.{ProgramUsesBefore}
use Rattle.lq_text_walk.specs.Scoped.Scoping.{Scoping}
use Rattle.lq_sound_scope.specs.Values.Laws.{TypedTextsAreSettled, TypedTextsHaveArms}
use Rattle.lq_text_qualifiers.specs.Sorting.Sorted.{Measure}
use Rattle.lq_sound_texts.specs.Measures.Laws.{AreMeasuresOf, IsOver, TextMeasuresFit}
use Rattle.lq_sound_readiness.specs.TextPrograms.Laws.{IsOfText, NotedTextsAreReady}
use Rattle.lq_sound_texts.specs.TypedTexts.Safety.{basis_in, normal_in}
use Rattle.lq_text_tree.specs.Items.{ItemTree}
use Rattle.lq_sound_texts.proofs.TextsLemmas.Formed.{formed}

pub record Laws : Type 1 where
  pub ready : NotedTextsAreReady
  pub parsed : ParsedProgramsAreWritten
  pub plain : ScopedProgramsArePlain
  pub differ : BindersOfNormalFormsDiffer
  pub one_pass : ProgramsAreOnePass
  pub twins : ShortTextsHaveTwins
  pub settled : TypedTextsAreSettled
  pub arms : TypedTextsHaveArms
  pub before : NotedTextsUseBefore
  pub fit : TextMeasuresFit

-- a program whose normal form is scalar and ready, over its datatypes, and which binds and uses names as it has to
pub record IsScalarText (s : Scoping) (n : Annotation) (ms : List Measure) : Type 0 where
  pub scalar : IsScalarProgram n (normal_in s)
  pub equations : AreEquationsSorted (basis_in s ms n)
  pub listed : ListsConstructors (basis_in s ms n)
  pub ready : IsReady (basis_in s ms n) [] (read_of n (normal_in s))
  pub differ : AllDiffer (binders (read_of n (normal_in s)))
  pub twins : HaveTwins (binders (read_of n (normal_in s)))
  pub before : ProgramUsesBefore no_symbols (read_of n (normal_in s))

-- a program's basis is over its datatypes and the measures
pub is_over : (s : Scoping) (ms : List Measure) (n : Annotation) → IsOver (basis_in s ms n) s.datatypes ms
is_over s ms n = record { constructors = λ c. refl; ordered = λ d. refl; equations = λ c. refl }

module _ (L : Laws) (i : Instantiated) (n : Annotation) (short : IsOfShortText (program_of i.annotated)) where
  abbrev s : Scoping
  s = program_of i.annotated

  abbrev t : IsOfText s
  t = short.of_text

  abbrev is : List ItemTree
  is = normal_in s

  items_written : ItemsAreWritten s.items
  items_written = subst (λ (r : Scoping). ItemsAreWritten r.items) (sym t.bound) (L.parsed t.text t.names t.tokens t.trees t.read t.known)

  binders_differ : AreNormal is → AllDiffer (binders (read_of n is))
  binders_differ normal =
      let k = length s.sources in
      let one = L.one_pass k s.items in
      let scoped = i.annotated.program.scoped in
      subst (λ js. AllDiffer (binders (reading.program_of n js).read)) (sym one)
      (L.differ s scoped (L.plain s scoped items_written) (subst AreNormal one normal) n)

  pub scalar_text : (ms : List Measure) → Knows i n → AreMeasuresOf s.datatypes ms → AreNormal is → IsScalarText s n ms
  scalar_text ms knows measures normal =
      let fit = L.fit (basis_in s ms n) s.datatypes ms (is_over s ms n) measures in
      record {
        scalar = formed n is normal (L.arms i n t knows) (L.settled i n t knows);
        equations = fit.1;
        listed = fit.2;
        ready = L.ready i n (datatypes_of s.datatypes ms) t refl knows;
        differ = binders_differ normal;
        twins = L.twins i n short knows;
        before = L.before i n t knows;
      }
