-- Programs that are read are sorted by the types of their names.
use Rattle.std.specs.Prelude.{◌≡◌, ℕ, Bool, true, List, [], None}
use Rattle.lq_sound_adequacy.specs.Subtypings.Laws.{IsPosed}
use Rattle.lq_refined_rules.specs.Checks.Basis.{Basis}
use Rattle.lq_refined_rules.specs.Checks.Binders.{AllDiffer, binders}
use Rattle.lq_refined_rules.specs.Checks.Ready.{IsReady}
use Rattle.lq_refined_rules.specs.Checks.Tree.{Program}
use Rattle.lq_refined_rules.specs.Checks.Typing.{Points}
use Rattle.lq_sound_scope.specs.Scopes.Over.{unknown_in}
use Rattle.lq_meaning_normal_form.specs.Types.Programs.{NormalItemsAre}
use Rattle.lq_refined_templates.specs.Points.Annotation.{Annotation}
use Rattle.lq_refined_templates.specs.Points.Reading.{program_of}
use Rattle.lq_refined_templates.specs.Points.Templates.{Datatypes, basis_of, unknowns_of}
use Rattle.lq_sound_readiness.specs.Reading.Laws.{types_of}
use Rattle.lq_sound_readiness.specs.Reading.Normal.{AreNormal}
use Rattle.lq_sound_readiness.specs.Reading.Uses.{ItemsUsesFit}
use Rattle.lq_sound_programs.specs.Safety.Programs.{no_symbols}
use Rattle.lq_sound_scope.specs.Scalars.Data.{AreEquationsSorted}
use Rattle.lq_sound_scope.specs.Scalars.Scalar.{HaveTwins, IsScalarProgram}
use Rattle.lq_sound_scope.specs.Scalars.Uses.{ProgramUsesBefore}
use Rattle.lq_sound_adequacy.specs.Obligations.Kinds.{DefinitionsFixed, NameKind, ProgramKinds}
use Rattle.lq_sound_adequacy.specs.Obligations.Laws.{IsSortedBy}
use Rattle.lq_sound_scope.specs.Sorts.Equations.{AreEquationsWellSorted}
use Rattle.lq_sound_adequacy.specs.Templates.Laws.{EachName}
use Rattle.lq_refined_templates.specs.Templates.Scopes.{Unknown}
use Rattle.lq_text_tree.specs.Items.{ItemTree}
use Rattle.lq_sound_adequacy.specs.Programs.Kinds.{kinds_by, simple_kind}

-- Where the names that a program in normal form binds have the kinds of their types in the annotation, and it obeys the rules of types for normal trees
-- and its uses fit, each is bound at a type of its kind.
abbrev pub NamesAreOfTheirKinds : Type 0
NamesAreOfTheirKinds =
    (D : Datatypes) (n : Annotation) (M : ℕ → Bool) (K : ℕ → NameKind) → ((x : ℕ) → M x ≡ true → K x ≡ simple_kind (n.names x)) → (is : List ItemTree)
    → AreNormal is → NormalItemsAre D.constructors (types_of n) [] is → ItemsUsesFit n [] is
    → let p = program_of n is in EachName M (binders p.read) → ProgramKinds (basis_of D p.points) K [] p.read

-- No definition of a program that is posed has a type variable as its type, where each name is bound at a type of its kind.
abbrev pub DefinitionsAreFixed : Type 0
DefinitionsAreFixed =
    (P : Basis) (unknowns : ℕ → Unknown) (Q : Points) (p : Program) → IsPosed P unknowns Q p → (K : ℕ → NameKind) → ProgramKinds P K [] p
    → DefinitionsFixed K p

-- What is read of a program in normal form that is posed is sorted by the annotation whose rules it obeys, where the equations of measures are well
-- sorted.
abbrev pub NormalFormsAreSorted : Type 0
NormalFormsAreSorted =
    (D : Datatypes) (n by : Annotation) (is : List ItemTree)
    → let p = program_of n is in
    let P = basis_of D p.points in
    program_of by is ≡ p → AreNormal is → NormalItemsAre D.constructors (types_of by) [] is → ItemsUsesFit by [] is → IsScalarProgram n is
    → AreEquationsSorted P → ((c : ℕ) → P.setting.constructors c ≡ None → P.equations c ≡ []) → IsReady P [] p.read → AllDiffer (binders p.read)
    → HaveTwins (binders p.read) → ProgramUsesBefore no_symbols p.read → AreEquationsWellSorted P
    → IsSortedBy P (unknown_in (unknowns_of D p.points)) (kinds_by by) p.read
