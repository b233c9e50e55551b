-- Scalar programs are plain.
use Rattle.std.specs.Prelude.{◌≡◌, ℕ, List, []}
use Rattle.lq_text_tree.specs.Items.{ItemTree}
use Rattle.lq_refined_types.specs.Parts.Assignment.{Assignment}
use Rattle.lq_refined_rules.specs.Checks.Basis.{Basis}
use Rattle.lq_refined_rules.specs.Checks.Binders.{AllDiffer, binders}
use Rattle.lq_refined_rules.specs.Checks.Ready.{IsReady}
use Rattle.lq_refined_rules.specs.Checks.Tree.{Program}
use Rattle.lq_refined_rules.specs.Checks.Typing.{Points, AreTemplates, HasProgram}
use Rattle.lq_refined_templates.specs.Points.Annotation.{Annotation}
use Rattle.lq_refined_templates.specs.Points.Reading.{program_of}
use Rattle.lq_refined_templates.specs.Points.Templates.{Datatypes, basis_of, unknowns_of}
use Rattle.lq_sound_values.specs.Inhabitants.Truth.{Objects}
use Rattle.lq_sound_readiness.specs.Reading.Laws.{types_of}
use Rattle.lq_sound_readiness.specs.Reading.Normal.{AreNormal}
use Rattle.lq_sound_readiness.specs.Reading.Uses.{ItemsUsesFit}
use Rattle.lq_sound_scope.specs.Scopes.InScope.{InScope, no_names}
use Rattle.lq_sound_scope.specs.Scopes.Over.{AreSorted, unknown_in}
use Rattle.lq_meaning_normal_form.specs.Types.Programs.{NormalItemsAre}
use Rattle.lq_refined_templates.specs.Templates.Scopes.{Unknown, symbols_in}
use Rattle.lq_sound_programs.specs.Safety.Programs.{no_symbols}
use Rattle.lq_sound_programs.specs.Plain.Plain.{IsPlainProgram}
use Rattle.lq_sound_scope.specs.Scalars.Data.{HasDatatypes}
use Rattle.lq_sound_scope.specs.Scalars.Scalar.{HaveTwins, IsScalarProgram}
use Rattle.lq_sound_scope.specs.Scalars.Uses.{ProgramUsesBefore}
use Rattle.lq_sound_scope.specs.Scalars.Written.{AreDefinitionsNameless, IsWritten}

-- The templates of a scalar program's points name arguments of functions that are written there alone, and its forms are scalar as they are read.
abbrev pub TemplatesAreWritten : Type 0
TemplatesAreWritten =
    (D : Datatypes) (n : Annotation) (is : List ItemTree) → AreNormal is → IsScalarProgram n is
    → let p = program_of n is in IsWritten (basis_of D p.points) p.read

-- The template of a definition that has one of its own names no argument.
abbrev pub DefinitionsAreNameless : Type 0
DefinitionsAreNameless =
    (D : Datatypes) (n : Annotation) (is : List ItemTree) → AreNormal is
    → let p = program_of n is in AreDefinitionsNameless (basis_of D p.points) p.read

-- Where its forms are scalar and its templates written so, a simply typed program that is ready and in scope, with binders that differ and have
-- twins, is plain, under instances that speak of what their unknowns may speak of, at its sorts, and over objects that know its measures, where only
-- names that earlier items defined are used at types for their types' variables.
abbrev pub ScalarProgramsArePlain : Type 0
ScalarProgramsArePlain =
    (P : Basis) (unknowns : ℕ → Unknown) (A : Assignment) (O : Objects) → AreSorted unknowns A
    → ((u : ℕ) → P.setting.scopes u ≡ symbols_in (unknowns u).0) → HasDatatypes P O → (Q : Points) → AreTemplates P Q → (p : Program)
    → HasProgram P Q [] p → IsReady P [] p → InScope P unknowns no_names p → AllDiffer (binders p) → HaveTwins (binders p) → IsWritten P p
    → ProgramUsesBefore no_symbols p → IsPlainProgram P A O no_symbols [] p

-- So is what is read of a scalar program in normal form, over its points, where it obeys the rules of types for normal trees and its uses fit by
-- an annotation by which the same is read, where it is ready, its binders differ and have twins, and only names that earlier items defined are used
-- at types for variables.
abbrev pub ScalarNormalFormsArePlain : Type 0
ScalarNormalFormsArePlain =
    (D : Datatypes) (n by : Annotation) (is : List ItemTree) (A : Assignment) (O : Objects)
    → let p = program_of n is in program_of by is ≡ p → AreNormal is → NormalItemsAre D.constructors (types_of by) [] is → ItemsUsesFit by [] is
    → IsScalarProgram n is → HasDatatypes (basis_of D p.points) O → AreSorted (unknown_in (unknowns_of D p.points)) A
    → IsReady (basis_of D p.points) [] p.read → AllDiffer (binders p.read) → HaveTwins (binders p.read)
    → ProgramUsesBefore no_symbols p.read → IsPlainProgram (basis_of D p.points) A O no_symbols [] p.read
