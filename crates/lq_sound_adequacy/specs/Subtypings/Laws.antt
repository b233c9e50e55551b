-- What programs are asked for speaks of bound names.
use Rattle.std.specs.Prelude.{◌≡◌, ℕ, List, [], None, All}
use Rattle.lq_text_tree.specs.Items.{ItemTree}
use Rattle.lq_meaning_normal_form.specs.Types.Programs.{NormalItemsAre}
use Rattle.lq_refined_templates.specs.Points.Annotation.{Annotation}
use Rattle.lq_refined_templates.specs.Points.Reading.{program_of}
use Rattle.lq_refined_templates.specs.Points.Templates.{Datatypes, basis_of, points_of, unknowns_of}
use Rattle.lq_sound_readiness.specs.Reading.Laws.{types_of}
use Rattle.lq_sound_readiness.specs.Reading.Normal.{AreNormal}
use Rattle.lq_sound_readiness.specs.Reading.Uses.{ItemsUsesFit}
use Rattle.lq_refined_templates.specs.Templates.Scopes.{Unknown, symbols_in}
use Rattle.lq_refined_rules.specs.Checks.Basis.{Basis}
use Rattle.lq_refined_rules.specs.Checks.Binders.{AllDiffer, binders}
use Rattle.lq_refined_rules.specs.Checks.Listing.{implications_of}
use Rattle.lq_refined_rules.specs.Checks.Ready.{IsReady}
use Rattle.lq_refined_rules.specs.Checks.Tree.{Program}
use Rattle.lq_refined_rules.specs.Checks.Typing.{Points, AreTemplates, HasProgram}
use Rattle.lq_refined_rules.specs.Obligations.Obligation.{Obligation, all_implications}
use Rattle.lq_refined_rules.specs.Obligations.Obligations.{obligations_of}
use Rattle.lq_sound_scope.specs.Scopes.InScope.{InScope, no_names}
use Rattle.lq_sound_scope.specs.Scopes.Over.{unknown_in}
use Rattle.lq_sound_programs.specs.Safety.Programs.{no_symbols}
use Rattle.lq_sound_scope.specs.Scalars.Data.{AreEquationsSorted}
use Rattle.lq_sound_scope.specs.Scalars.Scalar.{HaveTwins, IsScalarProgram}
use Rattle.lq_sound_scope.specs.Scalars.Uses.{ProgramUsesBefore}
use Rattle.lq_sound_scope.specs.Scalars.Written.{AreDefinitionsNameless, IsWritten}
use Rattle.lq_sound_adequacy.specs.Subtypings.Bound.{AreBound, IsBoundObligation, NamesDiffer}

-- A program that is simply typed, ready and in scope, as its templates are written. Its binders differ and have twins, uses at types are of
-- earlier definitions, and equations of measures speak of v and of fields, and are of constructors alone. The scopes are those of the unknowns.
pub record IsPosed (P : Basis) (unknowns : ℕ → Unknown) (Q : Points) (p : Program) : Type 0 where
  pub scopes : (u : ℕ) → P.setting.scopes u ≡ symbols_in (unknowns u).0
  pub equations : AreEquationsSorted P
  pub others : (c : ℕ) → P.setting.constructors c ≡ None → P.equations c ≡ []
  pub templates : AreTemplates P Q
  pub typed : HasProgram P Q [] p
  pub ready : IsReady P [] p
  pub scoped : InScope P unknowns no_names p
  pub differ : AllDiffer (binders p)
  pub twins : HaveTwins (binders p)
  pub written : IsWritten P p
  pub nameless : AreDefinitionsNameless P p
  pub before : ProgramUsesBefore no_symbols p

-- Each of its obligations is in an environment over its own names, and what is asked there speaks of these.
abbrev pub ObligationsAreBound : Type 0
ObligationsAreBound =
    (P : Basis) (unknowns : ℕ → Unknown) (Q : Points) (p : Program) → IsPosed P unknowns Q p
    → All (IsBoundObligation P unknowns) (obligations_of P [] p)

-- So its implications are those of its obligations, and each speaks of names that its environment binds, and of v at one sort.
abbrev pub ImplicationsAreBound : Type 0
ImplicationsAreBound =
    (P : Basis) (unknowns : ℕ → Unknown) (Q : Points) (p : Program) → IsPosed P unknowns Q p
    → let os = obligations_of P [] p in (implications_of P [] p ≡ all_implications P os) × All (AreBound P unknowns) os

-- In the environment of each obligation of a program that is ready, and whose binders have twins, no two names are one, and none is a twin.
abbrev pub EnvironmentsDiffer : Type 0
EnvironmentsDiffer =
    (P : Basis) (p : Program) → IsReady P [] p → HaveTwins (binders p) → All (λ (o : Obligation). NamesDiffer o.context) (obligations_of P [] p)

-- What is read of a scalar program in normal form, over its points, is so, where it obeys the rules of types for normal trees and its uses fit by an
-- annotation by which the same is read, it is ready, its binders differ and have twins, uses at types are of earlier definitions, and equations of
-- measures speak of v and of fields, and are of constructors alone.
abbrev pub NormalFormsArePosed : Type 0
NormalFormsArePosed =
    (D : Datatypes) (n by : Annotation) (is : List ItemTree)
    → let p = program_of n is in
    let P = basis_of D p.points in
    program_of by is ≡ p → AreNormal is → NormalItemsAre D.constructors (types_of by) [] is → ItemsUsesFit by [] is → IsScalarProgram n is
    → AreEquationsSorted P → ((c : ℕ) → P.setting.constructors c ≡ None → P.equations c ≡ []) → IsReady P [] p.read → AllDiffer (binders p.read)
    → HaveTwins (binders p.read) → ProgramUsesBefore no_symbols p.read
    → IsPosed P (unknown_in (unknowns_of D p.points)) (points_of p.points) p.read
