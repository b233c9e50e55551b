-- The templates of a program's points speak of names in scope.
use Rattle.std.specs.Prelude.{◌≡◌, ℕ, List, []}
use Rattle.lq_text_tree.specs.Items.{ItemTree}
use Rattle.lq_meaning_normal_form.specs.Types.Programs.{NormalItemsAre}
use Rattle.lq_refined_templates.specs.Points.Annotation.{Annotation}
use Rattle.lq_refined_templates.specs.Points.Point.{Point}
use Rattle.lq_refined_templates.specs.Points.Reading.{program_of}
use Rattle.lq_refined_templates.specs.Points.Templates.{Datatypes, basis_of, unknowns_of}
use Rattle.lq_sound_readiness.specs.Reading.Laws.{types_of}
use Rattle.lq_sound_readiness.specs.Reading.Normal.{AreNormal}
use Rattle.lq_sound_readiness.specs.Reading.Uses.{ItemsUsesFit}
use Rattle.lq_sound_scope.specs.Scopes.InScope.{InScope, no_names}
use Rattle.lq_refined_types.specs.Types.Refined.{Refined}
use Rattle.lq_sound_values.specs.Inhabitants.Truth.{Scene}
use Rattle.lq_sound_values.specs.Inclusion.Symbols.{Symbols}
use Rattle.lq_sound_values.specs.Runs.Closed.{IsTypeOver}
use Rattle.lq_refined_templates.specs.Templates.Scopes.{Unknown, symbols_in}
use Rattle.lq_text_tree.specs.Types.{Signature}
use Rattle.lq_sound_scope.specs.Scopes.Over.{AreSorted, TypeOver, of_any_sort, unknown_in}

-- what is read of a program in normal form that obeys the rules of types for normal trees, and whose uses fit, is in scope over its points
abbrev pub TemplatesAreInScope : Type 0
TemplatesAreInScope =
    (D : Datatypes) (n : Annotation) (is : List ItemTree) → AreNormal is → NormalItemsAre D.constructors (types_of n) [] is → ItemsUsesFit n [] is
    → let p = program_of n is in InScope (basis_of D p.points) (unknown_in (unknowns_of D p.points)) no_names p.read

-- the scopes of a basis are those of the unknowns of its points
abbrev pub ScopesAreOfUnknowns : Type 0
ScopesAreOfUnknowns =
    (D : Datatypes) (ps : List Point) (u : ℕ) → (basis_of D ps).setting.scopes u ≡ symbols_in (unknown_in (unknowns_of D ps) u).0

-- Where the instances of unknowns speak of what these may speak of, at its sorts, a type that is over names, whatever is assigned to its unknowns,
-- is over them under the assignment.
abbrev pub TypesAreOver : Type 0
TypesAreOver =
    (constructors : Signature) (unknowns : ℕ → Unknown) (S : Scene) → AreSorted unknowns S.assignment → (N : Symbols) (t : Refined)
    → TypeOver constructors unknowns (of_any_sort N) t → IsTypeOver S N t
