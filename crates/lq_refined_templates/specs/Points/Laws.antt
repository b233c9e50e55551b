-- What holds of the templates of points.
use Rattle.std.specs.Prelude.{◌≡◌, ℕ, List, [], ◌∷◌, ◌++◌, length}
use Rattle.lq_refined_rules.specs.Checks.Typing.{AreTemplates}
use Rattle.lq_refined_types.specs.Types.Refined.{Refineds}
use Rattle.lq_refined_templates.specs.Templates.Laws.{numbers_from, types_unknowns}
use Rattle.lq_refined_templates.specs.Points.Point.{Point}
use Rattle.lq_refined_templates.specs.Points.Templates.{Datatypes, basis_of, points_of, templates_from, unknowns_of}

-- the templates have the simple types of their points
abbrev pub TemplatesAreOfPoints : Type 0
TemplatesAreOfPoints = (D : Datatypes) (ps : List Point) → AreTemplates (basis_of D ps) (points_of ps)

-- the numbers of the unknowns of templates, in the order in which they stand
abbrev pub numbers_in : List Refineds → List ℕ
numbers_in [] = []
numbers_in (ts ∷ tss) = types_unknowns ts ++ numbers_in tss

-- over all points the unknowns have the numbers from 0 on, each once, in the order of their list
abbrev pub UnknownsAreNumbered : Type 0
UnknownsAreNumbered = (D : Datatypes) (ps : List Point) → numbers_in (templates_from D 0 ps) ≡ numbers_from 0 (length (unknowns_of D ps))
