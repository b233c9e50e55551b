-- What a normal program means when it is read as a program of the typing rules, and that it is simply typed then.
use Rattle.std.specs.Prelude.{◌≡◌, List, []}
use Rattle.lq_text_tree.specs.Items.{ItemTree}
use Rattle.lq_text_tree.specs.TypingRules as rules
use Rattle.lq_meaning_steps.specs.Model.FromTree.{items_of}
use Rattle.lq_meaning_normal_form.specs.Types.Programs.{NormalItemsAre}
use Rattle.lq_sound_forms.specs.Pures.Cores.{items_core}
use Rattle.lq_refined_rules.specs.Checks.Typing.{HasProgram}
use Rattle.lq_refined_templates.specs.Points.Annotation.{Annotation}
use Rattle.lq_refined_templates.specs.Points.Reading.{program_of}
use Rattle.lq_refined_templates.specs.Points.Templates.{Datatypes, basis_of, points_of}
use Rattle.lq_sound_readiness.specs.Reading.Normal.{AreNormal}
use Rattle.lq_sound_readiness.specs.Reading.Uses.{ItemsUsesFit}

-- as the program that is read it runs as it does itself, whatever its annotation
abbrev pub ReadMeansTheSame : Type 0
ReadMeansTheSame = (n : Annotation) (is : List ItemTree) → AreNormal is → items_core (program_of n is).read ≡ items_of is

-- the types of nodes and of binders
abbrev pub types_of : Annotation → rules.Annotation
types_of n = record { nodes = n.types; binders = n.names }

-- where it obeys the rules of types for normal trees, and uses names in scope at their types, the program that is read is simply typed over its
-- points
abbrev pub ReadIsTyped : Type 0
ReadIsTyped =
    (D : Datatypes) (n : Annotation) (is : List ItemTree) → AreNormal is → NormalItemsAre D.constructors (types_of n) [] is → ItemsUsesFit n [] is
    → let ps = (program_of n is).points in HasProgram (basis_of D ps) (points_of ps) [] (program_of n is).read
