-- What the lines are made of, as it stands in memory.
use Rattle.std.specs.Prelude.{ℕ, ◌<◌, List, [], All, map, Option, Some, None}
use Rattle.std.specs.declared.alloc.Global.{Global}
use Rattle.std.specs.declared.vec.Vec.{Vec}
use Rattle.lq_refined_types.specs.Parts.Assignment.{Assignment}
use Rattle.lq_refined_types.specs.Parts.Part.{Scopes}
use Rattle.lq_refined_templates.specs.Points.Templates.{templates_at}
use Rattle.lq_refined_types.specs.Types.Refined.{Refined, Refineds, unit_type}
use Rattle.lq_refined_subtyping.specs.Table.Forms.{at, each}
use Rattle.lq_refined_subtyping.specs.Table.Whole.{count_of, types_of}
use Rattle.lq_refined_subtyping.specs.declared.table.table.RefinedTypes.{RefinedTypes}
use Rattle.lq_refined_types.specs.Subtyping.Splitting.{first_of}
use Rattle.lq_base_names.specs.declared.name.Binder.{Binder}
use Rattle.lq_base_names.specs.declared.name.Name.{Name}
use Rattle.lq_logic_text.specs.Calling.{name_text}
use Rattle.lq_top_answers.specs.TypeText.Types.{Writing, type_line}
use Rattle.lq_top_answers.specs.TypeText.Views.{writing_view}
use Rattle.lq_top_answers.specs.Assignment.Views.{assignment_view}
use Rattle.lq_refined_substitution.specs.Substitution.Views.{scopes_view}
use Rattle.lq_top_answers.specs.Inferred.Lines.{Inferred, definition_line}
use Rattle.lq_top_answers.specs.declared.inferred.lines.Solution.{Solution}

-- the types of each point, by their numbers in a list
abbrev pub rows_of : List Refined → List (Vec ℕ Global) → List Refineds
rows_of types rows = map (λ row. each types row.items) rows

-- the template of a point is the first of its types
abbrev pub template_of : List Refined → List (Vec ℕ Global) → ℕ → Refined
template_of types rows k = first_of (templates_at (rows_of types rows) k)

abbrev pub template_in : Scopes → RefinedTypes → List (Vec ℕ Global) → ℕ → Refined
template_in scopes types rows = template_of (types_of scopes types) rows

abbrev pub AreBelow : ℕ → List (Vec ℕ Global) → Type 0
AreBelow n rows = All (λ row. All (λ r. r < n) row.items) rows

-- each number is one of the table
abbrev pub AreThere : RefinedTypes → List (Vec ℕ Global) → Type 0
AreThere types rows = AreBelow (count_of types) rows

-- the type of a number, and unit of none
abbrev pub at_or_unit : List Refined → Option ℕ → Refined
at_or_unit types None = unit_type
at_or_unit types (Some r) = at types r

-- these templates under this assignment, written so
abbrev pub inferred_in : Scopes → RefinedTypes → List (Vec ℕ Global) → Assignment → Writing → Inferred
inferred_in scopes types rows A w = record { template = template_in scopes types rows; assignment = A; writing = w }

abbrev pub solution_view : RefinedTypes → Solution → Inferred
solution_view types s = inferred_in (scopes_view s.scopes.now) types s.templates.now (assignment_view s.assignment.now) (writing_view s.writing.now)

-- the line on a name of a text
abbrev pub plain_line : Inferred → Refined → Option Name → List ℕ
plain_line i t None = []
plain_line i t (Some x) = type_line i.writing (name_text i.writing.calling.names x.0) t

-- the line on a definition with this name and this point, and none of what is run
abbrev pub line_of : Inferred → Option (Binder × ℕ) → List ℕ
line_of i None = []
line_of i (Some d) = definition_line i d.0.0 d.1
