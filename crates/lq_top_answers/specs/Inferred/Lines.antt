-- The lines on the types of a program's definitions.
use Rattle.std.specs.Prelude.{ℕ, List, [], ◌++◌, Option, Some, None, slice_get}
use Rattle.lq_refined_rules.specs.Checks.Tree.{Operation, fun, Block, last_operation, Program, no_items, define, define_recursive, run_unit, run_any}
use Rattle.lq_refined_types.specs.Parts.Assignment.{Assignment}
use Rattle.lq_logic_text.specs.Calling.{name_text}
use Rattle.lq_refined_types.specs.Types.Operations.{under}
use Rattle.lq_refined_types.specs.Types.Refined.{Refined}
use Rattle.lq_top_answers.specs.TypeText.Types.{Writing, type_line}

-- the point of a function, and of another operation the one that is given
abbrev pub function_point : ℕ → Operation → ℕ
function_point k (fun p y b) = p
function_point k _ = k

-- A definition whose block ends in a function has the template of that one's point, another one that of its own.
abbrev pub point_of : ℕ → Block → ℕ
point_of k b = function_point k (last_operation b)

-- The templates of points, what unknowns stand for, and how types are written.
pub record Inferred : Type 0 where
  pub template : ℕ → Refined
  pub assignment : Assignment
  pub writing : Writing

-- a binder without a source name has no line
abbrev pub named_line : Inferred → Refined → Option (Option ℕ) → List ℕ
named_line i t (Some (Some x)) = type_line i.writing (name_text i.writing.calling.names x) t
named_line i t (Some None) = []
named_line i t None = []

-- the line on a definition with the template of this point
abbrev pub definition_line : Inferred → ℕ → ℕ → List ℕ
definition_line i x k = named_line i (under i.assignment (i.template k)) (slice_get i.writing.calling.sources x)

-- a line for each definition of a named value, in order; what is run has none
abbrev pub types_text_of : Inferred → Program → List ℕ
types_text_of i no_items = []
types_text_of i (define x l k b rest) = definition_line i x (point_of k b) ++ types_text_of i rest
types_text_of i (define_recursive f k y b rest) = definition_line i f k ++ types_text_of i rest
types_text_of i (run_unit b rest) = types_text_of i rest
types_text_of i (run_any b rest) = types_text_of i rest
