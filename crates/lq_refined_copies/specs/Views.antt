-- What stands in memory.
use Rattle.std.specs.Prelude.{List, map}
use Rattle.lq_refined_instances.specs.Scopes.{Scope}
use Rattle.lq_refined_instances.specs.Views.{scopes_view, unknowns_view}
use Rattle.lq_text_qualifiers.specs.Faults.Shapes.{Shape}
use Rattle.lq_refined_copies.specs.Runs.{runs_view}
use Rattle.lq_refined_copies.specs.declared.unknowns.SharedUnknowns.{SharedUnknowns}

-- the scopes of the table
abbrev pub table_of : SharedUnknowns → List Scope
table_of s = scopes_view s.scopes

-- the unknowns of each pattern, by the pattern's own table
abbrev pub patterns_of : SharedUnknowns → List (List (Scope × Shape))
patterns_of s = map unknowns_view s.patterns.items

-- the unknowns, by their numbers
abbrev pub shared_view : SharedUnknowns → List (Scope × Shape)
shared_view s = runs_view (table_of s) (patterns_of s) s.runs.items
