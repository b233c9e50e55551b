-- Unknowns that are alike and follow one another.
use Rattle.std.specs.Prelude.{List, replicate}
use Rattle.std.specs.List.{flat_map}
use Rattle.lq_refined_instances.specs.Scopes.{Scope}
use Rattle.lq_refined_instances.specs.Views.{unknown_view}
use Rattle.lq_text_qualifiers.specs.Faults.Shapes.{Shape}
use Rattle.lq_refined_copies.specs.declared.groups.Group.{Group}

-- so many times this unknown, where these are the scopes
abbrev pub group_view : List Scope → Group → List (Scope × Shape)
group_view Γs g = replicate g.times (unknown_view Γs g.unknown)

abbrev pub groups_view : List Scope → List Group → List (Scope × Shape)
groups_view Γs gs = flat_map (group_view Γs) gs
