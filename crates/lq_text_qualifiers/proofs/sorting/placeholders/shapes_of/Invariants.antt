use Rattle.std.proofs.Common.{◌≡◌, map, take}
use Rattle.lq_text_qualifiers.specs.Sorting.Placeholders.{shapes_of}
use Rattle.lq_text_qualifiers.specs.Sorting.Views.{shape_view}
use Rattle.lq_text_qualifiers.specs.Sorting.Walking.{use_view}
use Rattle.lq_text_qualifiers.proofs.sorting.placeholders.shapes_of.Given as goal

abbrev pub invariant-loop-found : goal.invariant-loop-found
invariant-loop-found l = map shape_view l.shapes.items ≡ shapes_of (map use_view (take l.found-index l.uses))
