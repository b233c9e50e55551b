use Rattle.std.proofs.Common.{◌≡◌, map, take}
use Rattle.lq_text_qualifiers.specs.Faults.Shapes.{shape_of}
use Rattle.lq_types_table.specs.Nodes as types
use Rattle.lq_types_table.specs.Whole.{types_of}
use Rattle.lq_generate_fresh.specs.Fresh.Views.{shape_if}
use Rattle.lq_generate_fresh.proofs.fresh.simple.shapes_at.Given as goal

abbrev pub invariant-loop-at : goal.invariant-loop-at
invariant-loop-at l =
    map shape_if l.made.items ≡ map (λ p. shape_of (types.at (types_of l.types) p)) (take l.at-index l.parts)
