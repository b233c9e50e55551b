use Rattle.std.proofs.Common.{◌∙◌, map, ap}
use Rattle.std.proofs.lemmas.List.{take_all}
use Rattle.lq_text_qualifiers.specs.Faults.Shapes.{shape_of}
use Rattle.lq_types_table.specs.Nodes as types
use Rattle.lq_types_table.specs.Whole.{types_of}
use Rattle.lq_generate_fresh.proofs.FreshLemmas.Rows.{shapes_each}
use Rattle.lq_generate_fresh.proofs.fresh.simple.shapes_at.Goals as goal

pub returns : goal.returns
returns c =
    let F = types.at (types_of c.args.types.now) in
    let parts = c.args.parts.now in
    c.loop-at.invariant ∙ (ap (map (λ p. shape_of (F p))) (take_all c.loop-at.at-index parts c.loop-at-test.false) ∙ shapes_each F parts)
