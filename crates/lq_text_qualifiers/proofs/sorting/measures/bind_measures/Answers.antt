use Rattle.std.proofs.Common.{map, ap, ◌∙◌}
use Rattle.lq_text_walk.specs.Scoped.Views.{data_view}
use Rattle.lq_text_tree.specs.MeasureTrees.{definitions_view}
use Rattle.lq_text_tree.specs.Texts.{measures_view}
use Rattle.lq_text_qualifiers.specs.Faults.Equations.{measures_in}
use Rattle.lq_text_qualifiers.specs.Sorting.Making.{measure_made}
use Rattle.lq_text_qualifiers.proofs.sorting.measures.bind_measures.Goals as goal

pub returns : goal.returns
returns c =
    let ds = map data_view c.args.datatypes.now in
    c.in_ok-made.ensures ds c.in_ok-constructors.ensures
    ∙ ap (λ k. map (measure_made ds k) (definitions_view c.measures-2.result.now)) (c.in_ok-known.ensures ∙ ap measures_in c.measures.ensures.measures)
    ∙ ap (map (measure_made ds (measures_in (measures_view c.args.measures.now)))) c.measures-2.ensures.measures
