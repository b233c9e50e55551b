use Rattle.std.proofs.Common.{map, ap, ◌∙◌}
use Rattle.std.proofs.lemmas.List.{take_all}
use Rattle.lq_text_tree.specs.MeasureTrees.{definitions_view}
use Rattle.lq_text_tree.specs.MeasureTrees.{measure_view as parsed_view}
use Rattle.lq_text_qualifiers.specs.Sorting.Making.{measure_made}
use Rattle.lq_text_qualifiers.specs.Sorting.Views.{measure_view, measured_view, seen}
use Rattle.lq_text_qualifiers.proofs.SortingLemmas.Rows.{two_more}
use Rattle.lq_text_qualifiers.proofs.sorting.measures.measures_made.Goals as goal

pub loop-definition-preserved : goal.loop-definition-preserved
loop-definition-preserved c = λ ds is.
    ap (map measure_view) c.in_ok-push.ensures.items
    ∙ two_more measure_view (measure_made ds (seen measured_view c.args.measures.now)) parsed_view c.loop-definition.made.items _ c.args.definitions.now
    c.loop-definition.definition-index _ _ c.loop-definition-test.true c.definition-item.is (c.loop-definition.invariant ds is) (c.in_ok-measure_of.ensures ds is)

pub returns : goal.returns
returns c = λ ds is.
    c.loop-definition.invariant ds is
    ∙ ap (λ l. map (measure_made ds (seen measured_view c.args.measures.now)) (definitions_view l))
    (take_all c.loop-definition.definition-index c.args.definitions.now c.loop-definition-test.false)
