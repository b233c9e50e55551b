use Rattle.std.proofs.Common.{◌≡◌, map, take}
use Rattle.std.specs.List.{flat_map}
use Rattle.lq_logic_predicates.specs.PredView.{formula_of, pred_items}
use Rattle.lq_logic_predicates.specs.TermView.{sum_of, term_items}
use Rattle.lq_text_qualifiers.specs.Sorting.Views.{measure_view}
use Rattle.lq_refined_measures.specs.Equations.Facts.{equation_at, measures_of}
use Rattle.lq_refined_measures.specs.Equations.Views.{name_of}
use Rattle.lq_refined_measures.proofs.equations.facts.measure_facts.Given as goal

abbrev pub invariant-loop-measure : goal.invariant-loop-measure
invariant-loop-measure l =
    map formula_of (pred_items l.facts)
    ≡ flat_map (equation_at (map name_of l.measures) (map sum_of (term_items l.fields)) (sum_of l.value) l.constructor)
    (measures_of (map measure_view (take l.measure-index l.measures)) l.datatype.0)
