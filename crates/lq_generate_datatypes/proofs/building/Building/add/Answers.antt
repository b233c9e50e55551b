use Rattle.std.proofs.Common.{◌∙◌, ◌==◌, ◌++◌, [], cond, map, length, ap}
use Rattle.lq_generate_operations.specs.Basis.Basis.{items_at}
use Rattle.lq_refined_measures.specs.Equations.Facts.{equations}
use Rattle.lq_logic_predicates.specs.PredView.{formula_of}
use Rattle.lq_logic_predicates.specs.Sum.{var}
use Rattle.lq_logic_predicates.specs.declared.symbol.Symbol.TheVariants.{Value}
use Rattle.lq_sound_programs.specs.Scenes.Scenes.{positions_from}
use Rattle.lq_text_qualifiers.specs.Sorting.Views.{measure_view}
use Rattle.lq_generate_datatypes.proofs.Holding.{holds-more}
use Rattle.lq_generate_datatypes.proofs.building.Building.add.Goals as goal

pub returns : goal.returns
returns c = λ all ks k q p low h.
    holds-more (map measure_view c.args.measures.now) all c.args.self.now _ ks c.args.datatype c.args.name k c.args.rows.now
    c.in_ok-push_at.ensures
    (λ n. c.in_ok-add_equations.ensures n
    ∙ ap (λ l. map formula_of (items_at c.args.self.now.equations.items n) ++ cond (c.args.name.0 == n) (equations (map measure_view c.args.measures.now) c.args.datatype.0
    (length l) (positions_from 0 (length c.args.rows.now)) (var Value)) [])
    (c.row_at-place.ensures ∙ ap (λ r. items_at r c.args.datatype.0) c.deref.ensures.value))
    c.in_ok-add_fields.ensures q p low h
