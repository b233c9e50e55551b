use Rattle.std.proofs.Common.{◌∙◌, ◌++◌, ◌==◌, [], cond, map, ap, sym}
use Rattle.std.proofs.lemmas.List.{take_all}
use Rattle.lq_generate_operations.specs.Basis.Basis.{items_at}
use Rattle.lq_refined_measures.specs.Equations.Facts.{equations}
use Rattle.lq_logic_predicates.specs.PredView.{formula_of}
use Rattle.lq_logic_predicates.specs.Sum.{var}
use Rattle.lq_logic_predicates.specs.declared.symbol.Symbol.TheVariants.{Value}
use Rattle.lq_text_qualifiers.specs.Sorting.Views.{measure_view}
use Rattle.lq_generate_datatypes.proofs.Conds.{cond-none, one-more}
use Rattle.lq_generate_datatypes.proofs.building.add_equations.Goals as goal

pub loop-fact-init : goal.loop-fact-init
loop-fact-init c = λ n. sym (cond-none (c.args.name.0 == n) (map formula_of (items_at c.args.equations.now.items n)))

pub loop-fact-preserved : goal.loop-fact-preserved
loop-fact-preserved c = λ n.
    one-more formula_of (c.args.name.0 == n) (items_at c.args.equations.now.items n) (items_at c.loop-fact.equations.items n)
    (items_at c.push_at.new.rows.items n) c.as_slice-fact-items.result.now c.loop-fact.fact-index c.in_ok-copy.field-0 c.fact-item.result
    (c.in_ok-push_at.ensures n) c.in_ok-copy.ensures c.fact-item.is c.loop-fact-test.true (c.loop-fact.invariant n)

pub returns : goal.returns
returns c = λ n.
    let facts = c.as_slice-fact-items.result.now in
    c.loop-fact.invariant n
    ∙ ap (λ l. map formula_of (items_at c.args.equations.now.items n) ++ cond (c.args.name.0 == n) l [])
    (ap (map formula_of) (take_all c.loop-fact.fact-index facts c.loop-fact-test.false ∙ c.as_slice-fact-items.ensures)
    ∙ c.in_ok-facts.ensures.made ∙ ap (λ ts. equations (map measure_view c.args.measures.now) c.args.datatype.0 c.args.place ts (var Value)) c.in_ok-terms.ensures)
