use Rattle.std.proofs.Common.{◌<◌, ◌∙◌, length, ap, sym, subst, rules}
use Rattle.lq_logic_rows.specs.Steps.{valuation_of}
use Rattle.lq_logic_predicates.specs.TableView.{terms_of}
use Rattle.lq_logic_predicates.specs.TermView.{sum_of}
use Rattle.lq_logic_predicates.specs.Numbering.{index_of-present}
use Rattle.lq_logic_points.proofs.Numbers.{value_there, absent_zero, not_some}
use Rattle.lq_logic_points.proofs.agreeing.number_of.Goals as goal

pub returns-in_default : goal.returns-in_default
returns-in_default c =
    c.whole.ensures.value
    ∙ sym (absent_zero (terms_of c.args.table.now) c.args.numbers.now (sum_of c.args.term.now) c.requires (sym c.find.ensures.whether ∙ not_some c.find.result c.in_default.not-Some))

pub bounds-numbers-at : goal.bounds-numbers-at
bounds-numbers-at c =
    subst (λ n. c.in-Some.at < n) (sym c.requires) (subst (λ k. k < length (terms_of c.args.table.now)) (sym c.in-Some.ensures.number) (index_of-present (terms_of c.args.table.now) (sum_of c.args.term.now) (sym c.in-Some.ensures.whether)))

pub offset_bounds-numbers-at : goal.offset_bounds-numbers-at
offset_bounds-numbers-at c =
    let within : c.in-Some.at < length c.args.numbers.now =
    subst (λ n. c.in-Some.at < n) (sym c.requires) (subst (λ k. k < length (terms_of c.args.table.now)) (sym c.in-Some.ensures.number) (index_of-present (terms_of c.args.table.now) (sum_of c.args.term.now) (sym c.in-Some.ensures.whether))) in
    search rules

pub returns : goal.returns
returns c =
    let within : c.in-Some.at < length c.args.numbers.now =
    subst (λ n. c.in-Some.at < n) (sym c.requires) (subst (λ k. k < length (terms_of c.args.table.now)) (sym c.in-Some.ensures.number) (index_of-present (terms_of c.args.table.now) (sum_of c.args.term.now) (sym c.in-Some.ensures.whether))) in
    sym (value_there c.args.numbers.now c.in-Some.at c.index-numbers-at.result within c.index-numbers-at.is) ∙ ap (valuation_of c.args.numbers.now) c.in-Some.ensures.number
