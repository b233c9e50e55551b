use Rattle.std.specs.Prelude.{slice_get}
use Rattle.std.proofs.Common.{◌≡◌, List, None, true, false, sym, ap, subst, ◌∙◌, arith}
use Rattle.std.proofs.lemmas.Option.{slice_get_past}
use Rattle.lq_logic_rows.specs.Steps.{value_or_zero, valuation_of}
use Rattle.lq_base_numbers.specs.Rationals.LowestTerms.{IsLowest}
use Rattle.lq_base_numbers.specs.Rationals.Rational.{ℚ}
use Rattle.lq_base_numbers.specs.Fractions.Value.{value_of, numer_of, denom_of, lowest_of}
use Rattle.lq_logic_predicates.specs.Numbering.{index_of-present, index_of-absent}
use Rattle.lq_logic_predicates.specs.Sum.{Sum}
use Rattle.lq_logic_predicates.specs.Table.{has_term, index_of}
use Rattle.lq_logic_predicates.specs.TermView.{sum_of}
use Rattle.lq_logic_points.specs.Values.{numbers_of, table_of, point_of_values}
use Rattle.lq_top_answers.proofs.failure.point_lines.number_at.Goals as goal

pub number-requires : goal.number-requires
number-requires c =
    let t = sum_of c.args.term.now in
    let has : has_term (table_of c.args.values.now) t ≡ true = ap (λ (l : List Sum). has_term l t) (sym c.table.ensures.table) ∙ sym c.in-Some.ensures.whether in
    let lt = index_of-present (table_of c.args.values.now) t has in
    let e = c.in-Some.ensures.number ∙ ap (λ (l : List Sum). index_of l t) c.table.ensures.table in
    omega (arith, e, lt)

pub returns-in-Some : goal.returns-in-Some
returns-in-Some c =
    let v = c.args.values.now in
    let t = sum_of c.args.term.now in
    let f = c.number.result in
    let place = c.in-Some.ensures.number ∙ ap (λ (l : List Sum). index_of l t) c.table.ensures.table in
    let value : value_of f ≡ (point_of_values v).number t = ap value_or_zero (sym c.number.ensures) ∙ ap (valuation_of (numbers_of v)) place in
    subst (λ (q : ℚ). IsLowest q (numer_of f) (denom_of f)) value (lowest_of f)

pub returns-in-None : goal.returns-in-None
returns-in-None c =
    let v = c.args.values.now in
    let t = sum_of c.args.term.now in
    let f = c.whole.result in
    let hasnt : has_term (table_of v) t ≡ false = ap (λ (l : List Sum). has_term l t) (sym c.table.ensures.table) ∙ sym c.in-None.ensures.whether in
    let past = index_of-absent (table_of v) t hasnt in
    let none : slice_get (numbers_of v) (index_of (table_of v) t) ≡ None = slice_get_past (numbers_of v) (index_of (table_of v) t) (let one = c.table.ensures.one_each in omega (arith, one, past)) in
    let value : value_of f ≡ (point_of_values v).number t = c.whole.ensures.value ∙ sym (ap value_or_zero none) in
    subst (λ (q : ℚ). IsLowest q (numer_of f) (denom_of f)) value (lowest_of f)
