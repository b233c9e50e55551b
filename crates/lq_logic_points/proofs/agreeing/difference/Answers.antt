use Rattle.std.proofs.Common.{◌∙◌, ◌<◌, All, false, unwrap_or, sym, subst}
use Rattle.lq_base_numbers.specs.Rationals.RationalRing.{+ℚ_zero}
use Rattle.lq_logic_rows.specs.Steps.{valuation_of}
use Rattle.lq_logic_predicates.specs.Comparison.{IsRowOf}
use Rattle.lq_logic_predicates.specs.Literals.{equal_row}
use Rattle.lq_logic_predicates.specs.Points.{form_at}
use Rattle.lq_logic_predicates.specs.TableView.{terms_of}
use Rattle.lq_logic_predicates.specs.TermView.{sum_of}
use Rattle.lq_base_numbers.specs.Rationals.Rational.{◌-ℚ◌}
use Rattle.lq_logic_points.specs.Values.{flag_value, class_value, point_from}
use Rattle.lq_logic_points.proofs.agreeing.difference.Goals as goal

pub level_at-requires : goal.level_at-requires
level_at-requires c =
    let terms = terms_of c.args.table.now in let row = c.in-Ok.row in
    let literal = equal_row (sum_of c.args.left.now) (sum_of c.args.right.now) in
    let is : IsRowOf terms literal row = subst (λ l. IsRowOf l literal row) (c.in-Ok.ensures.numbered ∙ c.requires.has) c.in-Ok.ensures.row in
    subst (λ n. All (λ part. part.0 < n) row.parts) (sym c.requires.one_each) (c.rows_say_what_comparisons_say.ensures.within terms literal row is)

pub returns-in_ok-level_at-in-Ok-clause-value : goal.returns-in_ok-level_at-in-Ok-clause-value
returns-in_ok-level_at-in-Ok-clause-value c = λ flags classes.
    let terms = terms_of c.args.table.now in let row = c.in-Ok.row in let v = valuation_of c.args.numbers.now in
    let left = sum_of c.args.left.now in let right = sum_of c.args.right.now in
    let p = point_from terms c.args.numbers.now flags classes in
    let is : IsRowOf terms (equal_row left right) row = subst (λ l. IsRowOf l (equal_row left right) row) (c.in-Ok.ensures.numbered ∙ c.requires.has) c.in-Ok.ensures.row in
    let agrees = c.rows_say_what_comparisons_say.ensures.point terms v (λ x. unwrap_or (flag_value flags x) false) (λ s. unwrap_or (class_value classes s) 0) c.len-terms.ensures.distinct in
    c.in_ok-level_at-in-Ok.ensures.exact ∙ c.rows_say_what_comparisons_say.ensures.level terms v p (equal_row left right) row c.len-terms.ensures.distinct agrees is
    ∙ +ℚ_zero (form_at p left -ℚ form_at p right)
