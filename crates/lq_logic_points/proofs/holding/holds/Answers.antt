use Rattle.std.proofs.Common.{◌≡◌, ◌∙◌, ap, subst, true, false, unwrap_or}
use Rattle.lq_logic_rows.specs.Steps.{valuation_of}
use Rattle.lq_logic_predicates.specs.NnfView.{nnf_view}
use Rattle.lq_logic_predicates.specs.RowMeaning.{MeetsRows}
use Rattle.lq_logic_predicates.specs.Table.{all_differ}
use Rattle.lq_logic_points.specs.Values.{numbers_of, table_of, values_of, flags_of, classes_of, flag_value, class_value, as_point, point_of_values}
use Rattle.lq_logic_points.proofs.holding.holds.Goals as goal

pub returns-clause-reading : goal.returns-clause-reading
returns-clause-reading c = λ reading g.
    let values = values_of c.args.point.now in let terms = table_of values in let v = valuation_of (numbers_of values) in let p = as_point c.args.point.now in
    let distinct : all_differ terms ≡ true =
    subst (λ l. all_differ l ≡ true) (c.table.ensures.table ∙ ap table_of c.values-values.ensures) c.len-terms.ensures.distinct in
    let agrees = c.rows_say_what_comparisons_say.ensures.point terms v (λ x. unwrap_or (flag_value (flags_of values) x) false) (λ s. unwrap_or (class_value (classes_of values) s) 0) distinct in
    let both = c.rows_say_what_comparisons_say.ensures.reading terms v p reading (nnf_view c.args.nnf.now) distinct agrees g in
    let rows : (c.meets.result ≡ true → MeetsRows v p (nnf_view c.args.nnf.now)) × (MeetsRows v p (nnf_view c.args.nnf.now) → c.meets.result ≡ true) =
    subst (λ w. (c.meets.result ≡ true → MeetsRows (valuation_of (numbers_of w)) (point_of_values w) (nnf_view c.args.nnf.now)) × (MeetsRows (valuation_of (numbers_of w)) (point_of_values w) (nnf_view c.args.nnf.now) → c.meets.result ≡ true)) c.values-values.ensures c.meets.ensures in
    (λ e. both.0 (rows.0 e), λ m. rows.1 (both.1 m))
