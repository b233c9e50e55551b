use mathlib.Core.Path.{fun_ext}
use Rattle.std.proofs.Common.{ℕ, sym, ap, ◌∙◌}
use Rattle.std.specs.Option.{option_map}
use Rattle.lq_text_tree.specs.MeasureTrees.{equation_view}
use Rattle.lq_text_tree.specs.PredView.{pred_view}
use Rattle.lq_text_qualifiers.specs.Faults.Lookups.{Lookup, first_in}
use Rattle.lq_text_qualifiers.specs.Sorting.Filing.{filed_view}
use Rattle.lq_text_qualifiers.specs.Sorting.Making.{Setting, fields_in, term_by, term_of}
use Rattle.lq_text_qualifiers.specs.Sorting.Sorted.{Variable}
use Rattle.lq_text_qualifiers.specs.Sorting.Views.{held, measured_view, seen}
use Rattle.lq_text_qualifiers.proofs.sorting.equations.term_at.Goals as goal

pub returns-in_ok-term-in-Some : goal.returns-in_ok-term-in-Some
returns-in_ok-term-in-Some c =
    let known = seen measured_view c.args.measures.now in
    let e = c.in-Some.filed.equation.now in
    let t = pred_view e.term in
    let around : Lookup Variable → Lookup ℕ → Setting = λ vs ps. record { variables = vs; placeholders = ps; measures = known } in
    let found = ap (option_map filed_view) (sym c.in-Some.is ∙ c.get.ensures) in
    c.in_ok-term-in-Some.ensures
    ∙ ap (λ vs. term_of (around vs (held c.new.result)) t) c.in_ok-variables_of-in-Some.ensures
    ∙ ap (λ ps. term_of (around (first_in (fields_in (equation_view e).pattern)) ps) t) (fun_ext c.new.ensures)
    ∙ ap (term_by known) found
