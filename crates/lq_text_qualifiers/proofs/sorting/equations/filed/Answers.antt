use mathlib.Core.Path.{fun_ext}
use Rattle.std.proofs.Common.{◌+◌, map, drop, sym, ap, ◌∙◌}
use Rattle.lq_text_tree.specs.MeasureTrees.{equation_view}
use Rattle.lq_text_qualifiers.specs.Faults.Lookups.{first_in, or_else}
use Rattle.lq_text_qualifiers.specs.Sorting.Filing.{filed_view}
use Rattle.lq_text_qualifiers.specs.Sorting.Making.{filed, filed_by}
use Rattle.lq_text_qualifiers.specs.Sorting.Views.{seen}
use Rattle.lq_text_qualifiers.proofs.SortingLemmas.Lookups.{nothing_behind, some_less}
use Rattle.lq_text_qualifiers.proofs.SortingLemmas.Rows.{drop_by, nothing_left}
use Rattle.lq_text_qualifiers.proofs.sorting.equations.filed.Goals as goal

pub loop-equation-preserved : goal.loop-equation-preserved
loop-equation-preserved c =
    let es = c.args.equations.now in
    let i = c.loop-equation.equation-index in
    let e = equation_view c.equation-item.result in
    let here = drop_by es i c.equation-item.result c.loop-equation-test.true c.equation-item.is in
    let known = seen filed_view c.loop-equation.known in
    some_less known (seen filed_view c.file.new.known) (filed_by e.pattern e) (filed (map equation_view (drop (i + 1) es))) (first_in (filed (map equation_view es)))
    c.in_ok-file.ensures
    (λ x. ap (λ l. or_else (known x) (first_in (filed (map equation_view l)) x)) (sym here) ∙ c.loop-equation.invariant x)

pub returns : goal.returns
returns c =
    let known = seen filed_view c.loop-equation.known in
    let none = nothing_left c.args.equations.now c.loop-equation.equation-index c.loop-equation-test.false in
    fun_ext (λ x. sym (ap (λ l. or_else (known x) (first_in (filed (map equation_view l)) x)) none ∙ nothing_behind (known x)) ∙ c.loop-equation.invariant x)
