use mathlib.Core.Path.{fun_ext}
use Rattle.std.proofs.Common.{◌++◌, ◌+◌, map, drop, sym, ap, ◌∙◌}
use Rattle.lq_text_walk.specs.Scoped.Views.{constructor_view, data_view}
use Rattle.lq_text_qualifiers.specs.Faults.Datatypes.{predeclared}
use Rattle.lq_text_qualifiers.specs.Faults.Lookups.{first_in, one, or_else}
use Rattle.lq_text_qualifiers.specs.Sorting.Filing.{listed_view}
use Rattle.lq_text_qualifiers.specs.Sorting.Making.{constructor_name, constructors_of}
use Rattle.lq_text_qualifiers.specs.Sorting.Views.{held, seen}
use Rattle.lq_text_qualifiers.proofs.SortingLemmas.Lookups.{added, nothing_behind, one_less}
use Rattle.lq_text_qualifiers.proofs.SortingLemmas.Rows.{drop_by, nothing_left}
use Rattle.lq_text_qualifiers.proofs.sorting.constructors.constructors_of.Goals as goal

pub loop-datatype-preserved : goal.loop-datatype-preserved
loop-datatype-preserved c =
    let ds = c.args.datatypes.now in
    let i = c.loop-datatype.datatype-index in
    let d = c.datatype-item.result in
    let here = drop_by ds i d c.loop-datatype-test.true c.datatype-item.is in
    let known = seen listed_view c.loop-datatype.known in
    one_less known (seen listed_view c.add-in-loop-datatype.new.self) (constructors_of (data_view d)) (map constructors_of (map data_view (drop (i + 1) ds)))
    (first_in (map constructors_of (predeclared ++ map data_view ds)))
    (λ x. added listed_view (held c.loop-datatype.known) (held c.add-in-loop-datatype.new.self) _ _ c.in_ok-add-3.ensures x
    ∙ ap (λ cs. or_else (known x) (one d.name.0 (map constructor_name (map constructor_view cs)) x)) c.deref.ensures.value)
    (λ x. ap (λ l. or_else (known x) (first_in (map constructors_of (map data_view l)) x)) (sym here) ∙ c.loop-datatype.invariant x)

pub returns : goal.returns
returns c =
    let known = seen listed_view c.loop-datatype.known in
    let none = nothing_left c.args.datatypes.now c.loop-datatype.datatype-index c.loop-datatype-test.false in
    fun_ext (λ x. sym (ap (λ l. or_else (known x) (first_in (map constructors_of (map data_view l)) x)) none ∙ nothing_behind (known x)) ∙ c.loop-datatype.invariant x)
