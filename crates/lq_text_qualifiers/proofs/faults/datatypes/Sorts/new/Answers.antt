use mathlib.Core.Path.{fun_ext}
use Rattle.std.proofs.Common.{◌≡◌, ◌+◌, map, drop, length, sym, ap, ◌∙◌}
use Rattle.std.proofs.lemmas.List.{length-map}
use Rattle.lq_text_walk.specs.Scoped.Views.{constructor_view, data_view}
use Rattle.lq_text_qualifiers.specs.Faults.Datatypes.{constructor, constructors_in, entry_of, size, size_of}
use Rattle.lq_text_qualifiers.specs.Faults.Lookups.{first_in, one, or_else}
use Rattle.lq_text_qualifiers.specs.Faults.Views.{held, made_view, seen}
use Rattle.lq_text_qualifiers.proofs.FaultsLemmas.Lookups.{nothing_behind, one_less, some_less}
use Rattle.lq_text_qualifiers.proofs.FaultsLemmas.Rows.{drop_by, nothing_left}
use Rattle.lq_text_qualifiers.proofs.faults.datatypes.Sorts.new.Goals as goal

pub loop-datatype-preserved : goal.loop-datatype-preserved
loop-datatype-preserved c =
    let ds = c.args.datatypes.now in
    let i = c.loop-datatype.datatype-index in
    let d = c.datatype-item.result in
    let rest = map data_view (drop (i + 1) ds) in
    let here = drop_by ds i d c.loop-datatype-test.true c.datatype-item.is in
    let sizes = held c.loop-datatype.sorts.sizes in
    let known = seen made_view c.loop-datatype.sorts.constructors in
    let counted : c.len.result ≡ length (map constructor_view d.constructors.items) =
    let ok = d.constructors.ok in let is = c.len.ensures in let mapped = length-map d.constructors.items constructor_view in cc
    in (
      one_less sizes (held c.add.new.self) (size_of (data_view d)) (map size_of rest) (size (map data_view ds))
          (λ x. c.in_ok-add.ensures x ∙ ap (λ n. or_else (sizes x) (one d.name.0 n x)) counted)
          (λ x. ap (λ l. or_else (sizes x) (first_in (map size_of (map data_view l)) x)) (sym here) ∙ c.loop-datatype.invariant.0 x),
      some_less known (seen made_view c.add_constructors.new.known) (map (entry_of d.name.0) (map constructor_view d.constructors.items)) (constructors_in rest) (constructor (map data_view ds))
          (λ x. c.in_ok-add_constructors.ensures x ∙ ap (λ cs. or_else (known x) (first_in (map (entry_of d.name.0) (map constructor_view cs)) x)) c.deref.ensures.value)
          (λ x. ap (λ l. or_else (known x) (first_in (constructors_in (map data_view l)) x)) (sym here) ∙ c.loop-datatype.invariant.1 x),
    )

pub returns-clause-sizes : goal.returns-clause-sizes
returns-clause-sizes c =
    let sizes = held c.loop-datatype.sorts.sizes in
    let none = nothing_left c.args.datatypes.now c.loop-datatype.datatype-index c.loop-datatype-test.false in
    fun_ext (λ x. sym (ap (λ l. or_else (sizes x) (first_in (map size_of (map data_view l)) x)) none ∙ nothing_behind (sizes x)) ∙ c.loop-datatype.invariant.0 x)

pub returns-clause-constructors : goal.returns-clause-constructors
returns-clause-constructors c =
    let known = seen made_view c.loop-datatype.sorts.constructors in
    let none = nothing_left c.args.datatypes.now c.loop-datatype.datatype-index c.loop-datatype-test.false in
    fun_ext (λ x. sym (ap (λ l. or_else (known x) (first_in (constructors_in (map data_view l)) x)) none ∙ nothing_behind (known x)) ∙ c.loop-datatype.invariant.1 x)
