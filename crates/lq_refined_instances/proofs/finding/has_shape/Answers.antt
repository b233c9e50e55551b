use Rattle.std.proofs.Common.{Bool, List, [], ◌∷◌, ◌++◌, map, take, if◌then◌else◌, sym, ap, ap₂, ◌∙◌}
use Rattle.std.proofs.lemmas.List.{take_all}
use Rattle.std.proofs.lemmas.List.Elements.{filter-append}
use Rattle.lq_text_qualifiers.specs.Faults.Shapes.{is_same}
use Rattle.lq_text_qualifiers.specs.Sorting.Sorted.{Qualifier}
use Rattle.lq_text_qualifiers.specs.Sorting.Views.{qualifier_view, shape_view}
use Rattle.lq_text_qualifiers.specs.declared.sorting.sorted.ScopedQualifier.{ScopedQualifier}
use Rattle.lq_refined_instances.specs.Instances.{of_shape}
use Rattle.lq_refined_instances.proofs.Taking.{seen-more}
use Rattle.lq_refined_instances.proofs.finding.has_shape.Goals as goal

pub loop-qualifier-preserved : goal.loop-qualifier-preserved
loop-qualifier-preserved c =
    let Q = c.args.qualifiers.now in
    let i = c.loop-qualifier.qualifier-index in
    let x = c.qualifier-item.result in
    let s = shape_view c.args.shape in
    let before = map qualifier_view (take i Q) in
    ap (λ (l : List Qualifier). of_shape l s) (seen-more qualifier_view Q i x x c.loop-qualifier-test.true c.qualifier-item.is)
    ∙ filter-append (λ (q : Qualifier). is_same s q.shape) before (qualifier_view x ∷ [])
    ∙ ap₂ (λ (l r : List Qualifier). l ++ r) c.loop-qualifier.invariant
    (ap (λ (b : Bool). if b then qualifier_view x ∷ [] else []) (sym c.is_same.ensures ∙ c.if-is_same.false))

pub returns : goal.returns
returns c =
    λ _. ap (λ (l : List ScopedQualifier). of_shape (map qualifier_view l) (shape_view c.args.shape))
    (sym (take_all c.loop-qualifier.qualifier-index c.args.qualifiers.now c.loop-qualifier-test.false)) ∙ c.loop-qualifier.invariant
