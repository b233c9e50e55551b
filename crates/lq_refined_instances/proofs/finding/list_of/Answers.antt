use Rattle.std.proofs.Common.{◌≡◌, Bool, List, [], map, take, if◌then◌else◌, sym, ap, ◌∙◌}
use Rattle.std.specs.List.{flat_map}
use Rattle.std.proofs.lemmas.List.{take_all}
use Rattle.lq_text_qualifiers.specs.Sorting.Sorted.{Qualifier}
use Rattle.lq_text_qualifiers.specs.Sorting.Views.{qualifier_view, shape_view}
use Rattle.lq_text_qualifiers.specs.declared.sorting.sorted.ScopedQualifier.{ScopedQualifier}
use Rattle.lq_refined_instances.specs.Instances.{made_of, of_shape}
use Rattle.lq_refined_instances.specs.Kept.{kept}
use Rattle.lq_refined_instances.specs.Scopes.{scope_in}
use Rattle.lq_refined_instances.specs.Views.{list_view, measure_name, scopes_view}
use Rattle.lq_refined_instances.proofs.Keeping.{kept-firsts}
use Rattle.lq_refined_instances.proofs.KeptSteps.{list-step}
use Rattle.lq_refined_instances.proofs.Taking.{seen-more}
use Rattle.lq_refined_instances.proofs.finding.list_of.Goals as goal
use Rattle.lq_refined_instances.proofs.finding.list_of.Goals.{then-is_same+in_ok-add_instances, else-is_same}

pub loop-qualifier-preserved : goal.loop-qualifier-preserved
loop-qualifier-preserved c =
    let ms = map measure_name c.args.measures.now in
    let Γ = scope_in (scopes_view c.args.scopes.now) c.args.symbols.now.scope in
    let Q = c.args.qualifiers.now in
    let i = c.loop-qualifier.qualifier-index in
    let x = c.qualifier-item.result in
    let s = shape_view c.args.shape in
    let now = list_view c.loop-qualifier.list in
    let more = kept now (made_of ms Γ (qualifier_view x)) in
    let next : list_view c.if-is_same.list ≡ (if c.is_same.result then more else now) =
    elim c.if-is_same.branch [
      | then-is_same+in_ok-add_instances w ↦ ap list_view w.list-is ∙ w.in_ok-add_instances.ensures ∙ sym (ap (λ (b : Bool). if b then more else now) w.if-is_same.true)
      | else-is_same w ↦ ap list_view w.list-is ∙ sym (ap (λ (b : Bool). if b then more else now) w.if-is_same.false)
    ]
    in
    list-step ms Γ (map qualifier_view (take i Q)) (qualifier_view x) s c.is_same.result now (list_view c.if-is_same.list) (sym c.is_same.ensures) c.loop-qualifier.invariant next
    ∙ ap (λ (l : List Qualifier). kept [] (flat_map (made_of ms Γ) (of_shape l s))) (sym (seen-more qualifier_view Q i x x c.loop-qualifier-test.true c.qualifier-item.is))

pub returns : goal.returns
returns c =
    let ms = map measure_name c.args.measures.now in
    let Γ = scope_in (scopes_view c.args.scopes.now) c.args.symbols.now.scope in
    let s = shape_view c.args.shape in
    c.loop-qualifier.invariant
    ∙ ap (λ (l : List ScopedQualifier). kept [] (flat_map (made_of ms Γ) (of_shape (map qualifier_view l) s))) (take_all c.loop-qualifier.qualifier-index c.args.qualifiers.now c.loop-qualifier-test.false)
    ∙ kept-firsts (flat_map (made_of ms Γ) (of_shape (map qualifier_view c.args.qualifiers.now) s))
