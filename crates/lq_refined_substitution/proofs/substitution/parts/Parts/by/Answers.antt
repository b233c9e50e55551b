use Rattle.std.proofs.Common.{◌≡◌, [], ◌∷◌, ◌++◌, map, take, get_or, refl, sym, ap, ap₂, ◌∙◌}
use Rattle.std.proofs.lemmas.List.{map_push, take_more}
use Rattle.lq_refined_types.specs.Parts.Part as parts
use Rattle.lq_refined_types.specs.Parts.Part.{Scopes, part_by, parts_by}
use Rattle.lq_refined_types.specs.Parts.Substitution.{Subst}
use Rattle.lq_refined_substitution.specs.Substitution.Views.{part_view, scopes_view, subst_view}
use Rattle.lq_refined_substitution.proofs.substitution.parts.Parts.by.Goals as goal

parts_by-push : (scopes : Scopes) (θ : Subst) (qs : parts.Parts) (q : parts.Part)
    → parts_by scopes θ (qs ++ q ∷ []) ≡ parts_by scopes θ qs ++ part_by scopes θ q ∷ []
parts_by-push scopes θ [] q = refl
parts_by-push scopes θ (p ∷ qs) q = ap (λ l. part_by scopes θ p ∷ l) (parts_by-push scopes θ qs q)

pub loop-part-preserved : goal.loop-part-preserved
loop-part-preserved c =
    let scopes = scopes_view c.args.scopes.now in
    let θ = subst_view c.args.by.now in
    let items = c.deref-part-items.result.now in
    let i = c.loop-part.part-index in
    let part = c.part-item.result in
    ap (map part_view) c.in_ok-push.ensures.items ∙ map_push part_view c.loop-part.items.items c.in_ok-by.field-0
    ∙ ap₂ (λ l q. l ++ q ∷ []) c.loop-part.invariant c.in_ok-by.ensures
    ∙ sym (parts_by-push scopes θ (map part_view (take i items)) (part_view part))
    ∙ ap (parts_by scopes θ)
    (sym (ap (map part_view) (take_more items i part c.loop-part-test.true) ∙ map_push part_view (take i items) (get_or items i part)
    ∙ ap (λ x. map part_view (take i items) ++ part_view x ∷ []) (sym c.part-item.is)))
