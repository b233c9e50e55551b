use Rattle.std.proofs.Common.{◌≡◌, [], ◌∷◌, ◌++◌, map, take, get_or, sym, ap, ◌∙◌, append_assoc}
use Rattle.std.proofs.lemmas.List.{append-nil, map-append, map_push, take_more}
use Rattle.lq_refined_types.specs.Parts.Assignment as parts
use Rattle.lq_refined_types.specs.Parts.Assignment.{part_under, parts_under}
use Rattle.lq_refined_types.specs.Parts.Part.{known, Part, Parts}
use Rattle.lq_refined_substitution.specs.Substitution.Views.{part_view}
use Rattle.lq_top_answers.specs.Assignment.Views.{assignment_view}
use Rattle.lq_top_answers.proofs.assignment.known.known_parts.Goals as goal

parts_under-push : (A : parts.Assignment) (qs : Parts) (q : Part) → parts_under A (qs ++ q ∷ []) ≡ parts_under A qs ++ part_under A q
parts_under-push A [] q = append-nil (part_under A q)
parts_under-push A (p ∷ qs) q =
    ap (λ l. part_under A p ++ l) (parts_under-push A qs q) ∙ sym (append_assoc (part_under A p) (parts_under A qs) (part_under A q))

pub loop-part-preserved : goal.loop-part-preserved
loop-part-preserved c =
    let A = assignment_view c.args.assignment.now in
    let items = c.as_slice-part-items.result.now in
    let i = c.loop-part.part-index in
    let part = c.part-item.result in
    let before = map part_view (take i items) in
    c.in_ok-add_part.ensures ∙ ap (λ l. l ++ map known (part_under A (part_view part))) c.loop-part.invariant
    ∙ sym (map-append known (parts_under A before) (part_under A (part_view part)))
    ∙ ap (map known) (sym (parts_under-push A before (part_view part)))
    ∙ ap (λ l. map known (parts_under A l))
    (sym (ap (map part_view) (take_more items i part c.loop-part-test.true) ∙ map_push part_view (take i items) (get_or items i part)
    ∙ ap (λ x. before ++ part_view x ∷ []) (sym c.part-item.is)))
