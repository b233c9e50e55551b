use Rattle.std.proofs.Common.{ℕ, List, map, sym, ap, ◌∙◌}
use Rattle.std.specs.List.{flat_map}
use Rattle.lq_text_qualifiers.specs.Sorting.Sorted.{Qualifier}
use Rattle.lq_text_qualifiers.specs.Sorting.Views.{qualifier_view, shape_view}
use Rattle.lq_refined_instances.specs.Instances.{first_occurrences, instances_of, made_of}
use Rattle.lq_refined_instances.specs.Scopes.{scope_in}
use Rattle.lq_refined_instances.specs.Views.{measure_name, scopes_view}
use Rattle.lq_refined_instances.proofs.finding.list_at.Goals as goal

pub returns-then-not-has_shape : goal.returns-then-not-has_shape
returns-then-not-has_shape c =
    let ms = map measure_name c.args.measures.now in
    let Γ = scope_in (scopes_view c.args.scopes.now) c.args.unknown.scope in
    c.new.ensures ∙ sym (ap (λ (l : List Qualifier). first_occurrences (flat_map (made_of ms Γ) l)) (c.has_shape.ensures c.if-not-has_shape.true))

pub returns : goal.returns
returns c =
    let ms = map measure_name c.args.measures.now in
    let Q = map qualifier_view c.args.qualifiers.now in
    let all = scopes_view c.args.scopes.now in
    c.in_ok-list.ensures ∙ ap (λ (n : ℕ). instances_of ms Q (scope_in all n) (shape_view c.args.unknown.shape)) c.in_ok-symbols.ensures.scope
