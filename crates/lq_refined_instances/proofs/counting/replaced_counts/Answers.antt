use Rattle.std.proofs.Common.{◌≡◌, ℕ, List, ◌*◌, map, ap, ◌∙◌}
use Rattle.std.specs.List.{zip}
use Rattle.lq_refined_instances.specs.Instances.{told}
use Rattle.lq_text_qualifiers.specs.declared.sorting.shape.Shape.TheVariants.{Int}
use Rattle.lq_refined_instances.specs.Views.{scopes_view}
use Rattle.lq_refined_instances.proofs.CountSteps.{products-step}
use Rattle.lq_refined_instances.proofs.counting.replaced_counts.Goals as goal

pub loop-shape-preserved : goal.loop-shape-preserved
loop-shape-preserved c =
    let f : List ℕ → List ℕ → List ℕ = λ a b. map (λ p. told (p.0 * p.1)) (zip a b) in
    let is : c.in_ok-counts-2.counts.items ≡ f c.loop-shape.counts.items c.in_ok-symbols.symbols.items =
    c.in_ok-counts-2.ensures ∙ ap (λ (l : List ℕ). f l c.deref-in-loop-shape.result.now) c.deref.ensures.value ∙ ap (f c.loop-shape.counts.items) c.deref-in-loop-shape.ensures.value
    in
    products-step c.args.placeholders.now c.loop-shape.shape-index Int (scopes_view c.args.scopes.now) c.loop-shape.counts.items c.in_ok-symbols.symbols.items
    c.in_ok-counts-2.counts.items c.loop-shape-test.true c.loop-shape.invariant c.in_ok-symbols.ensures is
