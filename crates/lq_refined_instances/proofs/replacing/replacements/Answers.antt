use Rattle.std.proofs.Common.{◌≡◌, Vec, Global, List, map, ap, ◌∙◌}
use Rattle.lq_logic_predicates.specs.declared.symbol.Symbol.{Symbol}
use Rattle.lq_text_qualifiers.specs.declared.sorting.shape.Shape.TheVariants.{Int}
use Rattle.lq_refined_instances.specs.Replacing.{each_longer}
use Rattle.lq_refined_instances.specs.Scopes.{scope_in}
use Rattle.lq_refined_instances.specs.Views.{scopes_view}
use Rattle.lq_refined_instances.proofs.ReplacedSteps.{replaced-step}
use Rattle.lq_refined_instances.proofs.replacing.replacements.Goals as goal

pub loop-shape-preserved : goal.loop-shape-preserved
loop-shape-preserved c =
    let items : Vec Symbol Global → List Symbol = λ v. v.items in
    let is : map items c.in_ok-row.row.items ≡ each_longer c.in_ok-symbols.symbols.items (map items c.loop-shape.row.items) =
    c.in_ok-row.ensures ∙ ap (λ (l : List (Vec Symbol Global)). each_longer c.deref-in-loop-shape.result.now (map items l)) c.deref.ensures.value
    ∙ ap (λ (l : List Symbol). each_longer l (map items c.loop-shape.row.items)) c.deref-in-loop-shape.ensures.value
    in
    replaced-step (scope_in (scopes_view c.args.scopes.now) c.args.lists.now.scope) c.args.placeholders.now c.loop-shape.shape-index Int (map items c.loop-shape.row.items) (map items c.in_ok-row.row.items)
    c.in_ok-symbols.symbols.items c.loop-shape-test.true c.loop-shape.invariant c.in_ok-symbols.ensures is
