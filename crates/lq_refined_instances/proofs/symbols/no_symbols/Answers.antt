use Rattle.std.proofs.Common.{[], List, map, sym, subst, ap}
use Rattle.std.proofs.lemmas.List.Elements.{All-push}
use Rattle.lq_refined_instances.specs.Seen.{visible_view}
use Rattle.lq_refined_instances.specs.Shaped.{AreListed, IsListed}
use Rattle.lq_refined_instances.specs.declared.scope.Visible.{Visible}
use Rattle.lq_refined_instances.proofs.symbols.no_symbols.Goals as goal

pub loop-shape-preserved : goal.loop-shape-preserved
loop-shape-preserved c =
    subst (AreListed []) (sym c.in_ok-push.ensures.items)
    (All-push (IsListed []) c.loop-shape.lists.items _ c.loop-shape.invariant (ap (λ (l : List Visible). map visible_view l) c.new-symbols.ensures.items))
