use Rattle.std.proofs.Common.{◌≡◌, [], ◌∷◌, ◌++◌, refl, ap, ◌∙◌}
use Rattle.lq_meaning_normal_tree.specs.AtomView.{atom_view}
use Rattle.lq_text_tree.specs.Tree.{tree, build, more_trees, no_trees}
use Rattle.lq_text_tree.specs.declared.expr.Arguments.TheVariants.{Apart}
use Rattle.lq_meaning_normalize.specs.Pass.Forming.{Formed, operation, cell}
use Rattle.lq_meaning_normalize.specs.Pass.Going.{GoesOn-refl, GoesOn-trans}
use Rattle.lq_meaning_normalize.specs.Pass.Views.{lets_of, settled_as}
use Rattle.lq_meaning_normalize.proofs.PassLemmas.Cells.{cells_popped}
use Rattle.lq_meaning_normalize.proofs.pass.making.Pass.literal.Goals as goal

pub loop-item-init : goal.loop-item-init
loop-item-init c = record { cells = refl; goes_on = GoesOn-refl _ }

pub loop-item-preserved : goal.loop-item-preserved
loop-item-preserved c =
    let i = c.args.id in let p = c.args.place in
    let x = c.in-Some.item in
    let P = c.name.new.self in
    let F = settled_as c.loop-item.self c.loop-item.list in
    let popped : c.loop-item.items.items ≡ c.pop.new.self.items ++ x ∷ [] = c.in-Some.ensures.items in
    let made : settled_as P c.in_ok-list.list ≡ cell i p (atom_view x) F =
    ap (operation (lets_of P) P.next) c.in_ok-list.ensures
    ∙ ap (λ (T : Formed). operation T.lets T.next (tree i p (build 8 Apart (more_trees (atom_view x) (more_trees T.last no_trees))))) c.in_ok-tail.ensures.named in
    record {
      cells = cells_popped atom_view i p c.loop-item.items.items c.pop.new.self.items x F (settled_as P c.in_ok-list.list) popped made ∙ c.loop-item.invariant.cells;
      goes_on = GoesOn-trans _ _ _ c.loop-item.invariant.goes_on c.name.ensures.goes_on;
    }
