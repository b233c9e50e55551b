use Rattle.std.proofs.Common.{◌≡◌, map, length}
use Rattle.lq_meaning_normal_tree.specs.AtomView.{atom_view}
use Rattle.lq_meaning_normalize.specs.Pass.Forming.{cells}
use Rattle.lq_meaning_normalize.specs.Pass.Views.{settled_as, GoesOn}
use Rattle.lq_meaning_normalize.proofs.pass.making.Pass.literal.Given as goal

-- the cells of the items that are left, around the list so far, are the whole list
abbrev pub invariant-loop-item : goal.invariant-loop-item
invariant-loop-item l = record {
  cells : cells l.id l.place (map atom_view l.items.items) (settled_as l.self l.list)
      ≡ cells l.id l.place (map atom_view l.initial.items.items) (settled_as l.initial.self l.initial.list);
  goes_on : GoesOn l.initial.self l.self;
}

abbrev pub decreases-loop-item : goal.decreases-loop-item
decreases-loop-item l = length l.items.items
