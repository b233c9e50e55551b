use Rattle.std.proofs.Common.{◌≡◌, Bool, List}
use Rattle.lq_logic_predicates.specs.TableView.{terms_of}
use Rattle.lq_logic_predicates.specs.declared.symbol.Symbol.{Symbol}
use Rattle.lq_logic_points.specs.Values.{point_from}
use Rattle.lq_logic_points.proofs.Walks.{Pending, place_or_zero}
use Rattle.lq_logic_points.proofs.pairs.agrees_with_earlier.Given as goal

abbrev pub invariant-loop-next : goal.invariant-loop-next
invariant-loop-next l = record {
  same : terms_of l.table ≡ terms_of l.fn.table;
  pending : (flags : List (Symbol × Bool)) → Pending (point_from (terms_of l.table) l.numbers flags l.classes.entries) (terms_of l.terms) l.at l.next;
}

abbrev pub decreases-loop-next : goal.decreases-loop-next
decreases-loop-next l = place_or_zero l.next
