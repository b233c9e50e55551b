use Rattle.std.proofs.Common.{◌≡◌, length}
use Rattle.lq_logic_predicates.specs.TableView.{terms_of}
use Rattle.lq_logic_points.specs.declared.agreeing.Function.{Function}
use Rattle.lq_logic_points.specs.Nearest.{IsNearest, HasEarlier, place_of}
use Rattle.lq_logic_points.proofs.pairs.nearest_earlier.Given as goal

abbrev pub invariant-loop-at : goal.invariant-loop-at
invariant-loop-at l = record {
  length : length l.earlier.items ≡ l.at;
  latest : (f : Function) → IsNearest (terms_of l.terms) l.at f (place_of l.latest.entries f);
  earlier : HasEarlier (terms_of l.terms) l.at l.earlier.items;
}
