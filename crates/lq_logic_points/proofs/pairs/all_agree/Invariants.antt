use Rattle.std.proofs.Common.{◌≡◌, ◌<◌, ℕ, Bool, List}
use Rattle.lq_logic_predicates.specs.TableView.{terms_of}
use Rattle.lq_logic_predicates.specs.declared.symbol.Symbol.{Symbol}
use Rattle.lq_logic_points.specs.Agreeing.{AgreesBefore}
use Rattle.lq_logic_points.specs.Values.{point_from}
use Rattle.lq_logic_points.proofs.pairs.all_agree.Given as goal

abbrev pub invariant-loop-at : goal.invariant-loop-at
invariant-loop-at l = record {
  same : terms_of l.table ≡ terms_of l.fn.table;
  agree : (flags : List (Symbol × Bool)) (n : ℕ) → n < l.at → AgreesBefore (point_from (terms_of l.table) l.numbers flags l.classes.entries) (terms_of l.terms) n;
}
