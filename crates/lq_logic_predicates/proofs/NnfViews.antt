-- Readings of the code, one level at a time.
use Rattle.std.proofs.Common.{◌≡◌, Bool, rules}
use Rattle.lq_logic_rows.specs.Row.{Row}
use Rattle.lq_logic_predicates.specs.Reading.{row, flag_is, objects_are}
use Rattle.lq_logic_predicates.specs.TermView.{sum_of}
use Rattle.lq_logic_predicates.specs.NnfView.{nnf_view}
use Rattle.lq_logic_predicates.specs.declared.symbol.Symbol.{Symbol}
use Rattle.lq_logic_predicates.specs.declared.term.Term.{Term}
use Rattle.lq_logic_predicates.specs.declared.nnf.Nnf as nnf
use Rattle.lq_logic_predicates.specs.declared.nnf.Nnf.{the_lemmas}

pub view-row : (r : Row) → nnf_view (nnf.Row r) ≡ row r
view-row r = search (rules, the_lemmas)

pub view-flag : (x : Symbol) (b : Bool) → nnf_view (nnf.Flag x b) ≡ flag_is x b
view-flag x b = search (rules, the_lemmas)

pub view-same : (s t : Term) (b : Bool) → nnf_view (nnf.Same s t b) ≡ objects_are (sum_of s) (sum_of t) b
view-same s t b = search (rules, the_lemmas)
