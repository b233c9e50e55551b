-- The terms of a table.
use Rattle.std.specs.Prelude.{List, map}
use Rattle.lq_logic_predicates.specs.Sum.{Sum}
use Rattle.lq_logic_predicates.specs.TermView.{sum_of}
use Rattle.lq_logic_predicates.specs.declared.table.TermTable.{TermTable}

abbrev pub terms_of : TermTable → List Sum
terms_of table = map sum_of table.terms.keys
