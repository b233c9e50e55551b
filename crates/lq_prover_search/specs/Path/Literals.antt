-- The facts that literals are.
use Rattle.std.specs.Prelude.{◌≡◌, ℕ, true, List}
use Rattle.lq_prover_proof_tree.specs.Trees.Path.{Fact, row_fact, flag_fact, objects_fact}
use Rattle.lq_logic_rows.specs.Difference.{TermsBelow}
use Rattle.lq_logic_predicates.specs.Sum.{Sum}
use Rattle.lq_logic_predicates.specs.Table.{has_term}
use Rattle.lq_logic_predicates.specs.TermView.{sum_of}
use Rattle.lq_prover_search.specs.declared.path.literal.Literal.{Literal}
use Rattle.lq_prover_search.specs.declared.path.literal.Literal.TheVariants.{Row, Flag, Same}

abbrev pub fact_of : Literal → Fact
fact_of (Row r) = row_fact r.now
fact_of (Flag x value) = flag_fact x value
fact_of (Same a b one) = objects_fact (sum_of a.now) (sum_of b.now) one

-- a row is over the terms below n, and objects are in the list
abbrev pub IsLiteralOver : ℕ → List Sum → Literal → Type 0
IsLiteralOver n objects (Row r) = TermsBelow n r.now.parts
IsLiteralOver n objects (Flag x value) = Unit {0}
IsLiteralOver n objects (Same a b one) = (has_term objects (sum_of a.now) ≡ true) × (has_term objects (sum_of b.now) ≡ true)
