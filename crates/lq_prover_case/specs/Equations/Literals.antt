-- The facts that literals are.
use Rattle.lq_prover_proof_tree.specs.Trees.Path.{Fact, row_fact, flag_fact, objects_fact}
use Rattle.lq_logic_predicates.specs.TermView.{sum_of}
use Rattle.lq_prover_case.specs.declared.equations.literal.Literal.{Literal}
use Rattle.lq_prover_case.specs.declared.equations.literal.Literal.TheVariants.{Row, Flag, Same}

abbrev pub literal_fact : Literal → Fact
literal_fact (Row r) = row_fact r.now
literal_fact (Flag x value) = flag_fact x value
literal_fact (Same a b one) = objects_fact (sum_of a.now) (sum_of b.now) one
