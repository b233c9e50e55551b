-- One case of an implication: its literals, and the path of which they are the facts.
use Rattle.std.specs.Prelude.{List, [], map}
use Rattle.lq_prover_proof_tree.specs.Trees.Path as path
use Rattle.lq_prover_proof_tree.specs.Trees.Path.{Path, row_fact, flag_fact, objects_fact}
use Rattle.lq_prover_proof_tree.specs.Trees.Proves.{Numbering}
use Rattle.lq_prover_decide.specs.declared.fact.Fact.{Fact}
use Rattle.lq_prover_decide.specs.declared.fact.Fact.TheVariants.{Row, Flag, Same}
use Rattle.lq_prover_decide.specs.declared.fact.Facts.{Facts}
use Rattle.lq_prover_proof_tree.specs.Literals.Parts.{applications_in}
use Rattle.lq_logic_predicates.specs.ClosedImplication.{ClosedImplication}
use Rattle.lq_logic_predicates.specs.Sum.{Sum}
use Rattle.lq_logic_predicates.specs.TermView.{sum_of}

-- the facts in order, the terms that rows number, and the implication
pub record Case : Type 0 where
  pub facts : List path.Fact
  pub terms : List Sum
  pub implication : ClosedImplication

abbrev pub fact_of : Fact → path.Fact
fact_of (Row r) = row_fact r
fact_of (Flag x value) = flag_fact x value
fact_of (Same a b one) = objects_fact (sum_of a) (sum_of b) one

abbrev pub fact_items : Facts → List Fact
fact_items facts = facts.items.items

abbrev pub facts_of : Facts → List path.Fact
facts_of facts = map fact_of (fact_items facts)

-- the path whose facts are the literals in order, with no choice open
abbrev pub path_of : Case → Path
path_of c = record { facts = c.facts; choices = [] }

-- the terms that rows number, and the applications of the implication
abbrev pub numbering_of : Case → Numbering
numbering_of c = record { terms = c.terms; applications = applications_in c.implication }
