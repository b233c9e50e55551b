-- Cases of small sizes, on which no number is past 128 bits.
use Rattle.std.specs.Prelude.{◌≡◌, ◌++◌, List, length}
use Rattle.lq_prover_proof_tree.specs.Trees.Proves.{AreRowsOf, rows_among}
use Rattle.lq_prover_decide.specs.Case.{Case}
use Rattle.lq_logic_rows.specs.Row.{Row}
use Rattle.lq_prover_pivots.specs.Pivots.Rows.{Variables}
use Rattle.lq_logic_predicates.specs.Literals.{implication_literals}
use Rattle.lq_logic_predicates.specs.declared.pred.Stop.{Stop}
use Rattle.lq_logic_predicates.specs.declared.pred.Stop.TheVariants.{Number, Gather, Pivots, Memory}
use Rattle.lq_prover_simplex.specs.Table.{untagged}
use Rattle.lq_prover_pivots.specs.Work.Sizes.{AreSmall}

-- the rows among its facts, and then those of the implication's literals in order, have small sizes
pub record IsSmallCase (c : Case) : Type 0 where
  pub rows : List Row
  pub are : AreRowsOf c.terms (implication_literals c.implication) rows
  pub variables : Variables
  pub terms : variables.terms ≡ length c.terms
  pub small : AreSmall (untagged (rows_among c.facts) ++ rows) variables

-- any stop but by a number
abbrev pub IsNoNumber : Stop → Type 0
IsNoNumber (Number e) = ⊥
IsNoNumber (Gather p) = Unit {0}
IsNoNumber (Pivots k) = Unit {0}
IsNoNumber Memory = Unit {0}
