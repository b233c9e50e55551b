-- Implications of small sizes, on which no number is past 128 bits.
use Rattle.std.specs.Prelude.{◌≡◌, List, length}
use Rattle.lq_prover_proof_tree.specs.Trees.Proves.{AreRowsOf}
use Rattle.lq_logic_rows.specs.Row.{Row}
use Rattle.lq_prover_pivots.specs.Pivots.Rows.{Variables}
use Rattle.lq_logic_predicates.specs.ClosedImplication.{ClosedImplication, terms_in}
use Rattle.lq_logic_predicates.specs.Literals.{implication_literals}
use Rattle.lq_logic_predicates.specs.declared.pred.Stop.{Stop}
use Rattle.lq_logic_predicates.specs.declared.pred.Stop.TheVariants.{Number, Gather, Pivots, Memory}
use Rattle.lq_prover_pivots.specs.Work.Sizes.{AreSmall}

-- the rows of its literals in order, their terms numbered by its own, have small sizes
pub record IsSmallImplication (i : ClosedImplication) : Type 0 where
  pub rows : List Row
  pub are : AreRowsOf (terms_in i) (implication_literals i) rows
  pub variables : Variables
  pub terms : variables.terms ≡ length (terms_in i)
  pub small : AreSmall rows variables

-- any stop but by a number
abbrev pub IsNoNumber : Stop → Type 0
IsNoNumber (Number e) = ⊥
IsNoNumber (Gather p) = Unit {0}
IsNoNumber (Pivots k) = Unit {0}
IsNoNumber Memory = Unit {0}
