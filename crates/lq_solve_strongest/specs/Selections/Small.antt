-- The sizes of the rows of an implication under fewer instances.
use Rattle.std.specs.Prelude.{◌≡◌, ℕ, ◌*◌, ◌^◌, ◌≤◌, List, length}
use Rattle.lq_prover_proof_tree.specs.Trees.Proves.{AreRowsOf}
use Rattle.lq_logic_rows.specs.Row.{Row}
use Rattle.lq_prover_pivots.specs.Pivots.Laws.{choose}
use Rattle.lq_prover_pivots.specs.Pivots.Rows.{Variables, size}
use Rattle.lq_logic_predicates.specs.ClosedImplication.{ClosedImplication, terms_in}
use Rattle.lq_logic_predicates.specs.Literals.{implication_literals}
use Rattle.lq_prover_pivots.specs.Work.Sizes.{AreSmall}
use Rattle.lq_solve_strongest.specs.Selections.Fewer.{AreFewer}

-- 3^n * C(m + n, n), for n terms and m forms of two or more terms
abbrev pub chain_limit : Variables → ℕ
chain_limit vs = 3 ^ vs.terms * choose (size vs) vs.terms

-- the rows of the literals and their variables, over the terms
pub record AreItsRows (i : ClosedImplication) (rows : List Row) (vs : Variables) : Type 0 where
  pub rows_of : AreRowsOf (terms_in i) (implication_literals i) rows
  pub terms : vs.terms ≡ length (terms_in i)
  pub small : AreSmall rows vs

-- there are such rows of small sizes, and their chains are at most so long
pub record HasSmallRows (i : ClosedImplication) (chains : ℕ) : Type 0 where
  pub rows : List Row
  pub variables : Variables
  pub are : AreItsRows i rows variables
  pub short : chain_limit variables ≤ chains

-- where all sizes of an implication are small, so are those of one with fewer literals and terms, at least one of these, and its chains are
-- no longer
abbrev pub FewerAreSmall : Type 0
FewerAreSmall =
    (i j : ClosedImplication) (all : List Row) (vs : Variables) → AreFewer i j → 1 ≤ length (terms_in i) → AreItsRows j all vs
    → HasSmallRows i (chain_limit vs)
