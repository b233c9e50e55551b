-- What deciding a case asks and answers.
use Rattle.std.specs.Prelude.{◌≡◌, ◌+◌, ℕ, suc, List, [], ◌∷◌, length, slice_get, Some, Contains}
use Rattle.lq_prover_proof_tree.specs.Trees.Met.{AllHold}
use Rattle.lq_prover_proof_tree.specs.Trees.Path.{Fact, row_fact, flag_fact, objects_fact, never}
use Rattle.lq_prover_proof_tree.specs.Trees.Proves.{ApplyTwo, AreRowsOf, five_ways}
use Rattle.lq_prover_proof_tree.specs.Trees.Tree.{Tree, any, apart, equal, absurdity, leaf}
use Rattle.lq_prover_decide.specs.Case.{Case}
use Rattle.lq_logic_rows.specs.Difference.{TermsBelow}
use Rattle.lq_logic_rows.specs.Row.{Row}
use Rattle.lq_logic_rows.specs.Steps.{valuation_of}
use Rattle.lq_logic_points.specs.Values.{as_point, numbers_of, table_of, values_of}
use Rattle.lq_logic_points.specs.declared.point.Point.{Point}
use Rattle.lq_logic_predicates.specs.ClosedImplication.{terms_in}
use Rattle.lq_logic_predicates.specs.Comparison.{Comparison}
use Rattle.lq_logic_predicates.specs.Sum.{Sum}

-- each row is over the terms below n
abbrev pub AllFactsBelow : ℕ → List Fact → Type 0
AllFactsBelow n [] = Unit {0}
AllFactsBelow n (row_fact r ∷ fs) = TermsBelow n r.parts × AllFactsBelow n fs
AllFactsBelow n (flag_fact x value ∷ fs) = AllFactsBelow n fs
AllFactsBelow n (objects_fact a b one ∷ fs) = AllFactsBelow n fs
AllFactsBelow n (never ∷ fs) = AllFactsBelow n fs

-- the table has the terms of the implication in their order, and the rows are over them
pub record Fits (c : Case) : Type 0 where
  pub complete : c.terms ≡ terms_in c.implication
  pub below : AllFactsBelow (length c.terms) c.facts

-- each of these rows is a fact
abbrev pub AreFacts : List Fact → List Row → Type 0
AreFacts facts [] = Unit {0}
AreFacts facts (r ∷ rs) = Contains facts (row_fact r) × AreFacts facts rs

-- the facts hold the rows of one of the five ways in which two applications stand
pub record IsDecided (c : Case) (s a b t d e : Sum) : Type 0 where
  pub way : List Comparison
  pub is : Contains (five_ways s a b t d e) way
  pub rows : List Row
  pub are : AreRowsOf c.terms way rows
  pub facts : AreFacts c.facts rows

-- of each two terms that are applications of one of `*`, `/` and `mod`, the earlier one first
abbrev pub PairsAreDecided : Case → Type 0
PairsAreDecided c =
    (i j : ℕ) (s a b t d e : Sum) → slice_get c.terms i ≡ Some s → slice_get c.terms (i + suc j) ≡ Some t → ApplyTwo s a b t d e → IsDecided c s a b t d e

-- the point's numbers are by the table, and each fact holds at it
pub record HoldsCase (c : Case) (p : Point) : Type 0 where
  pub table : table_of (values_of p) ≡ c.terms
  pub facts : AllHold (valuation_of (numbers_of (values_of p))) (as_point p) c.facts

-- equal results down to one leaf
abbrev pub IsChainOfEquals : Tree → Type 0
IsChainOfEquals (equal i j tags tree) = IsChainOfEquals tree
IsChainOfEquals (leaf clash) = Unit {0}
IsChainOfEquals (any k trees) = ⊥
IsChainOfEquals (apart i j trees) = ⊥
IsChainOfEquals (absurdity t) = ⊥
