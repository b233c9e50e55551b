-- The rows that those of the code on two terms stand for.
use Rattle.std.specs.Prelude.{ℕ, zero, suc, pos, List, [], ◌∷◌, map, if◌then◌else◌}
use Rattle.lq_logic_predicates.specs.Comparison.{Comparison, comparison}
use Rattle.lq_logic_predicates.specs.Literals.{rows_with}
use Rattle.lq_logic_predicates.specs.Sum.{Sum}
use Rattle.lq_logic_predicates.specs.TermView.{sum_of}
use Rattle.lq_prover_proof_tree.specs.declared.literals.pairs.PairRow.{PairRow}

abbrev pub row_view : PairRow → Comparison
row_view r = comparison (sum_of r.left.now) (sum_of r.right.now) (if r.equal then pos 0 else pos 1) r.equal

abbrev pub row_views : List PairRow → List Comparison
row_views = map row_view

-- the rows of the term at a place with each later one
abbrev pub rows_at : List Sum → ℕ → List Comparison
rows_at [] n = []
rows_at (t ∷ ts) zero = rows_with t ts
rows_at (t ∷ ts) (suc n) = rows_at ts n
