-- The rows of comparisons.
use Rattle.std.proofs.Common.{◌≡◌, ℕ, zero, suc, ◌<◌, List, [], ◌∷◌, true, length, refl, ap, subst, arith, unsigned_abs}
use Rattle.std.specs.List.{Contains, slice_index_or}
use Rattle.lq_prover_proof_tree.specs.Trees.Proves.{AreRowsOf}
use Rattle.lq_logic_rows.specs.Row.{Row}
use Rattle.lq_logic_predicates.specs.Comparison.{Comparison, IsRowOf}
use Rattle.lq_logic_predicates.specs.Sum.{Sum}
use Rattle.lq_logic_predicates.specs.Table.{all_differ}
use Rattle.lq_logic_predicates.proofs.RowLevels.{row_once}
use Rattle.lq_prover_small_rows.specs.Laws.{RowsAreThere, SizesAreConstants}

row_at : (terms : List Sum) → all_differ terms ≡ true → (cs : List Comparison) (rs : List Row) (k : ℕ) → k < length cs → AreRowsOf terms cs rs → (c : Comparison)
    → slice_index_or cs k c ≡ c → (r : Row) → IsRowOf terms c r → Contains rs r
row_at terms d [] rs k l a c e r is = absurd (omega (arith, l))
row_at terms d (x ∷ cs) [] k l a c e r is = absurd a
row_at terms d (x ∷ cs) (q ∷ rs) zero l a c e r is = (0, omega arith, row_once terms c q r d (subst (λ y. IsRowOf terms y q) e a.0) is)
row_at terms d (x ∷ cs) (q ∷ rs) (suc k) l a c e r is =
    let there = row_at terms d cs rs k (omega (arith, l)) a.1 c e r is in
    let inside = there.1 in
    (suc there.0, omega arith, there.2)

pub rows_there : RowsAreThere
rows_there terms cs rs c r d a there is = row_at terms d cs rs there.0 there.1 a c there.2 r is

pub sizes_are : SizesAreConstants
sizes_are terms [] [] a = refl
sizes_are terms (c ∷ cs) (r ∷ rs) a = let k = sizes_are terms cs rs a.1 in let e = ap unsigned_abs a.0.constant in omega (arith, k, e)
sizes_are terms [] (r ∷ rs) a = absurd a
sizes_are terms (c ∷ cs) [] a = absurd a
