-- What the constants of facts sum to.
use Rattle.std.proofs.Common.{◌≡◌, ℕ, zero, suc, ◌*◌, ◌^◌, ◌<◌, ◌≤◌, List, [], ◌∷◌, All, length, refl, subst, arith}
use Rattle.std.specs.List.{Contains, slice_index_or}
use Rattle.std.proofs.lemmas.List.Elements.{All-head, All-tail}
use Rattle.lq_prover_proof_tree.specs.Trees.Path.{Fact, row_fact, flag_fact, objects_fact, never}
use Rattle.lq_prover_proof_tree.specs.Trees.Proves.{rows_among, rows_from}
use Rattle.lq_prover_pivots.proofs.CramerLemmas.Sizes.{mul_at_most}
use Rattle.lq_prover_differences.specs.Table.{constants}
use Rattle.lq_logic_rows.specs.Contradiction.{Tagged}
use Rattle.lq_logic_rows.specs.Row.{Row}
use Rattle.lq_prover_simplex.specs.Table.{untagged}
use Rattle.lq_prover_pivots.specs.Work.Sizes.{largest_constant, sum_of_constants}
use Rattle.lq_prover_pivots.proofs.WorkLemmas.OnPart.{small_sums_are_small}
use Rattle.lq_prover_pivots.proofs.WorkLemmas.Part.{sum_no_more}
use Rattle.lq_prover_small_rows.specs.Laws.{SumsAreSmall}

pub constants_are : (rows : Tagged) → constants rows ≡ sum_of_constants (untagged rows)
constants_are [] = refl
constants_are (r ∷ rows) = let k = constants_are rows in omega (arith, k)

rows_short : (n : ℕ) (fs : List Fact) → length (untagged (rows_from n fs)) ≤ length fs
rows_short n [] = omega arith
rows_short n (row_fact r ∷ fs) = let k = rows_short (suc n) fs in omega (arith, k)
rows_short n (flag_fact x value ∷ fs) = let k = rows_short (suc n) fs in omega (arith, k)
rows_short n (objects_fact a b one ∷ fs) = let k = rows_short (suc n) fs in omega (arith, k)
rows_short n (never ∷ fs) = let k = rows_short (suc n) fs in omega (arith, k)

-- what holds of each row holds of those without their tags
pub all_untagged : (P : Row → Type 0) (rows : Tagged) → All (λ (r : ℕ × Row). P r.1) rows → (r : Row) → Contains (untagged rows) r → P r
all_untagged P [] all r there = let l = there.1 in absurd (omega (arith, l))
all_untagged P (q ∷ rows) all r there = by (all_untagged P rows (All-tail {X = ℕ × Row} (λ (x : ℕ × Row). P x.1) q rows all) r) there.0 there.1 there.2
  where
    by : (Contains (untagged rows) r → P r) → (k : ℕ) → k < suc (length (untagged rows)) → slice_index_or (q.1 ∷ untagged rows) k r ≡ r → P r
    by rest zero l e = subst P e (All-head {X = ℕ × Row} (λ (x : ℕ × Row). P x.1) q rows all)
    by rest (suc k) l e = rest (k, omega (arith, l), e)

pub sums_are_small : SumsAreSmall
sums_are_small all vs facts small among = record {
  sum = most;
  small = λ few.
      let largest = (small_sums_are_small all vs small).largest in
      let product = mul_at_most (length facts) (largest_constant all) (2 ^ 64) (2 ^ 40) (omega (arith, few)) largest in
      omega (arith, most, product);
}
  where
    rows : List Row
    rows = untagged (rows_among facts)

    most : constants (rows_among facts) ≤ length facts * largest_constant all
    most =
        let same = constants_are (rows_among facts) in
        let sum = sum_no_more all rows among in
        let short = mul_at_most (length rows) (largest_constant all) (length facts) (largest_constant all) (rows_short 1 facts) (omega arith) in
        omega (arith, same, sum, short)
