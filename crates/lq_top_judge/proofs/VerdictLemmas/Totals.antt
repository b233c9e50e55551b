-- Counts that stop at a bound.
use Rattle.std.specs.Prelude.{slice_get}
use Rattle.std.proofs.Common.{◌≡◌, ℕ, zero, suc, ◌+◌, ◌≤◌, List, [], ◌∷◌, drop, length, Some, None, sym, ap, ◌∙◌, arith}
use Rattle.std.proofs.lemmas.List.{drop_all}
use Rattle.lq_top_judge.specs.Verdict.Counting.{instance_total}
use Rattle.lq_refined_instances.specs.Instances.{told}
use Rattle.lq_logic_predicates.specs.Formula.{Formula}

drop_here : {X : Type 0} (xs : List X) (i : ℕ) (x : X) → slice_get xs i ≡ Some x → drop i xs ≡ x ∷ drop (i + 1) xs
drop_here {X} xs i x is = let next : i + 1 ≡ suc i = omega arith in from_here xs i is ∙ ap (λ (n : ℕ). x ∷ drop n xs) (sym next)
  where
    from_here : (ys : List X) (i : ℕ) → slice_get ys i ≡ Some x → drop i ys ≡ x ∷ drop (suc i) ys
    from_here [] i is = absurd (let h : None ≡ Some x = is in cc)
    from_here (y ∷ ys) zero is = let same : y ≡ x = cc in ap (λ (z : X). z ∷ ys) same
    from_here (y ∷ ys) (suc i) is = from_here ys i is

-- the count up to one of them, and up to the next
pub one_more : (ls : List (List Formula)) (i total more : ℕ) (l : List Formula) → slice_get ls i ≡ Some l → more ≡ told (total + length l)
    → told (total + instance_total (drop i ls)) ≡ told (instance_total ls) → told (more + instance_total (drop (i + 1) ls)) ≡ told (instance_total ls)
one_more ls i total more l here is before =
    let sum : instance_total (drop i ls) ≡ length l + instance_total (drop (i + 1) ls) = ap instance_total (drop_here ls i l here) in
    omega (arith, is, before, sum)

pub all_counted : (ls : List (List Formula)) (i total : ℕ) → length ls ≤ i → total ≡ told total → told (total + instance_total (drop i ls)) ≡ told (instance_total ls)
    → total ≡ told (instance_total ls)
all_counted ls i total past small counted =
    let none : instance_total (drop i ls) ≡ 0 = ap instance_total (drop_all i ls past) in
    omega (arith, small, counted, none)
