-- The ways of pairs of applications add no more than the rows of the conditions on them.
use Rattle.std.proofs.Common.{◌≡◌, ◌∙◌, ℕ, zero, suc, ◌+◌, ◌≤◌, List, [], ◌∷◌, ◌++◌, Bool, true, false, Some, cond, length, map, slice_get, take, refl, ap, arith, unsigned_abs}
use Rattle.std.specs.List.{filter}
use Rattle.lq_prover_proof_tree.specs.Trees.Proves.{ApplyTwo, AreRowsOf, five_ways, products, quotients, remainders}
use Rattle.lq_logic_rows.specs.Row.{Row}
use Rattle.lq_prover_proof_tree.specs.Literals.Gathered.{sizes}
use Rattle.lq_prover_proof_tree.specs.Literals.Parts.{is_application}
use Rattle.lq_logic_predicates.specs.Comparison.{Comparison}
use Rattle.lq_logic_predicates.specs.Literals.{all_pairs, condition_rows, pair_rows, rows_with}
use Rattle.lq_logic_predicates.specs.NnfView.{nnfs_view, readings_of}
use Rattle.lq_logic_predicates.specs.Reading.{Reading, Readings, more, none, row}
use Rattle.lq_logic_predicates.specs.Sum.{Sum, whole, var, neg, add, sub, mul, div, rem, len, measure}
use Rattle.lq_prover_search.specs.Search.Pairs.{AreWays, IsPair, IsWay, reading_of_rows}
use Rattle.lq_prover_search.specs.Search.Sizes.{most, most_of_all, most_of_any, row_size}
use Rattle.lq_prover_search.specs.declared.search.pair.Pair.{Pair}

-- ---- the ways of one pair

rows_sizes : (terms : List Sum) (cs : List Comparison) (rs : List Row) → AreRowsOf terms cs rs → most_of_all row_size (readings_of (map row rs)) ≡ sizes cs
rows_sizes terms [] [] a = refl
rows_sizes terms (c ∷ cs) (r ∷ rs) a =
    let k = rows_sizes terms cs rs a.1 in let e = ap unsigned_abs a.0.constant in omega (arith, k, e)
rows_sizes terms [] (r ∷ rs) a = absurd a
rows_sizes terms (c ∷ cs) [] a = absurd a

one_or_all : (rs : List Row) → most row_size (reading_of_rows rs) ≡ most_of_all row_size (readings_of (map row rs))
one_or_all [] = refl
one_or_all (r ∷ []) = omega arith
one_or_all (r ∷ q ∷ rs) = refl

way_size : (terms : List Sum) (cs : List Comparison) (reading : Reading Row) → IsWay terms cs reading → most row_size reading ≡ sizes cs
way_size terms cs reading w = ap (most row_size) w.is ∙ one_or_all w.rows ∙ rows_sizes terms cs w.rows w.are

-- the sizes of some lists of comparisons, in all
each_sizes : List (List Comparison) → ℕ
each_sizes [] = 0
each_sizes (cs ∷ css) = sizes cs + each_sizes css

ways_size : (terms : List Sum) (css : List (List Comparison)) (rs : Readings Row) → AreWays terms css rs → most_of_any row_size rs ≤ each_sizes css
unfolding each_sizes
ways_size terms [] none w = omega arith
ways_size terms (cs ∷ css) (more r rs) w = let a = way_size terms cs r w.0 in let b = ways_size terms css rs w.1 in omega (arith, a, b)
ways_size terms [] (more r rs) w = absurd w
ways_size terms (cs ∷ css) none w = absurd w

five_are : (s a b t c d : Sum) → each_sizes (five_ways s a b t c d) ≡ sizes (condition_rows s a b t c d)
unfolding each_sizes
five_are s a b t c d = omega arith

pub condition_of : (s a b t c d : Sum) → ApplyTwo s a b t c d → pair_rows s t ≡ condition_rows s a b t c d
condition_of _ _ _ _ _ _ (products a b c d n m) = refl
condition_of _ _ _ _ _ _ (quotients a b c d) = refl
condition_of _ _ _ _ _ _ (remainders a b c d) = refl

pub pair_size : (terms : List Sum) (pair : Pair) (p : IsPair terms pair) → most_of_any row_size (nnfs_view pair.ways) ≤ sizes (pair_rows p.first p.second)
pair_size terms pair p =
    let a = ways_size terms (five_ways p.first p.first_left p.first_right p.second p.second_left p.second_right) (nnfs_view pair.ways) p.ways in
    let b = five_are p.first p.first_left p.first_right p.second p.second_left p.second_right in
    let c = ap sizes (condition_of p.first p.first_left p.first_right p.second p.second_left p.second_right p.apply) in omega (arith, a, b, c)

-- ---- the conditions on all pairs

pub sizes-append : (xs ys : List Comparison) → sizes (xs ++ ys) ≡ sizes xs + sizes ys
sizes-append [] ys = omega arith
sizes-append (x ∷ xs) ys = let k = sizes-append xs ys in omega (arith, k)

-- those of a term with each one of a list before it
abbrev pub before : Sum → List Sum → ℕ
before t [] = 0
before t (x ∷ xs) = sizes (pair_rows x t) + before t xs

pub before-push : (t : Sum) (xs : List Sum) (x : Sum) → before t (xs ++ x ∷ []) ≡ before t xs + sizes (pair_rows x t)
before-push t [] x = omega arith
before-push t (y ∷ xs) x = let k = before-push t xs x in omega (arith, k)

rows_with-push : (s : Sum) (ts : List Sum) (t : Sum) → sizes (rows_with s (ts ++ t ∷ [])) ≡ sizes (rows_with s ts) + sizes (pair_rows s t)
rows_with-push s [] t = let k = sizes-append (pair_rows s t) [] in omega (arith, k)
rows_with-push s (x ∷ ts) t =
    let k = rows_with-push s ts t in
    let a = sizes-append (pair_rows s x) (rows_with s (ts ++ t ∷ [])) in let b = sizes-append (pair_rows s x) (rows_with s ts) in omega (arith, k, a, b)

pub all_pairs-push : (ts : List Sum) (t : Sum) → sizes (all_pairs (ts ++ t ∷ [])) ≡ sizes (all_pairs ts) + before t ts
all_pairs-push [] t = refl
all_pairs-push (x ∷ ts) t =
    let k = all_pairs-push ts t in
    let a = sizes-append (rows_with x (ts ++ t ∷ [])) (all_pairs (ts ++ t ∷ [])) in let b = sizes-append (rows_with x ts) (all_pairs ts) in
    let c = rows_with-push x ts t in omega (arith, k, a, b, c)

-- ---- a term that is no application is in no condition

no_first : (s t : Sum) → is_application s ≡ false → sizes (pair_rows s t) ≡ 0
no_first (whole n) t h = refl
no_first (var x) t h = refl
no_first (neg a) t h = refl
no_first (add a b) t h = refl
no_first (sub a b) t h = refl
no_first (mul a b) t h = cc
no_first (div a b) t h = cc
no_first (rem a b) t h = cc
no_first (len a) t h = cc
no_first (measure f a) t h = cc

no_rows_of : (s t : Sum) → is_application t ≡ false → sizes (pair_rows s t) ≡ 0
no_rows_of (whole n) t h = refl
no_rows_of (var x) t h = refl
no_rows_of (neg a) t h = refl
no_rows_of (add a b) t h = refl
no_rows_of (sub a b) t h = refl
no_rows_of (mul a b) (whole n) h = refl
no_rows_of (mul a b) (var x) h = refl
no_rows_of (mul a b) (neg c) h = refl
no_rows_of (mul a b) (add c d) h = refl
no_rows_of (mul a b) (sub c d) h = refl
no_rows_of (div a b) (whole n) h = refl
no_rows_of (div a b) (var x) h = refl
no_rows_of (div a b) (neg c) h = refl
no_rows_of (div a b) (add c d) h = refl
no_rows_of (div a b) (sub c d) h = refl
no_rows_of (rem a b) (whole n) h = refl
no_rows_of (rem a b) (var x) h = refl
no_rows_of (rem a b) (neg c) h = refl
no_rows_of (rem a b) (add c d) h = refl
no_rows_of (rem a b) (sub c d) h = refl
no_rows_of (len a) (whole n) h = refl
no_rows_of (len a) (var x) h = refl
no_rows_of (len a) (neg c) h = refl
no_rows_of (len a) (add c d) h = refl
no_rows_of (len a) (sub c d) h = refl
no_rows_of (measure f a) (whole n) h = refl
no_rows_of (measure f a) (var x) h = refl
no_rows_of (measure f a) (neg c) h = refl
no_rows_of (measure f a) (add c d) h = refl
no_rows_of (measure f a) (sub c d) h = refl
no_rows_of s (mul a b) h = cc
no_rows_of s (div a b) h = cc
no_rows_of s (rem a b) h = cc
no_rows_of s (len a) h = cc
no_rows_of s (measure f a) h = cc

no_rows_with : (s : Sum) (ts : List Sum) → is_application s ≡ false → sizes (rows_with s ts) ≡ 0
no_rows_with s [] h = refl
no_rows_with s (t ∷ ts) h =
    let a = no_first s t h in let b = no_rows_with s ts h in let c = sizes-append (pair_rows s t) (rows_with s ts) in omega (arith, a, b, c)

rows_filtered : (s : Sum) (ts : List Sum) → sizes (rows_with s ts) ≡ sizes (rows_with s (filter is_application ts))
rows_filtered s [] = refl
rows_filtered s (t ∷ ts) = by (rows_filtered s ts) (is_application t) refl
  where
    by : sizes (rows_with s ts) ≡ sizes (rows_with s (filter is_application ts)) → (b : Bool) → is_application t ≡ b
        → sizes (rows_with s (t ∷ ts)) ≡ sizes (rows_with s (cond b (t ∷ filter is_application ts) (filter is_application ts)))
    by k true e =
        let a = sizes-append (pair_rows s t) (rows_with s ts) in let b = sizes-append (pair_rows s t) (rows_with s (filter is_application ts)) in omega (arith, k, a, b)
    by k false e = let a = sizes-append (pair_rows s t) (rows_with s ts) in let b = no_rows_of s t e in omega (arith, k, a, b)

pub pairs_filtered : (ts : List Sum) → sizes (all_pairs ts) ≡ sizes (all_pairs (filter is_application ts))
pairs_filtered [] = refl
pairs_filtered (t ∷ ts) = by (pairs_filtered ts) (is_application t) refl
  where
    by : sizes (all_pairs ts) ≡ sizes (all_pairs (filter is_application ts)) → (b : Bool) → is_application t ≡ b
        → sizes (all_pairs (t ∷ ts)) ≡ sizes (all_pairs (cond b (t ∷ filter is_application ts) (filter is_application ts)))
    by k true e =
        let a = sizes-append (rows_with t ts) (all_pairs ts) in
        let b = sizes-append (rows_with t (filter is_application ts)) (all_pairs (filter is_application ts)) in
        let c = rows_filtered t ts in omega (arith, k, a, b, c)
    by k false e = let a = sizes-append (rows_with t ts) (all_pairs ts) in let b = no_rows_with t ts e in omega (arith, k, a, b)

-- ---- the first ones

pub take_next : {X : Type 0} (xs : List X) (n : ℕ) (x : X) → slice_get xs n ≡ Some x → take (suc n) xs ≡ take n xs ++ x ∷ []
take_next {X} [] n x e = cc
take_next {X} (y ∷ xs) zero x e = let same : y ≡ x = cc in ap (λ z. z ∷ []) same
take_next {X} (y ∷ xs) (suc n) x e = ap (λ l. y ∷ l) (take_next xs n x e)

pub take_past : {X : Type 0} (xs : List X) (n : ℕ) → length xs ≤ n → take n xs ≡ xs
take_past {X} [] zero h = refl
take_past {X} [] (suc n) h = refl
take_past {X} (x ∷ xs) zero h = absurd (omega (arith, h))
take_past {X} (x ∷ xs) (suc n) h = ap (λ l. x ∷ l) (take_past xs n (omega (arith, h)))

pub before_more : (t : Sum) (xs : List Sum) (n : ℕ) → before t (take n xs) ≤ before t (take (n + 1) xs)
before_more t [] zero = omega arith
before_more t [] (suc n) = omega arith
before_more t (x ∷ xs) zero = omega arith
before_more t (x ∷ xs) (suc n) =
    let k = before_more t xs n in let e : suc n + 1 ≡ suc (n + 1) = omega arith in let f = ap (λ m. before t (take m (x ∷ xs))) e in omega (arith, k, f)

rows_with_more : (s : Sum) (xs : List Sum) (n : ℕ) → sizes (rows_with s (take n xs)) ≤ sizes (rows_with s (take (suc n) xs))
rows_with_more s [] zero = omega arith
rows_with_more s [] (suc n) = omega arith
rows_with_more s (x ∷ xs) zero = omega arith
rows_with_more s (x ∷ xs) (suc n) =
    let k = rows_with_more s xs n in
    let a = sizes-append (pair_rows s x) (rows_with s (take n xs)) in let b = sizes-append (pair_rows s x) (rows_with s (take (suc n) xs)) in omega (arith, k, a, b)

pub all_pairs_more : (xs : List Sum) (n : ℕ) → sizes (all_pairs (take n xs)) ≤ sizes (all_pairs (take (suc n) xs))
all_pairs_more [] zero = omega arith
all_pairs_more [] (suc n) = omega arith
all_pairs_more (x ∷ xs) zero = omega arith
all_pairs_more (x ∷ xs) (suc n) =
    let k = all_pairs_more xs n in let w = rows_with_more x xs n in
    let a = sizes-append (rows_with x (take n xs)) (all_pairs (take n xs)) in
    let b = sizes-append (rows_with x (take (suc n) xs)) (all_pairs (take (suc n) xs)) in omega (arith, k, w, a, b)
