-- What the sizes of constants sum to for the pairs of terms: no more for fewer terms, in whatever order.
use Rattle.std.proofs.Common.{◌≡◌, ◌⊎◌, inl, inr, ℕ, ℤ, pos, ◌+◌, ◌≤◌, ◌==◌, arith, refl, sym, ap, subst, ◌∙◌, Bool, true, false, not, List, [], ◌∷◌, ◌++◌, if◌then◌else◌, unsigned_abs}
use Rattle.std.proofs.Math.IntN.{◌+ℤ◌, ◌-ℤ◌}
use Rattle.std.proofs.lemmas.Bool.{and_parts, eq-eqb, ne_eqb, not-true, or_cases, or_left, or_right}
use Rattle.std.proofs.lemmas.Int.{ints}
use Rattle.lq_prover_pivots.proofs.CramerLemmas.Places.{eqb_by}
use Rattle.lq_prover_proof_tree.specs.Literals.Gathered.{sizes}
use Rattle.lq_base_names.specs.declared.name.Name.{Name}
use Rattle.lq_refined_types.proofs.PartsLemmas.Flows.{Sublist, drop, keep, nil}
use Rattle.lq_logic_predicates.specs.Comparison.{Comparison, row_constant}
use Rattle.lq_logic_predicates.specs.Formula.{Formula}
use Rattle.lq_logic_predicates.specs.LinearForm.{constant_of}
use Rattle.lq_logic_predicates.specs.Literals.{all_pairs, condition_rows, equal_row, pair_rows, rows_with}
use Rattle.lq_logic_predicates.specs.Numbering.{has_term-here}
use Rattle.lq_logic_predicates.specs.SameLaws.{same-is, same-refl}
use Rattle.lq_logic_predicates.specs.Sum.{Sum, whole, var, neg, add, sub, mul, div, rem, len, measure, same}
use Rattle.lq_logic_predicates.specs.Table.{all_differ, has_term}
use Rattle.lq_solve_strongest.proofs.SelectionsLemmas.Terms.{Under}

pub sizes_append : (cs ds : List Comparison) → sizes (cs ++ ds) ≡ sizes cs + sizes ds
sizes_append [] ds = (let e : sizes ds ≡ 0 + sizes ds = omega arith in e)
sizes_append (c ∷ cs) ds =
    let h = sizes_append cs ds in
    let e : unsigned_abs (row_constant c) + sizes (cs ++ ds) ≡ unsigned_abs (row_constant c) + sizes cs + sizes ds = omega (arith, h) in e

-- ---- the rows of two terms, the other way round

abbrev weight : Sum → Sum → ℕ
weight s t = sizes (pair_rows s t)

equal_size : (a b : Sum) → unsigned_abs (row_constant (equal_row a b)) ≡ unsigned_abs (row_constant (equal_row b a))
equal_size a b = turned (constant_of a) (constant_of b)
  where
    turned : (x y : ℤ) → unsigned_abs (x -ℤ y +ℤ pos 0) ≡ unsigned_abs (y -ℤ x +ℤ pos 0)
    turned x y = omega (arith, ints)

seven : (e f g x y z w e' f' g' : ℕ) → e ≡ e' → f ≡ f' → g ≡ g' → e + (f + (g + (x + (y + (z + (w + 0)))))) ≡ e' + (f' + (g' + (y + (x + (w + (z + 0))))))
seven e f g x y z w e' f' g' h k l = omega (arith, h, k, l)

condition_weight : (s a b t c d : Sum) → sizes (condition_rows s a b t c d) ≡ sizes (condition_rows t c d s a b)
condition_weight s a b t c d = seven _ _ _ _ _ _ _ _ _ _ (equal_size a c) (equal_size b d) (equal_size s t)

alone_weight : (s t : Sum) → sizes (equal_row s t ∷ []) ≡ sizes (equal_row t s ∷ [])
alone_weight s t = ap (λ n. n + 0) (equal_size s t)

measure_weight : (f g : Name) (a b : Sum)
    → sizes (if f.0 == g.0 then equal_row (measure f a) (measure g b) ∷ [] else []) ≡ sizes (if g.0 == f.0 then equal_row (measure g b) (measure f a) ∷ [] else [])
measure_weight f g a b =
    eqb_by f.0 g.0
    (λ q e. ap (λ x. sizes (if x then equal_row (measure f a) (measure g b) ∷ [] else [])) q ∙ alone_weight (measure f a) (measure g b)
    ∙ ap (λ x. sizes (if x then equal_row (measure g b) (measure f a) ∷ [] else [])) (sym (eq-eqb g.0 f.0 (sym e))))
    (λ q e. ap (λ x. sizes (if x then equal_row (measure f a) (measure g b) ∷ [] else [])) q
    ∙ ap (λ x. sizes (if x then equal_row (measure g b) (measure f a) ∷ [] else [])) (sym (ne_eqb g.0 f.0 (λ k. e (sym k)))))

weight_turns : (s t : Sum) → weight s t ≡ weight t s
weight_turns (mul a b) (mul c d) = condition_weight (mul a b) a b (mul c d) c d
weight_turns (mul a b) _ = refl
weight_turns (div a b) (div c d) = condition_weight (div a b) a b (div c d) c d
weight_turns (div a b) _ = refl
weight_turns (rem a b) (rem c d) = condition_weight (rem a b) a b (rem c d) c d
weight_turns (rem a b) _ = refl
weight_turns (len a) (len b) = alone_weight (len a) (len b)
weight_turns (len a) _ = refl
weight_turns (measure f a) (measure g b) = measure_weight f g a b
weight_turns (measure f a) _ = refl
weight_turns (whole n) (mul c d) = refl
weight_turns (whole n) _ = refl
weight_turns (var x) (mul c d) = refl
weight_turns (var x) _ = refl
weight_turns (neg a) (mul c d) = refl
weight_turns (neg a) _ = refl
weight_turns (add a b) (mul c d) = refl
weight_turns (add a b) _ = refl
weight_turns (sub a b) (mul c d) = refl
weight_turns (sub a b) _ = refl

-- ---- sums over terms

abbrev row_weight : Sum → List Sum → ℕ
row_weight s ts = sizes (rows_with s ts)

abbrev pair_weight : List Sum → ℕ
pair_weight ts = sizes (all_pairs ts)

more_row : (s t : Sum) (ts : List Sum) → row_weight s (t ∷ ts) ≡ weight s t + row_weight s ts
more_row s t ts = sizes_append (pair_rows s t) (rows_with s ts)

more_pairs : (s : Sum) (ts : List Sum) → pair_weight (s ∷ ts) ≡ row_weight s ts + pair_weight ts
more_pairs s ts = sizes_append (rows_with s ts) (all_pairs ts)

-- without the first place where the term stands
abbrev without : Sum → List Sum → List Sum
without s [] = []
without s (u ∷ us) = if same s u then us else u ∷ without s us

still_there : (s x : Sum) (us : List Sum) → has_term us x ≡ true → same x s ≡ false → has_term (without s us) x ≡ true
still_there s x [] h n = h
still_there s x (u ∷ us) h n = by (same s u) refl (or_cases (same x u) (has_term us x) h) (λ k. still_there s x us k n)
  where
    by : (b : Bool) → same s u ≡ b → (same x u ≡ true) ⊎ (has_term us x ≡ true) → (has_term us x ≡ true → has_term (without s us) x ≡ true)
        → has_term (if b then us else u ∷ without s us) x ≡ true
    by true e (inl k) f =
        let is : x ≡ s = same-is x u k ∙ sym (same-is s u e) in
        let yes : same x s ≡ true = subst (λ y. same x y ≡ true) is (same-refl x) in absurd (cc)
    by true e (inr k) f = k
    by false e (inl k) f = or_left (same x u) (has_term (without s us) x) k
    by false e (inr k) f = or_right (same x u) (has_term (without s us) x) (f k)

row_without : (x s : Sum) (us : List Sum) → has_term us s ≡ true → row_weight x us ≡ weight x s + row_weight x (without s us)
row_without x s [] h = absurd (cc)
row_without x s (u ∷ us) h = by (same s u) refl (or_cases (same s u) (has_term us s) h) (row_without x s us)
  where
    by : (b : Bool) → same s u ≡ b → (same s u ≡ true) ⊎ (has_term us s ≡ true) → (has_term us s ≡ true → row_weight x us ≡ weight x s + row_weight x (without s us))
        → row_weight x (u ∷ us) ≡ weight x s + row_weight x (if b then us else u ∷ without s us)
    by true e k f = more_row x u us ∙ ap (λ y. weight x y + row_weight x us) (sym (same-is s u e))
    by false e (inl k) f = absurd (cc)
    by false e (inr k) f =
        let first = more_row x u us in
        let rest = f k in
        let second = more_row x u (without s us) in
        omega (arith, first, rest, second)

pairs_without : (s : Sum) (us : List Sum) → has_term us s ≡ true → pair_weight us ≡ row_weight s (without s us) + pair_weight (without s us)
pairs_without s [] h = absurd (cc)
pairs_without s (u ∷ us) h = by (same s u) refl (or_cases (same s u) (has_term us s) h) (pairs_without s us)
  where
    by : (b : Bool) → same s u ≡ b → (same s u ≡ true) ⊎ (has_term us s ≡ true) → (has_term us s ≡ true → pair_weight us ≡ row_weight s (without s us) + pair_weight (without s us))
        → pair_weight (u ∷ us) ≡ row_weight s (if b then us else u ∷ without s us) + pair_weight (if b then us else u ∷ without s us)
    by true e k f = more_pairs u us ∙ ap (λ y. row_weight y us + pair_weight us) (sym (same-is s u e))
    by false e (inl k) f = absurd (cc)
    by false e (inr k) f =
        let first = more_pairs u us in
        let row = row_without u s us k in
        let rest = f k in
        let second = more_row s u (without s us) in
        let third = more_pairs u (without s us) in
        let turns = weight_turns u s in
        omega (arith, first, row, rest, second, third, turns)

-- ---- fewer terms

differs : (s : Sum) (ts : List Sum) → not (has_term ts s) ≡ true → (x : Sum) → has_term ts x ≡ true → same x s ≡ false
differs s ts d x h = by (same x s) refl
  where
    by : (b : Bool) → same x s ≡ b → b ≡ false
    by true e =
        let no : has_term ts s ≡ false = not-true (has_term ts s) d in
        let yes : has_term ts s ≡ true = subst (λ y. has_term ts y ≡ true) (same-is x s e) h in absurd (cc)
    by false e = refl

tail_under : (s : Sum) (ts us : List Sum) → all_differ (s ∷ ts) ≡ true → Under (s ∷ ts) us → Under ts (without s us)
tail_under s ts us d h x k =
    still_there s x us (h x (or_right (same x s) (has_term ts x) k)) (differs s ts (and_parts (not (has_term ts s)) (all_differ ts) d).0 x k)

row_fewer : (x : Sum) (ts us : List Sum) → all_differ ts ≡ true → Under ts us → row_weight x ts ≤ row_weight x us
row_fewer x [] us d h = omega arith
row_fewer x (s ∷ ts) us d h =
    let rest = row_fewer x ts (without s us) (and_parts (not (has_term ts s)) (all_differ ts) d).1 (tail_under s ts us d h) in
    let first = more_row x s ts in
    let second = row_without x s us (h s (has_term-here s ts)) in
    omega (arith, rest, first, second)

pub pairs_fewer : (ts us : List Sum) → all_differ ts ≡ true → Under ts us → sizes (all_pairs ts) ≤ sizes (all_pairs us)
pairs_fewer [] us d h = omega arith
pairs_fewer (s ∷ ts) us d h =
    let e = (and_parts (not (has_term ts s)) (all_differ ts) d).1 in
    let u = tail_under s ts us d h in
    let rest = pairs_fewer ts (without s us) e u in
    let row = row_fewer s ts (without s us) e u in
    let first = more_pairs s ts in
    let second = pairs_without s us (h s (has_term-here s ts)) in
    omega (arith, rest, row, first, second)

-- ---- fewer predicates

pub each_fewer : (L : Formula → List Comparison) (E : List Formula → List Comparison) → ((q : Formula) (qs : List Formula) → E (q ∷ qs) ≡ L q ++ E qs) → (ps qs : List Formula)
    → Sublist ps qs → sizes (E ps) ≤ sizes (E qs)
each_fewer L E step _ _ nil = omega arith
each_fewer L E step _ _ (drop {ps = ps} {qs = qs} {q = q} s) =
    let rest = each_fewer L E step ps qs s in
    let e = ap sizes (step q qs) ∙ sizes_append (L q) (E qs) in
    omega (arith, rest, e)
each_fewer L E step _ _ (keep {ps = ps} {qs = qs} {q = q} s) =
    let rest = each_fewer L E step ps qs s in
    let e = ap sizes (step q qs) ∙ sizes_append (L q) (E qs) in
    let f = ap sizes (step q ps) ∙ sizes_append (L q) (E ps) in
    omega (arith, rest, e, f)
