-- An implication without terms whose constants are small is stopped by no number: its rows need no numbers but their constants.
use Rattle.std.proofs.Common.{◌≡◌, ℕ, zero, suc, pos, ◌+◌, ◌*◌, ◌<◌, ◌≤◌, ◌^◌, ◌⊎◌, inl, inr, arith, refl, sym, ap, subst, ◌∙◌, List, [], ◌∷◌, All, Some, None, length, slice_get, unsigned_abs}
use Rattle.std.specs.List.{AllByRecursion, Contains}
use Rattle.std.proofs.Math.IntN.{ℤ, neg_ℤ}
use Rattle.std.proofs.lemmas.Int.{ints}
use Rattle.lq_base_numbers.specs.Rationals.Rational.{ℚ, whole, ◌*ℚ◌, neg_ℚ}
use Rattle.lq_base_numbers.specs.Rationals.RationalQuotient.{◌/ℚ◌, /ℚ_is}
use Rattle.lq_base_numbers.specs.Rationals.Solver.{var, con, ◌⊗◌, solve}
use Rattle.lq_base_numbers.specs.Rationals.Whole.{whole_once}
use Rattle.lq_base_numbers.specs.Fractions.Past.{IsPast}
use Rattle.lq_base_numbers.specs.Fractions.Value.{value_of}
use Rattle.lq_base_numbers.specs.declared.fractions.past.NumberPast.{NumberPast}
use Rattle.lq_base_numbers.specs.declared.fractions.past.NumOp.{NumOp}
use Rattle.lq_base_numbers.specs.declared.fractions.past.NumOp.TheVariants.{Add, Div, Neg}
use Rattle.lq_logic_rows.specs.Forms.{Parts, IsNormal, times}
use Rattle.lq_logic_rows.specs.Row.{Row, Valuation, sum_at}
use Rattle.lq_logic_rows.specs.Steps.{IsStep}
use Rattle.lq_prover_pivots.specs.Pivots.Configurations.{Configuration}
use Rattle.lq_prover_pivots.specs.Pivots.Rows.{Variables, size, form}
use Rattle.lq_prover_pivots.specs.Pivots.Variables.{AreVariables}
use Rattle.lq_prover_pivots.proofs.CramerLemmas.Sizes.{within_same, within_neg}
use Rattle.lq_prover_pivots.specs.Work.Needs.{Needs, LowestWithin}
use Rattle.lq_prover_pivots.specs.Work.Sizes.{IsDivisor}
use Rattle.lq_prover_pivots.specs.Work.Work.{IsReading, IsEntry, IsForming, IsExchanging, IsPlace, IsMoving, IsSharing, IsWork}
use Rattle.lq_prover_pivots.proofs.WorkLemmas.Fits.{small_fit}
use Rattle.lq_prover_pivots.proofs.WorkLemmas.Over.{lowest_by, lowest_whole, sum_by, within_whole}
use Rattle.std.proofs.lemmas.List.Elements.{All-contains}
use Rattle.lq_prover_case.specs.State.Stored.{StopsInTableau}
use Rattle.lq_prover_proof_tree.specs.Trees.Path.{Fact, row_fact, flag_fact, objects_fact, never}
use Rattle.lq_prover_proof_tree.specs.Trees.Proves.{rows_among, rows_from}
use Rattle.lq_prover_differences.specs.Table.{constants}
use Rattle.lq_logic_rows.specs.declared.engine.LinearStop.TheVariants as linear
use Rattle.lq_logic_predicates.specs.ClosedImplication.{ClosedImplication, terms_in}
use Rattle.lq_logic_predicates.specs.Comparison.{row_constant}
use Rattle.lq_logic_predicates.specs.Literals.{implication_literals}
use Rattle.lq_logic_predicates.specs.declared.pred.Stop.TheVariants.{Number}
use Rattle.lq_logic_predicates.proofs.RowParts.{parts_within}
use Rattle.lq_logic_rows.specs.Difference.{IsDifference}
use Rattle.lq_prover_valid.specs.Stopping.{AreItsFacts, IsDifferenceImplication, IsItsRow, IsPastAtPoint, StopsOnFacts, StopsProving}
use Rattle.lq_prover_simplex.specs.Table.{untagged}
use Rattle.lq_prover_simplex.specs.Working.{IsWorkOver}
use Rattle.lq_prover_small_rows.proofs.Sums.{all_untagged, constants_are}
use Rattle.lq_prover_pivots.specs.Work.Sizes.{sum_of_constants}
use Rattle.lq_solve_strongest.specs.Weaken.Deciding.{IsBare}

-- rows without terms, with constants up to k
pub record AreBare (k : ℕ) (rows : List Row) : Type 0 where
  pub none : (row : Row) → Contains rows row → row.parts ≡ []
  pub constants : (row : Row) → Contains rows row → unsigned_abs row.constant ≤ k

no_times : (f : ℤ) (ps : Parts) → IsNormal ps → times f ps ≡ [] → ⊥
no_times f [] normal e = normal.above
no_times f (p ∷ ps) normal e = absurd (cc)

contains_at : (rows : List Row) (i : ℕ) (row : Row) → slice_get rows i ≡ Some row → Contains rows row
contains_at [] i row h = absurd (let q : None ≡ Some row = h in cc)
contains_at (r ∷ rows) zero row h = let q : r ≡ row = cc in (0, omega arith, q)
contains_at (r ∷ rows) (suc i) row h = let c = contains_at rows i row h in (suc c.0, (let l = c.1 in omega arith), c.2)

-- over no terms they have no variables
no_variables : (k : ℕ) (rows : List Row) (vs : Variables) → AreBare k rows → AreVariables rows vs → vs.terms ≡ 0 → (j : ℕ) → j < size vs → ⊥
no_variables k rows vs bare are none j l =
    let c = are.comes j (omega arith) l in
    let row = c.1.0 in
    no_times c.1.2.factor (form vs j) (are.normal j l) (sym c.1.2.is ∙ bare.none row (contains_at rows c.0 row c.1.1))

one_apart : ¬ (pos 1 ≡ pos 0)
one_apart e = absurd (let k : ⊥ = cc in k)

whole_one_apart : ¬ (whole (pos 1) ≡ whole (pos 0))
whole_one_apart e = one_apart (whole_once (pos 1) (pos 0) e)

-- a whole number over 1
over_one : (k : ℕ) (z : ℤ) → unsigned_abs z ≤ k → LowestWithin k 1 (whole z /ℚ whole (pos 1))
over_one k z h =
    lowest_by k 1 (whole z /ℚ whole (pos 1)) (pos 1) one_apart (omega arith)
    (within_same k (whole z /ℚ whole (pos 1) *ℚ whole (pos 1)) (whole z) (/ℚ_is (whole z) (whole (pos 1)) whole_one_apart) (within_whole k z h))

one_is : whole (pos 1) /ℚ whole (pos 1) ≡ whole (pos 1)
one_is =
    solve ((whole (pos 1) /ℚ whole (pos 1)) ∷ []) (var 0) (var 0 ⊗ con (pos 1)) refl ∙ /ℚ_is (whole (pos 1)) (whole (pos 1)) whole_one_apart

negated : (k : ℕ) (z : ℤ) → unsigned_abs z ≤ k → LowestWithin k 1 (neg_ℚ (whole z))
negated k z h = lowest_whole k 1 (neg_ℚ (whole z)) (omega arith) (within_neg k (whole z) (within_whole k z h))

divisor_one : (parts : Parts) (g : ℕ) → parts ≡ [] → IsDivisor parts g → g ≡ 1
divisor_one parts g e is = let h : IsDivisor [] g = subst (λ (ps : Parts). IsDivisor ps g) e is in h

no_part : (parts : Parts) (i term : ℕ) (z : ℤ) → parts ≡ [] → slice_get parts i ≡ Some (term, z) → ⊥
no_part parts i term z e at = absurd (let q : None ≡ Some (term, z) = subst (λ (ps : Parts). slice_get ps i ≡ Some (term, z)) e at in cc)

turned_size : (z c : ℤ) (k : ℕ) → (z ≡ c) ⊎ (z ≡ neg_ℤ c) → unsigned_abs c ≤ k → unsigned_abs z ≤ k
turned_size z c k (inl e) h = subst (λ t. unsigned_abs t ≤ k) (sym e) h
turned_size z c k (inr e) h = subst (λ t. unsigned_abs t ≤ k) (sym e) (let same : unsigned_abs (neg_ℤ c) ≤ unsigned_abs c = omega (arith, ints) in omega arith)

bare_reading : (k : ℕ) (rows : List Row) → AreBare k rows → (op : NumOp) (x y : ℚ) → IsReading rows op x y → Needs (k + 1) 1 op x y
bare_reading k rows bare _ _ _ (IsReading.negated_constant row there) = negated (k + 1) row.constant (let c = bare.constants row there in omega arith)
bare_reading k rows bare _ _ _ (IsReading.negated_coefficient row i term z there at) = absurd (no_part row.parts i term z (bare.none row there) at)
bare_reading k rows bare _ _ _ (IsReading.bound row g z there is either) =
    let one : g ≡ 1 = divisor_one row.parts g (bare.none row there) is in
    subst (λ h. Needs (k + 1) 1 Div (whole z) (whole (pos h))) (sym one)
    (over_one (k + 1) z (let c = turned_size z row.constant k either (bare.constants row there) in omega arith))

bare_step : (k : ℕ) (v : Valuation) (row : Row) → row.parts ≡ [] → unsigned_abs row.constant ≤ k → (op : NumOp) (x y : ℚ) → IsStep v row op x y → Needs (k + 1) 1 op x y
bare_step k v row e h _ _ _ (IsStep.member_product i t z at) = absurd (no_part row.parts i t z e at)
bare_step k v row e h _ _ _ (IsStep.member_sum i t z at) = absurd (no_part row.parts i t z e at)
bare_step k v row e h _ _ _ IsStep.constant_sum =
    subst (λ (ps : Parts). Needs (k + 1) 1 Add (sum_at v ps) (whole row.constant)) (sym e)
    (sum_by (k + 1) 1 0 k (whole (pos 0)) (whole row.constant) (pos 1) one_apart (omega arith)
    (within_same 0 (whole (pos 0) *ℚ whole (pos 1)) (whole (pos 0)) (solve [] (con (pos 0) ⊗ con (pos 1)) (con (pos 0)) refl) (within_whole 0 (pos 0) (omega arith)))
    (within_same k (whole row.constant *ℚ whole (pos 1)) (whole row.constant) (solve (whole row.constant ∷ []) (var 0 ⊗ con (pos 1)) (var 0) refl) (within_whole k row.constant h))
    (omega arith))

module _ (k : ℕ) (rows : List Row) (vs : Variables) (c : Configuration) (bare : AreBare k rows) (none : (j : ℕ) → j < size vs → ⊥) where
  no_entry : (x : ℚ) → IsEntry vs c x → ⊥
  no_entry x e = none e.variable e.inside

  no_place : (x : ℚ) → IsPlace vs rows c x → ⊥
  no_place x (IsPlace.value j l e) = none j l
  no_place x (IsPlace.bound side j g) = none j g.inside

  no_forming : (op : NumOp) (x y : ℚ) → IsForming vs c op x y → ⊥
  no_forming op x y (IsForming.entries m j l f s) = none m l
  no_forming op x y (IsForming.values m l s) = none m l

  no_exchanging : (op : NumOp) (x y : ℚ) → IsExchanging vs c op x y → ⊥
  no_exchanging _ _ _ (IsExchanging.quotient x y d e n) = no_entry y e
  no_exchanging _ _ _ (IsExchanging.negation q h) = no_entry h.right h.divisor
  no_exchanging _ _ _ (IsExchanging.left_product q e s h) = no_entry e h
  no_exchanging _ _ _ (IsExchanging.right_product q e s h) = no_entry e h
  no_exchanging _ _ _ (IsExchanging.sum x q e g s h) = no_entry x g
  no_exchanging _ _ _ (IsExchanging.difference x q e g s h) = no_entry x g

  no_moving : (op : NumOp) (x y : ℚ) → IsMoving vs rows c op x y → ⊥
  no_moving _ _ _ (IsMoving.difference u v p q) = no_place u p
  no_moving _ _ _ (IsMoving.quotient u v e p q h n) = no_place u p
  no_moving _ _ _ (IsMoving.left_product w e p h) = no_entry e h
  no_moving _ _ _ (IsMoving.right_product w e p h) = no_entry e h
  no_moving _ _ _ (IsMoving.sum j x l m) = none j l

  bare_sharing : (op : NumOp) (x y : ℚ) → IsSharing vs rows c op x y → Needs (k + 1) 1 op x y
  bare_sharing _ _ _ (IsSharing.quotient row g x there is (inl one)) =
      let g_one : g ≡ 1 = divisor_one row.parts g (bare.none row there) is in
      subst (λ h. Needs (k + 1) 1 Div x (whole (pos h))) (sym g_one)
      (subst (λ t. Needs (k + 1) 1 Div t (whole (pos 1))) (sym one) (over_one (k + 1) (pos 1) (omega arith)))
  bare_sharing _ _ _ (IsSharing.quotient row g x there is (inr e)) = absurd (no_entry x e)
  bare_sharing _ _ _ (IsSharing.negation row g x q there is (inl one) same) =
      let g_one : g ≡ 1 = divisor_one row.parts g (bare.none row there) is in
      let q_one : q ≡ whole (pos 1) = same ∙ ap (λ t. t /ℚ whole (pos g)) one ∙ ap (λ h. whole (pos 1) /ℚ whole (pos h)) g_one ∙ one_is in
      subst (λ t. Needs (k + 1) 1 Neg t t) (sym q_one) (negated (k + 1) (pos 1) (omega arith))
  bare_sharing _ _ _ (IsSharing.negation row g x q there is (inr e) same) = absurd (no_entry x e)

  bare_work : (op : NumOp) (x y : ℚ) → IsWork vs rows c op x y → Needs (k + 1) 1 op x y
  bare_work op x y (IsWork.reading w) = bare_reading k rows bare op x y w
  bare_work op x y (IsWork.forming w) = absurd (no_forming op x y w)
  bare_work op x y (IsWork.exchanging w) = absurd (no_exchanging op x y w)
  bare_work op x y (IsWork.moving w) = absurd (no_moving op x y w)
  bare_work op x y (IsWork.sharing w) = bare_sharing op x y w
  bare_work op x y (IsWork.level w) = bare_step k c.value w.row (bare.none w.row w.there) (bare.constants w.row w.there) op x y w.step
  bare_work op x y (IsWork.whole_level w) = bare_step k w.values w.row (bare.none w.row w.there) (bare.constants w.row w.there) op x y w.step

pub bare_work_needs : (k : ℕ) (rows : List Row) → AreBare k rows → (op : NumOp) (x y : ℚ) → IsWorkOver 0 rows op x y → Needs (k + 1) 1 op x y
bare_work_needs k rows bare op x y (IsWorkOver.reading w) = bare_reading k rows bare op x y w
bare_work_needs k rows bare op x y (IsWorkOver.at vs c over are is w) = bare_work k rows vs c bare (no_variables k rows vs bare are over) op x y w

-- so none of it is past 128 bits
pub bare_work_fits : (k : ℕ) (rows : List Row) (e : NumberPast) → AreBare k rows → k + 1 < 2 ^ 127 → IsWorkOver 0 rows e.op (value_of e.left) (value_of e.right) → ¬ IsPast e
bare_work_fits k rows e bare l w = small_fit (k + 1) 1 e l (omega arith) (bare_work_needs k rows bare e.op (value_of e.left) (value_of e.right) w)

-- nor is a row at values
pub bare_level_fits : (k : ℕ) (v : Valuation) (row : Row) (e : NumberPast) → row.parts ≡ [] → unsigned_abs row.constant ≤ k → k + 1 < 2 ^ 127
    → IsStep v row e.op (value_of e.left) (value_of e.right) → ¬ IsPast e
bare_level_fits k v row e none h l step = small_fit (k + 1) 1 e l (omega arith) (bare_step k v row none h e.op (value_of e.left) (value_of e.right) step)

-- ---- an implication
no_parts : (parts : Parts) → AllByRecursion (λ part. part.0 < 0) parts → parts ≡ []
no_parts [] h = refl
no_parts (p ∷ ps) h = absurd (let l = h.0 in omega (arith, l))

bare_row : (i : ClosedImplication) → IsBare i → (r : Row) → IsItsRow i r → (r.parts ≡ []) × (unsigned_abs r.constant ≤ 2 ^ 40)
bare_row i bare r its =
    let none : length (terms_in i) ≡ 0 = ap length bare.terms in (
      no_parts r.parts (parts_within 0 0 r.parts its.is.formed.ascending its.is.formed.nonzero (λ q l. its.is.within q (omega (arith, none)))),
      subst (λ z. unsigned_abs z ≤ 2 ^ 40) (sym its.is.constant)
          (All-contains (λ c. unsigned_abs (row_constant c) ≤ 2 ^ 40) (implication_literals i) its.literal bare.constants its.among),
    )

bare_rows : (i : ClosedImplication) → IsBare i → (rows : List Row) → All (IsItsRow i) rows → AreBare (2 ^ 40) rows
bare_rows i bare rows each = record {
  none = λ r there. (bare_row i bare r (All-contains (IsItsRow i) rows r each there)).0;
  constants = λ r there. (bare_row i bare r (All-contains (IsItsRow i) rows r each there)).1;
}

tail_in : (row : Row) (rows : List Row) (r : Row) → Contains rows r → Contains (row ∷ rows) r
tail_in row rows r there = let l = there.1 in (suc there.0, omega arith, there.2)

rows_short : (n : ℕ) (fs : List Fact) → length (untagged (rows_from n fs)) ≤ length fs
rows_short n [] = omega arith
rows_short n (row_fact r ∷ fs) = let k = rows_short (suc n) fs in omega (arith, k)
rows_short n (flag_fact x value ∷ fs) = let k = rows_short (suc n) fs in omega (arith, k)
rows_short n (objects_fact a b one ∷ fs) = let k = rows_short (suc n) fs in omega (arith, k)
rows_short n (never ∷ fs) = let k = rows_short (suc n) fs in omega (arith, k)

sum_most : (k : ℕ) (rows : List Row) → ((r : Row) → Contains rows r → unsigned_abs r.constant ≤ k) → sum_of_constants rows ≤ length rows * k
sum_most k [] h = omega arith
sum_most k (row ∷ rows) h = let a = h row (0, omega arith, refl) in let b = sum_most k rows (λ r there. h r (tail_in row rows r there)) in omega arith

-- the constants of few facts sum to less than the limit of the distances
facts_small : (i : ClosedImplication) → IsBare i → (facts : List Fact) → AreItsFacts i facts → length facts < 2 ^ 64 → constants (rows_among facts) < 2 ^ 104
facts_small i bare facts its few =
    let rows : List Row = untagged (rows_among facts) in
    let same = constants_are (rows_among facts) in
    let most = sum_most (2 ^ 40) rows (λ r there. (bare_row i bare r (all_untagged (IsItsRow i) (rows_among facts) its.each r there)).1) in
    let short = rows_short 1 facts in
    omega (arith, same, most, short)

in_tableau : (i : ClosedImplication) (limit : ℕ) (e : NumberPast) → IsBare i → StopsInTableau (length (terms_in i)) limit [] (IsItsRow i) (linear.Number e) → ⊥
in_tableau i limit e bare s =
    let none : length (terms_in i) ≡ 0 = ap length bare.terms in
    bare_work_fits (2 ^ 40) s.more e (bare_rows i bare s.more s.each) (omega arith)
    (subst (λ n. IsWorkOver n s.more e.op (value_of e.left) (value_of e.right)) none s.stops.1) s.stops.0

pub bare_number : (limit : ℕ) (i : ClosedImplication) (e : NumberPast) → IsBare i → StopsProving limit i (Number e) → ⊥
bare_number limit i e bare stops = by stops.1
  where
    on : StopsOnFacts limit i (linear.Number e) → ⊥
    on s = elim s.stops.any [
      | inl d ↦ let large = d.1 in let small = facts_small i bare s.facts s.are s.few in absurd (omega (arith, large, small))
      | inr t ↦ in_tableau i limit e bare t
    ]

    at : IsPastAtPoint i e → ⊥
    at p =
        let r = bare_row i bare p.step.its_row (record { literal = p.step.literal; among = p.step.among; is = p.step.is }) in
        bare_level_fits (2 ^ 40) _ p.step.its_row e r.0 r.1 (omega arith) p.step.step p.past

    by : StopsOnFacts limit i (linear.Number e) ⊎ IsPastAtPoint i e → ⊥
    by (inl s) = on s
    by (inr p) = at p

-- each row without terms is a difference row
pub bare_differences : (i : ClosedImplication) → IsBare i → IsDifferenceImplication i
bare_differences i bare c r among is =
    subst IsDifference (sym (bare_row i bare r (record { literal = c; among = among; is = is })).0) tt
