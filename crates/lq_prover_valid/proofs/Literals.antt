-- The literals that an implication's readings take are its own, and so are the sizes of their constants.
use Rattle.std.proofs.Common.{◌≡◌, inl, inr, ℕ, zero, suc, ◌+◌, ◌<◌, ◌≤◌, Bool, true, false, List, [], ◌∷◌, ◌++◌, Some, cond, max, slice_get, refl, ap, subst, arith, unsigned_abs}
use Rattle.std.specs.List.{Contains, filter}
use Rattle.std.proofs.lemmas.List.Elements.{Contains-append_left, Contains-append_right, Contains-push}
use Rattle.lq_prover_case.specs.Equations.Equating.{AreOneFunction, applied, equation}
use Rattle.lq_prover_case.proofs.EquationsLemmas.Pairing.{equation_among}
use Rattle.lq_logic_rows.specs.Row.{Row}
use Rattle.lq_prover_proof_tree.specs.Literals.Gathered.{sizes}
use Rattle.lq_prover_proof_tree.specs.Literals.Parts.{is_application}
use Rattle.lq_base_names.specs.declared.operation.CompareOp.{CompareOp}
use Rattle.lq_base_names.specs.declared.operation.CompareOp.TheVariants as op
use Rattle.lq_logic_predicates.specs.Comparison.{Comparison, IsRowOf, row_constant}
use Rattle.lq_logic_predicates.specs.Formula.{Formula, truth, falsity, flag, compare, objects, negation, conjunction, disjunction, equivalence}
use Rattle.lq_logic_predicates.specs.Literals.{Signs, positive, negative, both, literals_of, comparisons_of, comparisons_in, all_pairs, equal_row, pair_rows, rows_with}
use Rattle.lq_logic_predicates.specs.Reading.{Reading, Readings, comparison_reading, reading_of, Gathers, AllGather, gathers_yes, gathers_no, gathers_row, gathers_flag, gathers_objects, gathers_all, gathers_any, gather_none, gather_more}
use Rattle.lq_logic_predicates.specs.Sum.{Sum}
use Rattle.lq_logic_points.proofs.Literal.{Sub}
use Rattle.lq_prover_search.specs.Search.Sizes.{most, most_of_all, most_of_any, row_size}
use Rattle.lq_prover_search.specs.Search.Stopping.{AnyHasRow, HasRow}
use Rattle.lq_prover_search.proofs.SearchLemmas.PairSizes.{sizes-append}
use Rattle.lq_prover_valid.specs.Stopping.{IsRowIn}

abbrev pub comparison_size : Comparison → ℕ
comparison_size c = unsigned_abs (row_constant c)

-- ---- what is gathered has the sizes of the comparisons

mutual
  pub gathered_most : (terms : List Sum) (c : Reading Comparison) (r : Reading Row) → Gathers terms c r → most row_size r ≡ most comparison_size c
  gathered_most terms _ _ gathers_yes = refl
  gathered_most terms _ _ gathers_no = refl
  gathered_most terms _ _ (gathers_row c r i) = ap unsigned_abs i.constant
  gathered_most terms _ _ (gathers_flag x sign) = refl
  gathered_most terms _ _ (gathers_objects a b sign) = refl
  gathered_most terms _ _ (gathers_all cs rs g) = all_gathered_most terms cs rs g
  gathered_most terms _ _ (gathers_any cs rs g) = any_gathered_most terms cs rs g

  all_gathered_most : (terms : List Sum) (cs : Readings Comparison) (rs : Readings Row) → AllGather terms cs rs → most_of_all row_size rs ≡ most_of_all comparison_size cs
  all_gathered_most terms _ _ gather_none = refl
  all_gathered_most terms _ _ (gather_more c cs r rs g gs) =
      let a = gathered_most terms c r g in let b = all_gathered_most terms cs rs gs in omega (arith, a, b)

  any_gathered_most : (terms : List Sum) (cs : Readings Comparison) (rs : Readings Row) → AllGather terms cs rs → most_of_any row_size rs ≡ most_of_any comparison_size cs
  any_gathered_most terms _ _ gather_none = refl
  any_gathered_most terms _ _ (gather_more c cs r rs g gs) =
      let a = gathered_most terms c r g in let b = any_gathered_most terms cs rs gs in omega (arith, a, b)

-- ---- a reading has no larger sizes than the literals

abbrev signs_of : Bool → Signs
signs_of true = positive
signs_of false = negative

compared : (sign : Bool) (o : CompareOp) (a b : Sum) → most comparison_size (comparison_reading sign o a b) ≤ sizes (literals_of (signs_of sign) (compare o a b))
compared true op.Eq a b = omega arith
compared true op.Ne a b = omega arith
compared true op.Lt a b = omega arith
compared true op.Le a b = omega arith
compared true op.Gt a b = omega arith
compared true op.Ge a b = omega arith
compared false op.Eq a b = omega arith
compared false op.Ne a b = omega arith
compared false op.Lt a b = omega arith
compared false op.Le a b = omega arith
compared false op.Gt a b = omega arith
compared false op.Ge a b = omega arith

abbrev pub Most : Bool → Formula → ℕ
Most sign p = most comparison_size (reading_of sign p)

-- of two readings, one or both taken
two : (a b : ℕ) (xs ys : List Comparison) → a ≤ sizes xs → b ≤ sizes ys → (a + (b + 0) ≤ sizes (xs ++ ys)) × (max a (max b 0) ≤ sizes (xs ++ ys))
two a b xs ys h k = let e = sizes-append xs ys in (omega (arith, h, k, e), omega (arith, h, k, e))

four : (a b c d : ℕ) (xs ys : List Comparison) → a ≤ sizes xs → b ≤ sizes ys → c ≤ sizes xs → d ≤ sizes ys
    → max (a + (b + 0)) (max (c + (d + 0)) 0) ≤ sizes (xs ++ ys)
four a b c d xs ys h k l m = let e = sizes-append xs ys in omega (arith, h, k, l, m, e)

under_both : (sign : Bool) (p : Formula) → Most sign p ≤ sizes (literals_of both p)
under_both true truth = omega arith
under_both false truth = omega arith
under_both true falsity = omega arith
under_both false falsity = omega arith
under_both true (flag x) = omega arith
under_both false (flag x) = omega arith
under_both true (compare o a b) =
    let h = compared true o a b in let e = sizes-append (literals_of positive (compare o a b)) (literals_of negative (compare o a b)) in omega (arith, h, e)
under_both false (compare o a b) =
    let h = compared false o a b in let e = sizes-append (literals_of positive (compare o a b)) (literals_of negative (compare o a b)) in omega (arith, h, e)
under_both true (objects a b) = omega arith
under_both false (objects a b) = omega arith
under_both true (negation p) = under_both false p
under_both false (negation p) = under_both true p
under_both true (conjunction p q) = (two (Most true p) (Most true q) (literals_of both p) (literals_of both q) (under_both true p) (under_both true q)).0
under_both false (conjunction p q) = (two (Most false p) (Most false q) (literals_of both p) (literals_of both q) (under_both false p) (under_both false q)).1
under_both true (disjunction p q) = (two (Most true p) (Most true q) (literals_of both p) (literals_of both q) (under_both true p) (under_both true q)).1
under_both false (disjunction p q) = (two (Most false p) (Most false q) (literals_of both p) (literals_of both q) (under_both false p) (under_both false q)).0
under_both true (equivalence p q) =
    four (Most true p) (Most true q) (Most false p) (Most false q) (literals_of both p) (literals_of both q) (under_both true p) (under_both true q) (under_both false p) (under_both false q)
under_both false (equivalence p q) =
    four (Most true p) (Most false q) (Most false p) (Most true q) (literals_of both p) (literals_of both q) (under_both true p) (under_both false q) (under_both false p) (under_both true q)

pub under_sign : (sign : Bool) (p : Formula) → Most sign p ≤ sizes (literals_of (signs_of sign) p)
under_sign true truth = omega arith
under_sign false truth = omega arith
under_sign true falsity = omega arith
under_sign false falsity = omega arith
under_sign true (flag x) = omega arith
under_sign false (flag x) = omega arith
under_sign true (compare o a b) = compared true o a b
under_sign false (compare o a b) = compared false o a b
under_sign true (objects a b) = omega arith
under_sign false (objects a b) = omega arith
under_sign true (negation p) = under_sign false p
under_sign false (negation p) = under_sign true p
under_sign true (conjunction p q) = (two (Most true p) (Most true q) (literals_of positive p) (literals_of positive q) (under_sign true p) (under_sign true q)).0
under_sign false (conjunction p q) = (two (Most false p) (Most false q) (literals_of negative p) (literals_of negative q) (under_sign false p) (under_sign false q)).1
under_sign true (disjunction p q) = (two (Most true p) (Most true q) (literals_of positive p) (literals_of positive q) (under_sign true p) (under_sign true q)).1
under_sign false (disjunction p q) = (two (Most false p) (Most false q) (literals_of negative p) (literals_of negative q) (under_sign false p) (under_sign false q)).0
under_sign true (equivalence p q) =
    four (Most true p) (Most true q) (Most false p) (Most false q) (literals_of both p) (literals_of both q) (under_both true p) (under_both true q) (under_both false p) (under_both false q)
under_sign false (equivalence p q) =
    four (Most true p) (Most false q) (Most false p) (Most true q) (literals_of both p) (literals_of both q) (under_both true p) (under_both false q) (under_both false p) (under_both true q)

-- ---- the rows of a reading

pub row_in_more : (terms : List Sum) (xs ys : List Comparison) (r : Row) → Sub xs ys → IsRowIn terms xs r → IsRowIn terms ys r
row_in_more terms xs ys r f h = record { literal = h.literal; among = f h.literal h.among; is = h.is }

mutual
  pub gathered_row : (terms : List Sum) (c : Reading Comparison) (g : Reading Row) (r : Row) → Gathers terms c g → HasRow r g → IsRowIn terms (comparisons_of c) r
  gathered_row terms _ _ r gathers_yes h = absurd h
  gathered_row terms _ _ r gathers_no h = absurd h
  gathered_row terms _ _ r (gathers_row c q i) h = record { literal = c; among = Contains-push [] c; is = subst (IsRowOf terms c) h i }
  gathered_row terms _ _ r (gathers_flag x sign) h = absurd h
  gathered_row terms _ _ r (gathers_objects a b sign) h = absurd h
  gathered_row terms _ _ r (gathers_all cs rs g) h = any_gathered_row terms cs rs r g h
  gathered_row terms _ _ r (gathers_any cs rs g) h = any_gathered_row terms cs rs r g h

  any_gathered_row : (terms : List Sum) (cs : Readings Comparison) (rs : Readings Row) (r : Row) → AllGather terms cs rs → AnyHasRow r rs → IsRowIn terms (comparisons_in cs) r
  any_gathered_row terms _ _ r gather_none h = absurd h
  any_gathered_row terms _ _ r (gather_more c cs q rs g gs) (inl h) =
      row_in_more terms (comparisons_of c) (comparisons_of c ++ comparisons_in cs) r (λ x k. Contains-append_left (comparisons_of c) (comparisons_in cs) x k) (gathered_row terms c q r g h)
  any_gathered_row terms _ _ r (gather_more c cs q rs g gs) (inr h) =
      row_in_more terms (comparisons_in cs) (comparisons_of c ++ comparisons_in cs) r (λ x k. Contains-append_right (comparisons_of c) (comparisons_in cs) x k) (any_gathered_row terms cs rs r gs h)

-- ---- the rows on two applications

pair_with : (s : Sum) (ts : List Sum) (k : ℕ) (t : Sum) → slice_get (filter is_application ts) k ≡ Some t → Sub (pair_rows s t) (rows_with s ts)
pair_with s [] k t e = cc
pair_with s (x ∷ ts) k t e = by (pair_with s ts) (is_application x) k e
  where
    by : ((k : ℕ) (t : Sum) → slice_get (filter is_application ts) k ≡ Some t → Sub (pair_rows s t) (rows_with s ts)) → (b : Bool) (k : ℕ)
        → slice_get (cond b (x ∷ filter is_application ts) (filter is_application ts)) k ≡ Some t → Sub (pair_rows s t) (pair_rows s x ++ rows_with s ts)
    by rest true zero h c m = let same : t ≡ x = cc in Contains-append_left (pair_rows s x) (rows_with s ts) c (subst (λ z. Contains (pair_rows s z) c) same m)
    by rest true (suc k) h c m = Contains-append_right (pair_rows s x) (rows_with s ts) c (rest k t h c m)
    by rest false k h c m = Contains-append_right (pair_rows s x) (rows_with s ts) c (rest k t h c m)

pub pair_among : (ts : List Sum) (j k : ℕ) (s t : Sum) → j < k → slice_get (filter is_application ts) j ≡ Some s → slice_get (filter is_application ts) k ≡ Some t
    → Sub (pair_rows s t) (all_pairs ts)
pair_among [] j k s t l e f = cc
pair_among (x ∷ ts) j k s t l e f = by (pair_among ts) (is_application x) j k l e f
  where
    by : ((j k : ℕ) (s t : Sum) → j < k → slice_get (filter is_application ts) j ≡ Some s → slice_get (filter is_application ts) k ≡ Some t → Sub (pair_rows s t) (all_pairs ts))
        → (b : Bool) (j k : ℕ) → j < k → slice_get (cond b (x ∷ filter is_application ts) (filter is_application ts)) j ≡ Some s
        → slice_get (cond b (x ∷ filter is_application ts) (filter is_application ts)) k ≡ Some t → Sub (pair_rows s t) (rows_with x ts ++ all_pairs ts)
    by rest true zero zero l e f c m = absurd (omega (arith, l))
    by rest true zero (suc k) l e f c m =
        let same : s ≡ x = cc in Contains-append_left (rows_with x ts) (all_pairs ts) c (pair_with x ts k t f c (subst (λ z. Contains (pair_rows z t) c) same m))
    by rest true (suc j) zero l e f c m = absurd (omega (arith, l))
    by rest true (suc j) (suc k) l e f c m = let w : j < k = omega (arith, l) in Contains-append_right (rows_with x ts) (all_pairs ts) c (rest j k s t w e f c m)
    by rest false j k l e f c m = Contains-append_right (rows_with x ts) (all_pairs ts) c (rest j k s t l e f c m)

-- ---- the rows that two terms are equal which apply one function

pub equation_row : (terms : List Sum) (p : ℕ × ℕ) → AreOneFunction terms p → IsRowIn terms (all_pairs terms) (equation p)
equation_row terms p one = record { literal = equal_row (applied one.function one.left) (applied one.function one.right); among = equation_among terms p one; is = one.row }
