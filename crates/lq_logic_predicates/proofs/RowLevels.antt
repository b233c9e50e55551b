-- The level of a comparison's row is the difference of its sides, so a reading of rows is met exactly where that of comparisons is.
use Rattle.std.proofs.Common.{Option, None, zero, ◌≡◌, ◌≢◌, inl, inr, ℕ, suc, ℤ, pos, ◌+◌, ◌≤◌, ◌==◌, length, List, [], ◌∷◌, ◌++◌, Bool, true, false, Some, All, MatchBool, slice_get, refl, sym, ap, ap₂, subst, ◌∙◌, arith, if◌then◌else◌}
use Rattle.std.proofs.Math.IntN.{◌-ℤ◌}
use Rattle.std.proofs.lemmas.Bool.{eqb-true, eq-eqb}
use Rattle.std.proofs.lemmas.List.Elements.{All-head, All-tail}
use Rattle.lq_base_numbers.specs.Rationals.Rational.{ℚ, whole as rational, ◌+ℚ◌, ◌-ℚ◌, ◌*ℚ◌}
use Rattle.lq_base_numbers.specs.Rationals.RationalOrder.{◌≤ℚ◌}
use Rattle.lq_base_numbers.specs.Rationals.Whole.{whole-sum, whole-difference}
use Rattle.lq_base_numbers.specs.Rationals.Solver.{var, con, ◌⊕◌, ◌⊖◌, ◌⊗◌, solve}
use Rattle.lq_base_numbers.specs.Rationals.Sums.{sum_of-append}
use Rattle.lq_logic_rows.specs.Row.{Row, Valuation, AscendsFrom, sum_at, level, RowHolds}
use Rattle.lq_logic_predicates.specs.declared.symbol.Symbol.{Symbol}
use Rattle.lq_logic_predicates.specs.Sum.{Sum}
use Rattle.lq_logic_predicates.specs.Table.{has_term, index_of, all_differ, numbered, Extends}
use Rattle.lq_logic_predicates.specs.LinearForm.{coefficient, constant_of}
use Rattle.lq_logic_predicates.specs.Comparison.{Comparison, entry, row_coefficient, IsRowOf}
use Rattle.lq_logic_predicates.specs.Reading.{Reading, Readings, Gathers, AllGather, gathers_yes, gathers_no, gathers_row, gathers_flag, gathers_objects, gathers_all, gathers_any, gather_none, gather_more}
use Rattle.lq_logic_predicates.specs.Points.{Point, difference_at, ComparisonHolds, Meets, MeetsAll, MeetsAny}
use Rattle.lq_logic_predicates.specs.RowMeaning.{AgreesOn, numbers_at, number_or_zero, point_by, MeetsRows, MeetsAllRows, MeetsAnyRow}
use Rattle.lq_logic_predicates.specs.Numbering.{index_of-slice_get, index_of-present, index_of-absent, index_of-append_present}
use Rattle.lq_logic_predicates.specs.Growing.{Extends-trans, Extends-refl}
use Rattle.lq_logic_predicates.specs.Again.{Extends-numbered}
use Rattle.lq_logic_predicates.proofs.RowParts.{entry-below, entry-past, parts_once}
use Rattle.lq_logic_predicates.proofs.FormSums.{over, over-zero, over-minus, form_sum, stands_numbered, all_differ-numbered}

entry-first : (e : ℕ × ℤ) (es : List (ℕ × ℤ)) (q : ℕ) → e.0 ≡ q → entry (e ∷ es) q ≡ e.1
entry-first e es q h = ap (λ b. if b then e.1 else entry es q) (eq-eqb e.0 q h)

-- the terms of a list that begins at the number `low` have these coefficients and these numbers
abbrev Fits : Valuation → Point → (Sum → ℤ) → List (ℕ × ℤ) → ℕ → List Sum → Type 0
Fits v p F parts low ts = (k : ℕ) (t : Sum) → slice_get ts k ≡ Some t → (entry parts (low + k) ≡ F t) × (v (low + k) ≡ p.number t)

next : (low k : ℕ) → (suc low + k) ≡ (low + suc k)
next low k = omega arith

start : (low : ℕ) → (low + 0) ≡ low
start low = omega arith

-- a term without a pair, one with the first pair
without_pair : (p : Point) (F : Sum → ℤ) (t : Sum) (ts : List Sum) (x : ℚ) → F t ≡ pos 0 → x ≡ over p F ts → x ≡ over p F (t ∷ ts)
without_pair p F t ts x z e =
    e ∙ solve (over p F ts ∷ p.number t ∷ []) (var 0) (con (pos 0) ⊗ var 1 ⊕ var 0) refl ∙ ap (λ n. rational n *ℚ p.number t +ℚ over p F ts) (sym z)

parts_sum : (v : Valuation) (p : Point) (F : Sum → ℤ) (ts : List Sum) (low : ℕ) (parts : List (ℕ × ℤ)) → AscendsFrom low parts → All (λ part. part.1 ≢ pos 0) parts
    → ((q : ℕ) → low + length ts ≤ q → entry parts q ≡ pos 0) → Fits v p F parts low ts → sum_at v parts ≡ over p F ts
parts_sum v p F [] low [] a z w f = refl
parts_sum v p F [] low (e ∷ es) a z w f =
    let h = a.0 in absurd (All-head (λ part. part.1 ≢ pos 0) e es z (sym (entry-first e es e.0 refl) ∙ w e.0 (omega (arith, h))))
parts_sum v p F (t ∷ ts) low [] a z w f =
    without_pair p F t ts (rational (pos 0)) (sym ((f 0 t refl).0))
    (parts_sum v p F ts (suc low) [] tt z (λ q h. refl) (λ k u e. let r = f (suc k) u e in (r.0, ap v (next low k) ∙ r.1)))
parts_sum v p F (t ∷ ts) low (e ∷ es) a z w f = by (e.0 == low) refl (parts_sum v p F ts (suc low) es) (parts_sum v p F ts (suc low) (e ∷ es))
  where
    at_least : low ≤ e.0
    at_least = a.0

    Rest : List (ℕ × ℤ) → Type 0
    Rest es = AscendsFrom (suc low) es → All (λ part. part.1 ≢ pos 0) es → ((q : ℕ) → suc low + length ts ≤ q → entry es q ≡ pos 0) → Fits v p F es (suc low) ts
        → sum_at v es ≡ over p F ts

    by : (b : Bool) → (e.0 == low) ≡ b → Rest es → Rest (e ∷ es) → sum_at v (e ∷ es) ≡ over p F (t ∷ ts)
    by true h here there =
        let same : e.0 ≡ low = eqb-true e.0 low h in
        let rest = here (subst (λ x. AscendsFrom (suc x) es) same a.1) (All-tail (λ part. part.1 ≢ pos 0) e es z)
        (λ q g. sym (entry-below e es q (omega (arith, same, g))) ∙ w q (omega (arith, g)))
        (λ k u g. let r = f (suc k) u g in (sym (entry-below e es (suc low + k) (omega (arith, same))) ∙ ap (entry (e ∷ es)) (next low k) ∙ r.0, ap v (next low k) ∙ r.1)) in
        let first = f 0 t refl in
        let factor : e.1 ≡ F t = sym (entry-first e es (low + 0) (same ∙ sym (start low))) ∙ first.0 in
        let number : v e.0 ≡ p.number t = ap v (same ∙ sym (start low)) ∙ first.1 in
        ap₂ (λ x y. x +ℚ y) (ap₂ (λ n x. rational n *ℚ x) factor number) rest
    by false h here there =
        let apart : e.0 ≢ low = λ x. let y = eq-eqb e.0 low x in cc in
        let above : suc low ≤ e.0 = omega (arith, at_least, apart) in
        let nothing : F t ≡ pos 0 = sym ((f 0 t refl).0) ∙ ap (entry (e ∷ es)) (start low) ∙ entry-past (suc low) low (e ∷ es) (above, a.1) (omega arith) in
        without_pair p F t ts (sum_at v (e ∷ es)) nothing
        (there (above, a.1) z (λ q g. w q (omega (arith, g))) (λ k u g. let r = f (suc k) u g in (ap (entry (e ∷ es)) (next low k) ∙ r.0, ap v (next low k) ∙ r.1)))

past_end : (ts : List Sum) (q : ℕ) → slice_get ts q ≡ None → length ts ≤ q
past_end [] q h = omega arith
past_end (t ∷ ts) zero h = cc
past_end (t ∷ ts) (suc q) h = let k = past_end ts q h in omega (arith, k)

slice_get-append_right : (xs ys : List Sum) (k : ℕ) → slice_get (xs ++ ys) (length xs + k) ≡ slice_get ys k
slice_get-append_right [] ys k = ap (slice_get ys) (omega arith)
slice_get-append_right (x ∷ xs) ys k =
    let e : suc (length xs) + k ≡ suc (length xs + k) = omega arith in ap (slice_get (x ∷ (xs ++ ys))) e ∙ slice_get-append_right xs ys k

-- further terms have no coefficient in the row
past_list : (terms more : List Sum) (c : Comparison) (row : Row) → all_differ (terms ++ more) ≡ true → IsRowOf terms c row
    → (k : ℕ) (t : Sum) → slice_get more k ≡ Some t → row_coefficient c t ≡ pos 0
past_list terms more c row d r k t h = sym (r.coefficients t) ∙ r.within (index_of terms t) (by (has_term terms t) refl)
  where
    place : index_of (terms ++ more) t ≡ length terms + k
    place = index_of-slice_get (terms ++ more) (length terms + k) t d (slice_get-append_right terms more k ∙ h)

    by : (b : Bool) → has_term terms t ≡ b → length terms ≤ index_of terms t
    by true e = let i = index_of-append_present terms more t e in let j = index_of-present terms t e in absurd (omega (arith, i, j, place))
    by false e = let i = index_of-absent terms t e in omega (arith, i)

pub row_level : (terms : List Sum) (v : Valuation) (p : Point) (c : Comparison) (row : Row) → all_differ terms ≡ true → AgreesOn terms v p → IsRowOf terms c row
    → level v row ≡ difference_at p c
row_level terms v p c row d g r =
    let all = numbered (numbered terms c.left) c.right in
    let x : Extends terms all = Extends-trans _ _ _ (Extends-numbered terms c.left) (Extends-numbered (numbered terms c.left) c.right) in
    let dd : all_differ all ≡ true = all_differ-numbered (numbered terms c.left) c.right (all_differ-numbered terms c.left d) in
    let left = form_sum p all c.left dd (stands_numbered terms all c.left (Extends-numbered (numbered terms c.left) c.right)) in
    let right = form_sum p all c.right dd (stands_numbered (numbered terms c.left) all c.right (Extends-refl all)) in
    let zero_add : (k : ℕ) → 0 + k ≡ k = λ k. omega arith in
    let sum : sum_at v row.parts ≡ over p (row_coefficient c) terms =
    parts_sum v p (row_coefficient c) terms 0 row.parts r.formed.ascending r.formed.nonzero (λ q h. r.within q (omega (arith, h)))
    (λ k t h. (ap (entry row.parts) (zero_add k ∙ sym (index_of-slice_get terms k t d h)) ∙ r.coefficients t, ap v (zero_add k) ∙ g k t h)) in
    let further : over p (row_coefficient c) x.more ≡ rational (pos 0) =
    over-zero p (row_coefficient c) x.more (past_list terms x.more c row (subst (λ l. all_differ l ≡ true) x.is dd) r) in
    let grown : over p (row_coefficient c) all ≡ over p (row_coefficient c) terms =
    ap (over p (row_coefficient c)) x.is ∙ sum_of-append (λ t. rational (row_coefficient c t) *ℚ p.number t) terms x.more
    ∙ ap (λ y. over p (row_coefficient c) terms +ℚ y) further ∙ solve (over p (row_coefficient c) terms ∷ []) (var 0 ⊕ con (pos 0)) (var 0) refl in
    let constant : rational row.constant ≡ rational (constant_of c.left) -ℚ rational (constant_of c.right) +ℚ rational c.added =
    ap rational r.constant ∙ sym (whole-sum (constant_of c.left -ℤ constant_of c.right) c.added) ∙ ap (λ y. y +ℚ rational c.added) (sym (whole-difference (constant_of c.left) (constant_of c.right))) in
    ap₂ (λ y z. y +ℚ z) (sum ∙ sym grown ∙ over-minus p (coefficient c.left) (coefficient c.right) all) constant
    ∙ solve (over p (coefficient c.left) all ∷ over p (coefficient c.right) all ∷ rational (constant_of c.left) ∷ rational (constant_of c.right) ∷ rational c.added ∷ [])
    ((var 0 ⊖ var 1) ⊕ ((var 2 ⊖ var 3) ⊕ var 4)) (((var 0 ⊕ var 2) ⊖ (var 1 ⊕ var 3)) ⊕ var 4) refl
    ∙ ap₂ (λ y z. y -ℚ z +ℚ rational c.added) (sym left) (sym right)

abbrev Holds : Bool → ℚ → Type 0
Holds b x = MatchBool b (x ≡ rational (pos 0)) (x ≤ℚ rational (pos 0))

pub row_holds : (terms : List Sum) (v : Valuation) (p : Point) (c : Comparison) (row : Row) → all_differ terms ≡ true → AgreesOn terms v p → IsRowOf terms c row
    → (RowHolds v row → ComparisonHolds p c) × (ComparisonHolds p c → RowHolds v row)
row_holds terms v p c row d g r =
    let one : level v row ≡ difference_at p c = row_level terms v p c row d g r in
    (λ h. subst (λ b. Holds b (difference_at p c)) r.equal (subst (Holds row.equal) one h), λ h. subst (Holds row.equal) (sym one) (subst (λ b. Holds b (difference_at p c)) (sym r.equal) h))

mutual
  pub reading_meets : (terms : List Sum) (v : Valuation) (p : Point) → all_differ terms ≡ true → AgreesOn terms v p
      → (c : Reading Comparison) (r : Reading Row) → Gathers terms c r → (MeetsRows v p r → Meets p c) × (Meets p c → MeetsRows v p r)
  reading_meets terms v p d g _ _ gathers_yes = (λ h. h, λ h. h)
  reading_meets terms v p d g _ _ gathers_no = (λ h. h, λ h. h)
  reading_meets terms v p d g _ _ (gathers_row c r h) = row_holds terms v p c r d g h
  reading_meets terms v p d g _ _ (gathers_flag x sign) = (λ h. h, λ h. h)
  reading_meets terms v p d g _ _ (gathers_objects a b sign) = (λ h. h, λ h. h)
  reading_meets terms v p d g _ _ (gathers_all cs rs h) = all_meet terms v p d g cs rs h
  reading_meets terms v p d g _ _ (gathers_any cs rs h) = any_meets terms v p d g cs rs h

  all_meet : (terms : List Sum) (v : Valuation) (p : Point) → all_differ terms ≡ true → AgreesOn terms v p
      → (cs : Readings Comparison) (rs : Readings Row) → AllGather terms cs rs → (MeetsAllRows v p rs → MeetsAll p cs) × (MeetsAll p cs → MeetsAllRows v p rs)
  all_meet terms v p d g _ _ gather_none = (λ h. h, λ h. h)
  all_meet terms v p d g _ _ (gather_more c cs r rs h hs) =
      let one = reading_meets terms v p d g c r h in let rest = all_meet terms v p d g cs rs hs in (λ k. (one.0 k.0, rest.0 k.1), λ k. (one.1 k.0, rest.1 k.1))

  any_meets : (terms : List Sum) (v : Valuation) (p : Point) → all_differ terms ≡ true → AgreesOn terms v p
      → (cs : Readings Comparison) (rs : Readings Row) → AllGather terms cs rs → (MeetsAnyRow v p rs → MeetsAny p cs) × (MeetsAny p cs → MeetsAnyRow v p rs)
  any_meets terms v p d g _ _ gather_none = (λ h. h, λ h. h)
  any_meets terms v p d g _ _ (gather_more c cs r rs h hs) =
      let one = reading_meets terms v p d g c r h in let rest = any_meets terms v p d g cs rs hs in
      (λ k. elim k [ inl a ↦ inl (one.0 a) | inr b ↦ inr (rest.0 b) ], λ k. elim k [ inl a ↦ inl (one.1 a) | inr b ↦ inr (rest.1 b) ])

pub numbers_agree : (terms : List Sum) (p : Point) → AgreesOn terms (numbers_at terms p) p
numbers_agree terms p k t h = ap (number_or_zero p) h

pub point_agrees : (terms : List Sum) (v : Valuation) (holds : Symbol → Bool) (class_of : Sum → ℕ) → all_differ terms ≡ true → AgreesOn terms v (point_by terms v holds class_of)
point_agrees terms v holds class_of d k t h = ap v (sym (index_of-slice_get terms k t d h))

-- a comparison has one row
pub row_once : (terms : List Sum) (c : Comparison) (row other : Row) → all_differ terms ≡ true → IsRowOf terms c row → IsRowOf terms c other → row ≡ other
row_once terms c row other d r s =
    let parts : row.parts ≡ other.parts =
    parts_once 0 row.parts other.parts r.formed.ascending s.formed.ascending r.formed.nonzero s.formed.nonzero (λ q. same q (slice_get terms q) refl) in
    let constant : row.constant ≡ other.constant = r.constant ∙ sym s.constant in
    let equal : row.equal ≡ other.equal = r.equal ∙ sym s.equal in
    λ i. record { parts = parts i; constant = constant i; equal = equal i }
  where
    same : (q : ℕ) (o : Option Sum) → slice_get terms q ≡ o → entry row.parts q ≡ entry other.parts q
    same q None h = let past : length terms ≤ q = past_end terms q h in r.within q past ∙ sym (s.within q past)
    same q (Some t) h =
        let i : index_of terms t ≡ q = index_of-slice_get terms q t d h in
        ap (entry row.parts) (sym i) ∙ r.coefficients t ∙ sym (s.coefficients t) ∙ ap (entry other.parts) i
