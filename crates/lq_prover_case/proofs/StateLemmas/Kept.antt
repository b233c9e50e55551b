-- The rows that stand: their difference rows and the others, as one more comes and as the last ones go.
use Rattle.std.proofs.Common.{◌≡◌, ◌≢◌, ℕ, suc, zero, ◌+◌, ◌≤◌, List, [], ◌∷◌, ◌++◌, Some, Bool, true, false, if◌then◌else◌, ◌==◌, MatchBool, refl, sym, ap, subst, ◌∙◌, arith, length, take, slice_get, get_or, ◌<◌, unsigned_abs}
use Rattle.std.specs.Option.{IsNone}
use Rattle.std.proofs.lemmas.Bool.{eqb-true}
use Rattle.std.proofs.lemmas.List.{take_more}
use Rattle.lq_logic_rows.specs.Contradiction.{Tagged, Solves, tagged}
use Rattle.lq_logic_rows.specs.Difference.{IsDifference, TermsBelow}
use Rattle.lq_logic_rows.specs.Row.{Row, Valuation, RowHolds}
use Rattle.lq_prover_differences.specs.Table.{constants}
use Rattle.lq_prover_case.specs.State.RowState.{AreDifferences}
use Rattle.lq_prover_case.specs.State.Stored.{tagged_rows, differences_in, odd_from, HoldsAt, AllHoldAt, AreApart, AllBelow, AreMarked}
use Rattle.lq_prover_case.specs.declared.state.stored.StoredRow.{StoredRow}
use Rattle.lq_prover_case.proofs.StateLemmas.Evidence.{AreFound, cons_none, tail_none}

pub tagged-push : (ss : List StoredRow) (s : StoredRow) → tagged_rows (ss ++ s ∷ []) ≡ tagged_rows ss ++ (s.tag, s.row) ∷ []
tagged-push [] s = refl
tagged-push (x ∷ ss) s = ap (λ l. (x.tag, x.row) ∷ l) (tagged-push ss s)

pub tagged-take : (k : ℕ) (ss : List StoredRow) → tagged_rows (take k ss) ≡ take k (tagged_rows ss)
tagged-take zero ss = refl
tagged-take (suc k) [] = refl
tagged-take (suc k) (x ∷ ss) = ap (λ l. (x.tag, x.row) ∷ l) (tagged-take k ss)

pub tagged-length : (ss : List StoredRow) → length (tagged_rows ss) ≡ length ss
tagged-length [] = refl
tagged-length (x ∷ ss) = ap suc (tagged-length ss)

pub tagged-get : (ss : List StoredRow) (k : ℕ) (s : StoredRow) → slice_get ss k ≡ Some s → slice_get (tagged_rows ss) k ≡ Some (s.tag, s.row)
tagged-get [] k s e = cc
tagged-get (x ∷ ss) zero s e = let p : x ≡ s = cc in ap (λ (y : StoredRow). Some (y.tag, y.row)) p
tagged-get (x ∷ ss) (suc k) s e = tagged-get ss k s e

-- ---- one more row
abbrev one_if : Bool → ℕ × Row → Tagged
one_if b r = if b then [] else r ∷ []

differences-push : (ss : List StoredRow) (s : StoredRow) → differences_in (ss ++ s ∷ []) ≡ differences_in ss ++ one_if s.odd (s.tag, s.row)
differences-push [] s = refl
differences-push (x ∷ ss) s = by x.odd (differences-push ss s)
  where
    by : (b : Bool) → differences_in (ss ++ s ∷ []) ≡ differences_in ss ++ one_if s.odd (s.tag, s.row)
        → (if b then differences_in (ss ++ s ∷ []) else (x.tag, x.row) ∷ differences_in (ss ++ s ∷ []))
        ≡ (if b then differences_in ss else (x.tag, x.row) ∷ differences_in ss) ++ one_if s.odd (s.tag, s.row)
    by true h = h
    by false h = ap (λ l. (x.tag, x.row) ∷ l) h

append_nil : {X : Type 0} (xs : List X) → xs ++ [] ≡ xs
append_nil [] = refl
append_nil (x ∷ xs) = ap (λ l. x ∷ l) (append_nil xs)

pub differences-odd : (ss : List StoredRow) (s : StoredRow) → s.odd ≡ true → differences_in (ss ++ s ∷ []) ≡ differences_in ss
differences-odd ss s e = differences-push ss s ∙ ap (λ b. differences_in ss ++ one_if b (s.tag, s.row)) e ∙ append_nil (differences_in ss)

pub differences-even : (ss : List StoredRow) (s : StoredRow) → s.odd ≡ false → differences_in (ss ++ s ∷ []) ≡ differences_in ss ++ (s.tag, s.row) ∷ []
differences-even ss s e = differences-push ss s ∙ ap (λ b. differences_in ss ++ one_if b (s.tag, s.row)) e

odd-push : (n : ℕ) (ss : List StoredRow) (s : StoredRow) → odd_from n (ss ++ s ∷ []) ≡ odd_from n ss ++ (if s.odd then (n + length ss) ∷ [] else [])
odd-push n [] s = ap (λ k. if s.odd then k ∷ [] else []) (omega arith)
odd-push n (x ∷ ss) s = by x.odd (odd-push (suc n) ss s ∙ ap (λ k. odd_from (suc n) ss ++ (if s.odd then k ∷ [] else [])) (omega arith))
  where
    by : (b : Bool) → odd_from (suc n) (ss ++ s ∷ []) ≡ odd_from (suc n) ss ++ (if s.odd then (n + suc (length ss)) ∷ [] else [])
        → (if b then n ∷ odd_from (suc n) (ss ++ s ∷ []) else odd_from (suc n) (ss ++ s ∷ []))
        ≡ (if b then n ∷ odd_from (suc n) ss else odd_from (suc n) ss) ++ (if s.odd then (n + suc (length ss)) ∷ [] else [])
    by true h = ap (λ l. n ∷ l) h
    by false h = h

pub odd-odd : (ss : List StoredRow) (s : StoredRow) → s.odd ≡ true → odd_from 0 (ss ++ s ∷ []) ≡ odd_from 0 ss ++ length ss ∷ []
odd-odd ss s e = odd-push 0 ss s ∙ ap (λ b. odd_from 0 ss ++ (if b then (0 + length ss) ∷ [] else [])) e ∙ ap (λ k. odd_from 0 ss ++ k ∷ []) (omega arith)

pub odd-even : (ss : List StoredRow) (s : StoredRow) → s.odd ≡ false → odd_from 0 (ss ++ s ∷ []) ≡ odd_from 0 ss
odd-even ss s e = odd-push 0 ss s ∙ ap (λ b. odd_from 0 ss ++ (if b then (0 + length ss) ∷ [] else [])) e ∙ append_nil (odd_from 0 ss)

pub push_below : (n : ℕ) (rows : Tagged) (t : ℕ) (row : Row) → AllBelow n rows → TermsBelow n row.parts → AllBelow n (rows ++ (t, row) ∷ [])
push_below n [] t row h k = (k, tt)
push_below n (r ∷ rows) t row h k = (h.0, push_below n rows t row h.1 k)

-- how many odd ones there are
abbrev count : ℕ → List StoredRow → ℕ
count n [] = n
count n (s ∷ ss) = count (if s.odd then suc n else n) ss

count-odd : (n m : ℕ) (ss : List StoredRow) → count n ss ≡ n + length (odd_from m ss)
count-odd n m [] = omega arith
count-odd n m (s ∷ ss) = by s.odd (count-odd (suc n) (suc m) ss) (count-odd n (suc m) ss)
  where
    by : (b : Bool) → count (suc n) ss ≡ suc n + length (odd_from (suc m) ss) → count n ss ≡ n + length (odd_from (suc m) ss)
        → count (if b then suc n else n) ss ≡ n + length (if b then m ∷ odd_from (suc m) ss else odd_from (suc m) ss)
    by true h k = h ∙ omega arith
    by false h k = k

abbrev pub IsMarkedBy : StoredRow → Type 0
IsMarkedBy s = MatchBool s.odd (IsDifference s.row.parts → ⊥) (IsDifference s.row.parts)

push_marked_by : (n : ℕ) (ss : List StoredRow) (s : StoredRow) → AreMarked n ss → IsMarkedBy s → s.odd_before ≡ count n ss → AreMarked n (ss ++ s ∷ [])
push_marked_by n [] s h k e = (k, e, tt)
push_marked_by n (x ∷ ss) s h k e = (h.0, h.1, push_marked_by (if x.odd then suc n else n) ss s h.2 k e)

pub push_marked : (ss : List StoredRow) (s : StoredRow) → AreMarked 0 ss → IsMarkedBy s → s.odd_before ≡ length (odd_from 0 ss) → AreMarked 0 (ss ++ s ∷ [])
push_marked ss s h k e = push_marked_by 0 ss s h k (e ∙ omega arith ∙ sym (count-odd 0 0 ss))

-- ---- the first rows
pub take_below : (n : ℕ) (rows : Tagged) (k : ℕ) → AllBelow n rows → AllBelow n (take k rows)
take_below n rows zero h = tt
take_below n [] (suc k) h = tt
take_below n (r ∷ rows) (suc k) h = (h.0, take_below n rows k h.1)

pub take_marked : (n : ℕ) (ss : List StoredRow) (k : ℕ) → AreMarked n ss → AreMarked n (take k ss)
take_marked n ss zero h = tt
take_marked n [] (suc k) h = tt
take_marked n (s ∷ ss) (suc k) h = (h.0, h.1, take_marked (if s.odd then suc n else n) ss k h.2)

marked_count : (n : ℕ) (ss : List StoredRow) (k : ℕ) (s : StoredRow) → AreMarked n ss → slice_get ss k ≡ Some s → s.odd_before ≡ count n (take k ss)
marked_count n [] k s h e = cc
marked_count n (x ∷ ss) zero s h e = let p : x ≡ s = cc in subst (λ (y : StoredRow). y.odd_before ≡ n) p h.1
marked_count n (x ∷ ss) (suc k) s h e = marked_count (if x.odd then suc n else n) ss k s h.2 e

pub marked_at : (ss : List StoredRow) (k : ℕ) (s : StoredRow) → AreMarked 0 ss → slice_get ss k ≡ Some s → s.odd_before ≡ length (odd_from 0 (take k ss))
marked_at ss k s h e = marked_count 0 ss k s h e ∙ count-odd 0 0 (take k ss) ∙ omega arith

pub both_lengths : (n : ℕ) (ss : List StoredRow) → length (differences_in ss) + length (odd_from n ss) ≡ length ss
both_lengths n [] = refl
both_lengths n (s ∷ ss) = by s.odd (both_lengths (suc n) ss)
  where
    by : (b : Bool) → length (differences_in ss) + length (odd_from (suc n) ss) ≡ length ss
        → length (if b then differences_in ss else (s.tag, s.row) ∷ differences_in ss) + length (if b then n ∷ odd_from (suc n) ss else odd_from (suc n) ss)
        ≡ suc (length ss)
    by true h = omega arith
    by false h = omega arith

pub odd-take : (n k : ℕ) (ss : List StoredRow) → odd_from n (take k ss) ≡ take (length (odd_from n (take k ss))) (odd_from n ss)
odd-take n zero ss = refl
odd-take n (suc k) [] = refl
odd-take n (suc k) (s ∷ ss) = by s.odd (odd-take (suc n) k ss)
  where
    by : (b : Bool) → odd_from (suc n) (take k ss) ≡ take (length (odd_from (suc n) (take k ss))) (odd_from (suc n) ss)
        → (if b then n ∷ odd_from (suc n) (take k ss) else odd_from (suc n) (take k ss))
        ≡ take (length (if b then n ∷ odd_from (suc n) (take k ss) else odd_from (suc n) (take k ss))) (if b then n ∷ odd_from (suc n) ss else odd_from (suc n) ss)
    by true h = ap (λ l. n ∷ l) h
    by false h = h

pub differences-take : (k : ℕ) (ss : List StoredRow) → differences_in (take k ss) ≡ take (length (differences_in (take k ss))) (differences_in ss)
differences-take zero ss = refl
differences-take (suc k) [] = refl
differences-take (suc k) (s ∷ ss) = by s.odd (differences-take k ss)
  where
    by : (b : Bool) → differences_in (take k ss) ≡ take (length (differences_in (take k ss))) (differences_in ss)
        → (if b then differences_in (take k ss) else (s.tag, s.row) ∷ differences_in (take k ss))
        ≡ take (length (if b then differences_in (take k ss) else (s.tag, s.row) ∷ differences_in (take k ss))) (if b then differences_in ss else (s.tag, s.row) ∷ differences_in ss)
    by true h = h
    by false h = ap (λ l. (s.tag, s.row) ∷ l) h

-- ---- what the difference rows say of all rows
none_among : (ss : List StoredRow) (t : ℕ) → IsNone (tagged (tagged_rows ss) t) → IsNone (tagged (differences_in ss) t)
none_among [] t h = refl
none_among (s ∷ ss) t h = let p = tail_none (s.tag, s.row) (tagged_rows ss) t h in by s.odd p.0 (none_among ss t p.1)
  where
    by : (b : Bool) → s.tag ≢ t → IsNone (tagged (differences_in ss) t) → IsNone (tagged (if b then differences_in ss else (s.tag, s.row) ∷ differences_in ss) t)
    by true d k = k
    by false d k = cons_none (s.tag, s.row) (differences_in ss) t d k

pub fresh_difference : (ss : List StoredRow) (t : ℕ) → IsNone (tagged (tagged_rows ss) t) → IsNone (tagged (differences_in ss) t)
fresh_difference = none_among

found_among : (ss : List StoredRow) (t : ℕ) (r : Row) → AreApart (tagged_rows ss) → tagged (differences_in ss) t ≡ Some r → tagged (tagged_rows ss) t ≡ Some r
found_among [] t r a e = cc
found_among (s ∷ ss) t r a e = by (found_among ss t r a.1) s.odd (s.tag == t) refl e
  where
    by : (tagged (differences_in ss) t ≡ Some r → tagged (tagged_rows ss) t ≡ Some r) → (o b : Bool) → (s.tag == t) ≡ b → tagged (if o then differences_in ss else (s.tag, s.row) ∷ differences_in ss) t ≡ Some r
        → (if b then Some s.row else tagged (tagged_rows ss) t) ≡ Some r
    by rest true true e k =
        let n = none_among ss t (subst (λ m. IsNone (tagged (tagged_rows ss) m)) (eqb-true s.tag t e) a.0) in
        let z = subst IsNone k n in absurd (cc)
    by rest true false e k = rest k
    by rest false true e k = sym (ap (λ b. if b then Some s.row else tagged (differences_in ss) t) e) ∙ k
    by rest false false e k = rest (sym (ap (λ b. if b then Some s.row else tagged (differences_in ss) t) e) ∙ k)

pub found_differences : (ss : List StoredRow) → AreApart (tagged_rows ss) → AreFound (differences_in ss) (tagged_rows ss)
found_differences ss a = record { each = λ t r e. found_among ss t r a e }

pub constants_among : (ss : List StoredRow) → constants (differences_in ss) ≤ constants (tagged_rows ss)
constants_among [] = omega arith
constants_among (s ∷ ss) = by s.odd (constants_among ss)
  where
    by : (b : Bool) → constants (differences_in ss) ≤ constants (tagged_rows ss)
        → constants (if b then differences_in ss else (s.tag, s.row) ∷ differences_in ss) ≤ (unsigned_abs s.row.constant + constants (tagged_rows ss))
    by true h = omega arith
    by false h = omega arith

-- the difference rows hold, and the others
solves_from : (v : Valuation) (pre ss : List StoredRow) (all : List StoredRow) → ((k : ℕ) (s : StoredRow) → slice_get ss k ≡ Some s → slice_get all (length pre + k) ≡ Some s)
    → AllHoldAt v all (odd_from (length pre) ss) → Solves v (differences_in ss) → Solves v (tagged_rows ss)
solves_from v pre [] all at h k = tt
solves_from v pre (s ∷ ss) all at h k =
    by (solves_from v (s ∷ pre) ss all (λ j x e. subst (λ n. slice_get all n ≡ Some x) (omega arith) (at (suc j) x e))) s.odd h k
  where
    here : slice_get all (length pre) ≡ Some s
    here = subst (λ n. slice_get all n ≡ Some s) (omega arith) (at 0 s refl)

    by : (AllHoldAt v all (odd_from (suc (length pre)) ss) → Solves v (differences_in ss) → Solves v (tagged_rows ss))
        → (b : Bool) → AllHoldAt v all (if b then length pre ∷ odd_from (suc (length pre)) ss else odd_from (suc (length pre)) ss)
        → Solves v (if b then differences_in ss else (s.tag, s.row) ∷ differences_in ss) → RowHolds v s.row × Solves v (tagged_rows ss)
    by rest true p q = (p.0 s here, rest p.1 q)
    by rest false p q = (q.0, rest p q.1)

pub solves_both : (v : Valuation) (ss : List StoredRow) → AllHoldAt v ss (odd_from 0 ss) → Solves v (differences_in ss) → Solves v (tagged_rows ss)
solves_both v ss h k = solves_from v [] ss ss (λ j s e. subst (λ n. slice_get ss n ≡ Some s) (omega arith) e) h k

-- where each row is a difference row, none is odd
pub none_odd : (n m : ℕ) (ss : List StoredRow) → AreMarked n ss → AreDifferences (tagged_rows ss) → odd_from m ss ≡ []
none_odd n m [] h d = refl
none_odd n m (s ∷ ss) h d = by (none_odd (if s.odd then suc n else n) (suc m) ss h.2 d.1) s.odd h.0
  where
    by : odd_from (suc m) ss ≡ [] → (b : Bool) → MatchBool b (IsDifference s.row.parts → ⊥) (IsDifference s.row.parts)
        → (if b then m ∷ odd_from (suc m) ss else odd_from (suc m) ss) ≡ []
    by rest true k = absurd (k d.0)
    by rest false k = rest

pub below_at : (n : ℕ) (ss : List StoredRow) (k : ℕ) (s : StoredRow) → AllBelow n (tagged_rows ss) → slice_get ss k ≡ Some s → TermsBelow n s.row.parts
below_at n [] k s h e = cc
below_at n (x ∷ ss) zero s h e = let p : x ≡ s = cc in subst (λ (y : StoredRow). TermsBelow n y.row.parts) p h.0
below_at n (x ∷ ss) (suc k) s h e = below_at n ss k s h.1 e

hold-push : (v : Valuation) (rows : List StoredRow) (ks : List ℕ) (k : ℕ) → AllHoldAt v rows ks → HoldsAt v rows k → AllHoldAt v rows (ks ++ k ∷ [])
hold-push v rows [] k h p = (p, tt)
hold-push v rows (j ∷ ks) k h p = (h.0, hold-push v rows ks k h.1 p)

pub hold_more : (v : Valuation) (rows : List StoredRow) (ks : List ℕ) (i d : ℕ) → i < length ks → AllHoldAt v rows (take i ks) → HoldsAt v rows (get_or ks i d)
    → AllHoldAt v rows (take (i + 1) ks)
hold_more v rows ks i d l h p = subst (AllHoldAt v rows) (sym (take_more ks i d l)) (hold-push v rows (take i ks) (get_or ks i d) h p)

pub constants_push : (rows : Tagged) (r : ℕ × Row) → constants (rows ++ r ∷ []) ≡ constants rows + unsigned_abs r.1.constant
constants_push [] r = omega arith
constants_push (x ∷ rows) r = let k = constants_push rows r in omega arith
