-- How many are chosen, where one is taken out.
use Rattle.std.proofs.Common.{◌≡◌, ℕ, zero, suc, ◌<◌, length, slice_get, slice_set, get_or, arith, Bool, true, false, cond, List, [], ◌∷◌, Some, refl, ap, sym, subst}
use Rattle.std.specs.Global.{Vec}
use Rattle.std.specs.Vec.{with_item}
use Rattle.std.proofs.lemmas.Option.{slice_get_read}
use Rattle.lq_solve_fixpoint.specs.Weakening.Chosen.{count_rows, count_set, flag_or_false, row_flag}

-- one flag less, where it was set
pub set_falls : (bs : List Bool) (k : ℕ) → flag_or_false (slice_get bs k) ≡ true → suc (count_set (slice_set bs k false)) ≡ count_set bs
set_falls [] k h = absurd (cc)
set_falls (b ∷ bs) zero h = by b h
  where
    by : (b : Bool) → b ≡ true → suc (count_set bs) ≡ cond b (suc (count_set bs)) (count_set bs)
    by true e = refl
    by false e = absurd (cc)
set_falls (b ∷ bs) (suc k) h = by b (set_falls bs k h)
  where
    by : (b : Bool) → suc (count_set (slice_set bs k false)) ≡ count_set bs → suc (cond b (suc (count_set (slice_set bs k false))) (count_set (slice_set bs k false))) ≡ cond b (suc (count_set bs)) (count_set bs)
    by true e = ap suc e
    by false e = e

-- a row with one flag less
pub row_falls : (rows : List (Vec Bool)) (u : ℕ) (row after : Vec Bool) → slice_get rows u ≡ Some row → suc (count_set after.items) ≡ count_set row.items
    → suc (count_rows (slice_set rows u after)) ≡ count_rows rows
row_falls [] u row after h e = absurd (cc)
row_falls (r ∷ rs) zero row after h e = let f : count_set r.items ≡ count_set row.items = cc in omega (arith, f, e)
row_falls (r ∷ rs) (suc u) row after h e = let f : suc (count_rows (slice_set rs u after)) ≡ count_rows rs = row_falls rs u row after h e in omega (arith, f)

within : (rows : List (Vec Bool)) (u k : ℕ) → row_flag (slice_get rows u) k ≡ true → u < length rows
within [] u k h = absurd (cc)
within (r ∷ rs) zero k h = omega arith
within (r ∷ rs) (suc u) k h = let f : u < length rs = within rs u k h in omega (arith, f)

-- a chosen one is taken out of its row
pub taken : (rows : List (Vec Bool)) (u k : ℕ) (row : Vec Bool) → true ≡ row_flag (slice_get rows u) k → row ≡ get_or rows u row
    → suc (count_rows (slice_set rows u (with_item row k false))) ≡ count_rows rows
taken rows u k row h e = row_falls rows u row (with_item row k false) is (set_falls row.items k (subst (λ o. row_flag o k ≡ true) is (sym h)))
  where
    is : slice_get rows u ≡ Some row
    is = slice_get_read rows (length rows) u row refl (within rows u k (sym h)) e
