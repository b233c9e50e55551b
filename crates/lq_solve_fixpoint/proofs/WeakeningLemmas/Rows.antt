-- Rows that are all chosen.
use Rattle.std.proofs.Common.{◌≡◌, ℕ, zero, suc, ltb, slice_get, replicate, arith, Bool, true, List, [], ◌∷◌, ◌++◌, refl, sym, subst}
use Rattle.std.proofs.lemmas.Grind.{common_steps}
use Rattle.std.specs.Global.{Vec}
use Rattle.lq_solve_fixpoint.specs.Weakening.Chosen.{all_below, flag_or_false, row_flag}

-- for each count a row of so many
abbrev pub AreFull : List ℕ → List (Vec Bool) → Type 0
AreFull [] [] = Unit {0}
AreFull (n ∷ ns) (r ∷ rs) = (r.items ≡ replicate n true) × AreFull ns rs
AreFull [] (r ∷ rs) = ⊥
AreFull (n ∷ ns) [] = ⊥

pub full_append : (ns : List ℕ) (rs : List (Vec Bool)) (n : ℕ) (r : Vec Bool) → AreFull ns rs → r.items ≡ replicate n true → AreFull (ns ++ n ∷ []) (rs ++ r ∷ [])
full_append [] [] n r h e = (e, tt)
full_append (m ∷ ns) (q ∷ rs) n r h e = (h.0, full_append ns rs n r h.1 e)
full_append [] (q ∷ rs) n r h e = absurd h
full_append (m ∷ ns) [] n r h e = absurd h

full_row : (n k : ℕ) → flag_or_false (slice_get (replicate n true) k) ≡ ltb k n
full_row zero k = grind (arith, common_steps)
full_row (suc n) zero = grind (arith, common_steps)
full_row (suc n) (suc k) = let e : flag_or_false (slice_get (replicate n true) k) ≡ ltb k n = full_row n k in grind (arith, common_steps)

pub full_rows : (ns : List ℕ) (rs : List (Vec Bool)) → AreFull ns rs → (u k : ℕ) → row_flag (slice_get rs u) k ≡ all_below ns u k
full_rows [] [] h u k = refl
full_rows (n ∷ ns) (r ∷ rs) h zero k = subst (λ xs. flag_or_false (slice_get xs k) ≡ ltb k n) (sym h.0) (full_row n k)
full_rows (n ∷ ns) (r ∷ rs) h (suc u) k = full_rows ns rs h.1 u k
full_rows [] (r ∷ rs) h u k = absurd h
full_rows (n ∷ ns) [] h u k = absurd h
