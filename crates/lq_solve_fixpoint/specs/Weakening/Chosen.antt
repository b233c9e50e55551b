-- Which instances of each unknown are chosen.
use Rattle.std.specs.Prelude.{◌≡◌, ℕ, suc, Bool, false, cond, ltb, ◌+◌, List, [], ◌∷◌, Option, Some, None, slice_get}
use Rattle.std.specs.Global.{Vec}
use Rattle.lq_solve_fixpoint.specs.Weakening.Among.{IsAmong}
use Rattle.lq_solve_fixpoint.specs.declared.weakening.chosen.Chosen.{Chosen}

abbrev pub flag_or_false : Option Bool → Bool
flag_or_false None = false
flag_or_false (Some b) = b

abbrev pub row_flag : Option (Vec Bool) → ℕ → Bool
row_flag None k = false
row_flag (Some row) k = flag_or_false (slice_get row.items k)

abbrev pub chosen_in : Chosen → ℕ → ℕ → Bool
chosen_in c u k = row_flag (slice_get c.rows.items u) k

-- so many of each, from the first on
abbrev pub below_count : Option ℕ → ℕ → Bool
below_count None k = false
below_count (Some n) k = ltb k n

abbrev pub all_below : List ℕ → ℕ → ℕ → Bool
all_below counts u k = below_count (slice_get counts u) k

-- the same but for this instance of this unknown, which isn't chosen
pub record IsWithout (u k : ℕ) (before after : ℕ → ℕ → Bool) : Type 0 where
  pub here : after u k ≡ false
  pub others : (v n : ℕ) → (v ≡ u → n ≡ k → ⊥) → after v n ≡ before v n

-- the two choose alike of every other unknown
abbrev pub AgreeBut : ℕ → (ℕ → ℕ → Bool) → (ℕ → ℕ → Bool) → Type 0
AgreeBut u c d = (w : ℕ) → (w ≡ u → ⊥) → (k : ℕ) → c w k ≡ d w k

-- how many are chosen
abbrev pub count_set : List Bool → ℕ
count_set [] = 0
count_set (b ∷ bs) = cond b (suc (count_set bs)) (count_set bs)

abbrev pub count_rows : List (Vec Bool) → ℕ
count_rows [] = 0
count_rows (r ∷ rs) = count_set r.items + count_rows rs

abbrev pub total : Chosen → ℕ
total c = count_rows c.rows.items

-- the same but for these instances of this unknown, which aren't chosen
pub record AreWithout (u : ℕ) (ks : List ℕ) (before after : ℕ → ℕ → Bool) : Type 0 where
  pub here : (k : ℕ) → IsAmong ks k → after u k ≡ false
  pub others : (v n : ℕ) → (v ≡ u → IsAmong ks n → ⊥) → after v n ≡ before v n
