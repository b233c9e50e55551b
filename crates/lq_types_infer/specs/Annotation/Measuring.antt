-- What is summed and asked of the parts of a type.
use Rattle.std.specs.Prelude.{ℕ, ◌+◌, Bool, true, false, List, [], ◌∷◌}
use Rattle.lq_text_tree.specs.MlType as ml
use Rattle.lq_text_tree.specs.MlType.{MlType}

abbrev pub total : (ℕ → ℕ) → List ℕ → ℕ
total f [] = 0
total f (x ∷ xs) = f x + total f xs

abbrev pub is_variable : MlType → Bool
is_variable (ml.var v) = true
is_variable ml.int = false
is_variable ml.bool = false
is_variable ml.unit = false
is_variable (ml.arrow a b) = false
is_variable (ml.tuple ts) = false
is_variable (ml.array a) = false
is_variable (ml.named d ts) = false
is_variable (ml.map_of a) = false
