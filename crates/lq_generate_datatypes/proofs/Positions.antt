-- Positions one after another.
use Rattle.std.proofs.Common.{◌≡◌, ◌∙◌, ℕ, zero, suc, ◌+◌, [], ◌∷◌, ◌++◌, ap, arith}
use Rattle.lq_logic_predicates.specs.Sum.{var}
use Rattle.lq_logic_predicates.specs.declared.symbol.Symbol.TheVariants.{Position}
use Rattle.lq_sound_programs.specs.Scenes.Scenes.{positions_from}

from : (j n k : ℕ) → k ≡ suc (j + n) → positions_from j n ++ var (Position k) ∷ [] ≡ positions_from j (suc n)
from j zero k e = let h : k ≡ suc j = omega arith in ap (λ i. var (Position i) ∷ []) h
from j (suc n) k e = ap (λ l. var (Position (suc j)) ∷ l) (from (suc j) n k (omega arith))

pub position-more : (n k : ℕ) → k ≡ n + 1 → positions_from 0 n ++ var (Position k) ∷ [] ≡ positions_from 0 (n + 1)
position-more n k e = let h : suc n ≡ n + 1 = omega arith in from 0 n k (omega arith) ∙ ap (positions_from 0) h
