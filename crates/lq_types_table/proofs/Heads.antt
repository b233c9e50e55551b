-- Parts of heads that take a fixed number of them.
use Rattle.std.proofs.Common.{◌≡◌, ℕ, List, [], ◌∷◌, length, get_or, refl, ap}

pub none_there : (ps : List ℕ) → length ps ≡ 0 → [] ≡ ps
none_there [] e = refl
none_there (p ∷ ps) e = absurd (cc)

pub one_there : (ps : List ℕ) → length ps ≡ 1 → get_or ps 0 0 ∷ [] ≡ ps
one_there [] e = absurd (cc)
one_there (p ∷ ps) e = ap (λ l. p ∷ l) (none_there ps (cc))

pub two_there : (ps : List ℕ) → length ps ≡ 2 → get_or ps 0 0 ∷ get_or ps 1 0 ∷ [] ≡ ps
two_there [] e = absurd (cc)
two_there (p ∷ ps) e = ap (λ l. p ∷ l) (one_there ps (cc))
