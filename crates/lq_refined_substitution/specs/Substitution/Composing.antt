-- Replacements after others, one by one.
use Rattle.std.proofs.Common.{◌≡◌, [], ◌∷◌, ◌++◌, map, refl, ap}
use Rattle.lq_refined_types.specs.Parts.Substitution.{Swap, Subst, swap, after, atom_by}

-- with something put into what is put for the symbol
abbrev pub put_in : Subst → Swap → Swap
put_in θ (swap x a) = swap x (atom_by θ a)

pub after-map : (θ σ : Subst) → after θ σ ≡ map (put_in θ) σ ++ θ
after-map θ [] = refl
after-map θ (swap x a ∷ σ) = ap (λ ss. swap x (atom_by θ a) ∷ ss) (after-map θ σ)
