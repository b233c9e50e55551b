-- The first ones of some rows.
use Rattle.std.proofs.Common.{◌≡◌, ℕ, suc, zero, ◌≤◌, [], ◌∷◌, ◌++◌, refl, sym, ap, ◌∙◌, arith, length, take}
use Rattle.std.proofs.lemmas.List.{length-take, take-append-le}
use Rattle.lq_logic_rows.specs.Contradiction.{Tagged}
use Rattle.lq_prover_case.specs.State.Stored.{IsFront}

pub front_within : (some all : Tagged) → IsFront some all → length some ≤ length all
front_within some all f = let e = ap length f ∙ length-take (length some) all in omega arith

pub front_push : (some all more : Tagged) → IsFront some all → IsFront some (all ++ more)
front_push some all more f = let h = front_within some all f in f ∙ sym (take-append-le (length some) all more h)

-- the first ones of the first ones
pub front_take : (k : ℕ) (some all : Tagged) → IsFront some all → IsFront (take k some) (take k all)
front_take zero some all f = refl
front_take (suc k) [] all f = refl
front_take (suc k) (x ∷ some) [] f = absurd (cc)
front_take (suc k) (x ∷ some) (y ∷ all) f =
    let p : x ≡ y = cc in let q : some ≡ take (length some) all = cc in
    ap (λ z. z ∷ take k some) p ∙ ap (λ l. y ∷ l) (front_take k some all q)
