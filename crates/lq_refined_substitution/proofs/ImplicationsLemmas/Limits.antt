-- Lists of which at most so many items are kept.
use Rattle.std.proofs.Common.{◌≡◌, ℕ, zero, suc, ◌+◌, ◌<◌, ◌≤◌, min, List, [], ◌∷◌, ◌++◌, length, take, refl, sym, ap, ◌∙◌, append_assoc, arith}
use Rattle.std.proofs.lemmas.List.{append-nil, length-append, take_all, take-append-le}

module _ {X : Type 0} (n : ℕ) where
  -- a full list stays
  pub kept-full : (xs ys : List X) → length xs ≡ n → take n (xs ++ ys) ≡ xs
  kept-full xs ys h = take-append-le n xs ys (omega arith) ∙ take_all n xs (omega arith)

  pub kept-whole : (xs ys : List X) → length xs + length ys ≤ n → take n (xs ++ ys) ≡ xs ++ ys
  kept-whole xs ys h = take_all n (xs ++ ys) (omega (arith, length-append xs ys))

  pub kept-nothing : (xs : List X) → length xs ≤ n → xs ≡ take n (xs ++ [])
  kept-nothing xs h = sym (ap (take n) (append-nil xs) ∙ take_all n xs h)

-- what is kept, and then what is kept of more
pub kept-twice : {X : Type 0} (n : ℕ) (xs ys : List X) → take n (take n xs ++ ys) ≡ take n (xs ++ ys)
kept-twice zero xs ys = refl
kept-twice (suc n) [] ys = refl
kept-twice (suc n) (x ∷ xs) ys = ap (λ l. x ∷ l) (kept-twice n xs ys)

pub kept-after : {X : Type 0} (n : ℕ) (xs ys zs now next : List X) → now ≡ take n (xs ++ ys) → next ≡ take n (now ++ zs) → next ≡ take n (xs ++ (ys ++ zs))
kept-after n xs ys zs now next h k =
    k ∙ ap (λ l. take n (l ++ zs)) h ∙ kept-twice n (xs ++ ys) zs ∙ ap (take n) (append_assoc xs ys zs)

pub count-after : (m a b c d e : ℕ) → c ≡ min (a + b) m → d ≡ min (c + e) m → d ≡ min (a + (b + e)) m
count-after m a b c d e h k = omega arith
