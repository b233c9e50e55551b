-- The last of a list.
use Rattle.std.proofs.Common.{◌≡◌, ℕ, ◌-◌, ◌<◌, List, [], ◌∷◌, ◌++◌, length, take, Some, refl, sym, ap, ◌∙◌, subst, arith, length-append}
use Rattle.std.specs.List.{slice_get}
use Rattle.lq_prover_congruence.proofs.ClassesLemmas.Undone.{front-of}

pub snoc : {A : Type 0} (xs : List A) → 0 < length xs → (front : List A) × (x : A) × (xs ≡ front ++ x ∷ [])
snoc [] h = absurd (omega arith)
snoc (x ∷ []) h = ([], x, refl)
snoc (x ∷ y ∷ xs) h = let r = snoc (y ∷ xs) (omega arith) in (x ∷ r.0, r.1, ap (λ l. x ∷ l) r.2)

at-last : {A : Type 0} (xs : List A) (x : A) → slice_get (xs ++ x ∷ []) (length xs) ≡ Some x
at-last [] x = refl
at-last (y ∷ xs) x = at-last xs x

-- what a list ends with
pub ends-with : {A : Type 0} (xs : List A) (x : A) → slice_get xs (length xs - 1) ≡ Some x → (front : List A) × (xs ≡ front ++ x ∷ [])
ends-with [] x e = cc
ends-with {A} (y ∷ xs) x e =
    let v = snoc (y ∷ xs) (omega arith) in
    let P : List A → Type 0 = λ ys. slice_get ys (length ys - 1) ≡ Some x in
    let place : length (v.0 ++ v.1 ∷ []) - 1 ≡ length v.0 = omega (arith, length-append v.0 (v.1 ∷ [])) in
    let same : v.1 ≡ x = one v.1 x (sym (at-last v.0 v.1) ∙ ap (slice_get (v.0 ++ v.1 ∷ [])) (sym place) ∙ subst P v.2 e) in
    (v.0, v.2 ∙ ap (λ z. v.0 ++ z ∷ []) same)
  where
    one : {A : Type 0} (v w : A) → Some v ≡ Some w → v ≡ w
    one v w e = cc

-- what is left where it is taken off
pub taken-off : {A : Type 0} (xs rest : List A) (x : A) (n : ℕ) → slice_get xs (length xs - 1) ≡ Some x → n ≡ length xs → rest ≡ take (n - 1) xs → xs ≡ rest ++ x ∷ []
taken-off xs rest x n e l r =
    let v = ends-with xs x e in
    v.1 ∙ ap (λ front. front ++ x ∷ []) (sym (r ∙ front-of xs v.0 x n l v.1))
