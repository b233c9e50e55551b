-- Stages, each of which goes on with what it gives or refuses, and one after the other.
use Rattle.std.specs.Prelude.{◌≡◌, ◌⊎◌, Result, Ok, Err}
use Rattle.std.proofs.Common.{inl, inr, subst}
use Rattle.lq_text_refusal.specs.declared.refused.Refused.{Refused}

-- for one input a stage goes on in one way, or refuses with one cause
abbrev pub HasOneAnswer : {A B : Type 0} → (A → Result B Refused → Type 0) → Type 0
HasOneAnswer {A} {B} R = (a : A) (r s : Result B Refused) → R a r → R a s → r ≡ s

-- The second stage goes on with what the first one gives. What the first refuses is refused.
abbrev pub Then : {A B C : Type 0} → (A → Result B Refused → Type 0) → (B → Result C Refused → Type 0) → A → Result C Refused → Type 0
Then {A} {B} {C} R S a (Ok c) = (b : B) × R a (Ok b) × S b (Ok c)
Then {A} {B} {C} R S a (Err e) = R a (Err e) ⊎ ((b : B) × R a (Ok b) × S b (Err e))

-- two stages with one answer each have one, one after the other
pub one_then : {A B C : Type 0} (R : A → Result B Refused → Type 0) (S : B → Result C Refused → Type 0) → HasOneAnswer R → HasOneAnswer S → HasOneAnswer (Then R S)
one_then {A} {B} {C} R S one two a r s x y = by_answers r s x y
  where
    same : (b c : B) → R a (Ok b) → R a (Ok c) → b ≡ c
    same b c p q = let e = one a (Ok b) (Ok c) p q in cc

    both : (b c : B) (u v : Result C Refused) → R a (Ok b) → S b u → R a (Ok c) → S c v → u ≡ v
    both b c u v p f q g = two c u v (subst (λ (d : B). S d u) (same b c p q) f) g

    not_both : {D : Type 0} (b : B) (e : Refused) → R a (Ok b) → R a (Err e) → D
    not_both {D} b e p q = absurd (let wrong = one a (Ok b) (Err e) p q in cc)

    by_answers : (u v : Result C Refused) → Then R S a u → Then R S a v → u ≡ v
    by_answers (Ok c) (Ok d) p q = both p.0 q.0 (Ok c) (Ok d) p.1 p.2 q.1 q.2
    by_answers (Ok c) (Err e) p (inl q) = not_both p.0 e p.1 q
    by_answers (Ok c) (Err e) p (inr q) = both p.0 q.0 (Ok c) (Err e) p.1 p.2 q.1 q.2
    by_answers (Err e) (Ok d) (inl p) q = not_both q.0 e q.1 p
    by_answers (Err e) (Ok d) (inr p) q = both p.0 q.0 (Err e) (Ok d) p.1 p.2 q.1 q.2
    by_answers (Err e) (Err f) (inl p) (inl q) = let is = one a (Err e) (Err f) p q in cc
    by_answers (Err e) (Err f) (inl p) (inr q) = not_both q.0 e q.1 p
    by_answers (Err e) (Err f) (inr p) (inl q) = not_both p.0 f p.1 q
    by_answers (Err e) (Err f) (inr p) (inr q) = both p.0 q.0 (Err e) (Err f) p.1 p.2 q.1 q.2
