-- Scopes that grow: what is there stays.
use Rattle.std.proofs.Common.{◌≡◌, ◌∙◌, ℕ, zero, suc, ◌-◌, ◌<◌, List, [], ◌∷◌, ◌++◌, length, drop, refl, sym, ap, append_assoc, arith}
use Rattle.std.proofs.lemmas.List.{append-nil, length-append}
use Rattle.lq_refined_instances.specs.Scopes.{Scope, scope_in}
use Rattle.lq_generate_reading.specs.Visibility.Scopes.{Longer}

pub scope_kept : (old new : List Scope) (i : ℕ) → Longer old new → i < length old → scope_in new i ≡ scope_in old i
scope_kept old new i l h = ap (λ k. scope_in k i) l.is ∙ left old l.added i h
  where
    left : (a b : List Scope) (i : ℕ) → i < length a → scope_in (a ++ b) i ≡ scope_in a i
    left [] b i h = absurd (omega arith)
    left (x ∷ a) b zero h = refl
    left (x ∷ a) b (suc i) h = left a b i (omega arith)

pub scope_there : (old new : List Scope) (i : ℕ) → Longer old new → i < length old → i < length new
scope_there old new i l h =
    let e : length new ≡ length (old ++ l.added) = ap length l.is in let k = length-append old l.added in omega (arith, e, k, h)

pub Longer-refl : (a : List Scope) → Longer a a
Longer-refl a = record { added = []; is = sym (append-nil a) }

pub Longer-trans : (a b c : List Scope) → Longer a b → Longer b c → Longer a c
Longer-trans a b c p q = record { added = p.added ++ q.added; is = q.is ∙ (ap (λ l. l ++ q.added) p.is ∙ append_assoc a p.added q.added) }

-- the last scope of a longer table
pub scope_pushed : (all : List Scope) (Γ : Scope) → scope_in (all ++ Γ ∷ []) (length all) ≡ Γ
scope_pushed [] Γ = refl
scope_pushed (x ∷ all) Γ = scope_pushed all Γ

-- names that were bound behind others are let go
pub front_dropped : {A : Type 0} (Γ Δ : List A) → drop (length (Γ ++ Δ) - length Δ) (Γ ++ Δ) ≡ Δ
front_dropped {A} Γ Δ = ap (λ k. drop k (Γ ++ Δ)) count ∙ whole Γ Δ
  where
    count : length (Γ ++ Δ) - length Δ ≡ length Γ
    count = let k = length-append Γ Δ in omega arith

    whole : (Γ Δ : List A) → drop (length Γ) (Γ ++ Δ) ≡ Δ
    whole [] Δ = refl
    whole (x ∷ Γ) Δ = whole Γ Δ
