-- Scopes of a table made as lists of symbols.
use Rattle.std.proofs.Common.{◌≡◌, ◌∙◌, ℕ, zero, suc, ◌+◌, ◌<◌, ◌≤◌, ◌⊎◌, inl, inr, List, [], ◌∷◌, ◌++◌, Some, None, Bool, true, false, not, if◌then◌else◌, length, slice_index_or, refl, sym, ap, subst, append_assoc, arith}
use Rattle.std.proofs.lemmas.List.{append-nil, get_or_append_left, get_or_past, get_or_push, length-append, map_push}
use Rattle.lq_refined_instances.specs.Scopes.{Scope, is_hidden, scope_in, without}
use Rattle.lq_refined_instances.specs.Scopes as instances
use Rattle.lq_logic_predicates.specs.Sum.{same_symbol}
use Rattle.lq_logic_predicates.specs.declared.symbol.Symbol.{Symbol}
use Rattle.lq_refined_substitution.specs.Substitution.Scopes.{without as hiding}
use Rattle.lq_generate_fresh.specs.Scopes.Numbered.{list_at, symbols_at, symbols_of, AreAllMade, AreMade, Begins, Extends}

one_more : (i : ℕ) → suc i ≡ i + 1
one_more i = omega arith

-- ---- more lists

pub extends_there : (a b : List (List Symbol)) (i : ℕ) → Extends a b → i < length a → i < length b
extends_there a b i p h =
    let e : length b ≡ length (a ++ p.added) = ap length p.is in let k = length-append a p.added in omega (arith, e, k, h)

pub extends_kept : (a b : List (List Symbol)) (i : ℕ) → Extends a b → i < length a → list_at b i ≡ list_at a i
extends_kept a b i p h = ap (λ l. list_at l i) p.is ∙ get_or_append_left a p.added [] i h

pub begins_kept : (a b : List (List Symbol)) → Extends a b → Begins a → Begins b
begins_kept a b p h = record { there = extends_there a b 0 p h.there; empty = extends_kept a b 0 p h.there ∙ h.empty }

-- the list that was added last
pub last_is : (a b : List (List Symbol)) (x : List Symbol) (n : ℕ) → b ≡ a ++ x ∷ [] → n ≡ length a → list_at b n ≡ x
last_is a b x n e k = ap (λ l. list_at l n) e ∙ get_or_push a x [] n (sym k)

-- ---- one symbol more

pub symbols_push : (Γ : Scope) (v : instances.Visible) → symbols_of (Γ ++ v ∷ []) ≡ symbols_of Γ ++ v.0 ∷ []
symbols_push Γ v = map_push (λ (e : instances.Visible). e.0) Γ v

pub none_hidden : (Γ : Scope) → without None Γ ≡ Γ
none_hidden [] = refl
none_hidden (e ∷ Γ) = ap (λ Δ. e ∷ Δ) (none_hidden Γ)

-- where the parent shows everything
pub symbols_shown : (Γ Δ : Scope) (v : instances.Visible) → Γ ≡ without None Δ ++ v ∷ [] → symbols_of Γ ≡ symbols_of Δ ++ v.0 ∷ []
symbols_shown Γ Δ v e = ap symbols_of (e ∙ ap (λ (Θ : Scope). Θ ++ v ∷ []) (none_hidden Δ)) ∙ symbols_push Δ v

hidden_symbols : (h : instances.Visible) (Γ : Scope) → symbols_of (without (Some h) Γ) ≡ hiding h.0 (symbols_of Γ)
hidden_symbols h [] = refl
hidden_symbols h (e ∷ Γ) = by (same_symbol h.0 e.0) (hidden_symbols h Γ)
  where
    by : (b : Bool) → symbols_of (without (Some h) Γ) ≡ hiding h.0 (symbols_of Γ) → symbols_of (if not b then e ∷ without (Some h) Γ else without (Some h) Γ)
        ≡ (if not b then e.0 ∷ hiding h.0 (symbols_of Γ) else hiding h.0 (symbols_of Γ))
    by true rest = rest
    by false rest = ap (λ (xs : List Symbol). e.0 ∷ xs) rest

-- where one symbol of the parent is hidden
pub symbols_hidden : (Γ Δ : Scope) (h v : instances.Visible) → Γ ≡ without (Some h) Δ ++ v ∷ []
    → symbols_of Γ ≡ hiding h.0 (symbols_of Δ) ++ v.0 ∷ []
symbols_hidden Γ Δ h v e = ap symbols_of e ∙ symbols_push (without (Some h) Δ) v ∙ ap (λ (xs : List Symbol). xs ++ v.0 ∷ []) (hidden_symbols h Δ)

-- ---- the scopes that are made

module _ (all : List Scope) where
  pub made_kept : (a b : List (List Symbol)) (ns : List ℕ) → Extends a b → AreMade all a ns → AreMade all b ns
  made_kept a b ns p h = record {
    there = λ i k. extends_there a b (slice_index_or ns i 0) p (h.there i k);
    same = λ i k. extends_kept a b (slice_index_or ns i 0) p (h.there i k) ∙ h.same i k;
  }

  pub split : (i n : ℕ) → i < n + 1 → (i < n) ⊎ (i ≡ n)
  split i n h = grind arith

  pub made_push : (lists : List (List Symbol)) (ns longer : List ℕ) (n : ℕ) → AreMade all lists ns → n < length lists
      → list_at lists n ≡ symbols_at all (length ns) → longer ≡ ns ++ n ∷ [] → AreMade all lists longer
  made_push lists ns longer n h low is e =
      subst (AreMade all lists) (sym e) record {
        there = λ i k. elim (place i k) [
          | inl l ↦ subst (λ j. j < length lists) (sym (get_or_append_left ns (n ∷ []) 0 i l)) (h.there i l)
          | inr l ↦ subst (λ j. j < length lists) (sym (get_or_push ns n 0 i (sym l))) low
        ];
        same = λ i k. elim (place i k) [
          | inl l ↦ ap (list_at lists) (get_or_append_left ns (n ∷ []) 0 i l) ∙ h.same i l
          | inr l ↦ ap (list_at lists) (get_or_push ns n 0 i (sym l)) ∙ (is ∙ ap (symbols_at all) (sym l))
        ];
      }
    where
      place : (i : ℕ) → i < length (ns ++ n ∷ []) → (i < length ns) ⊎ (i ≡ length ns)
      place i k = let l = length-append ns (n ∷ []) in split i (length ns) (omega arith)

  pub behind : (l : List Scope) (i : ℕ) → length l ≤ i → scope_in l i ≡ []
  behind [] i h = refl
  behind (Γ ∷ l) zero h = absurd (omega arith)
  behind (Γ ∷ l) (suc i) h = behind l i (omega arith)

  pub either : (i n : ℕ) → (i < n) ⊎ (n ≤ i)
  either i n = grind arith

  -- each scope of the table by its number, those that aren't there too
  pub made_at : (lists : List (List Symbol)) (ns : List ℕ) (i : ℕ) → AreMade all lists ns → length ns ≡ length all → Begins lists
      → list_at lists (slice_index_or ns i 0) ≡ symbols_at all i
  made_at lists ns i h count b = elim (either i (length ns)) [
    | inl l ↦ h.same i l
    | inr l ↦ ap (list_at lists) (get_or_past ns i 0 l) ∙ (b.empty ∙ ap symbols_of (sym (behind all i (omega arith))))
  ]

pub made_all : (all : List Scope) (a b : List (List Symbol)) (ns : List ℕ) → AreMade all a ns → length ns ≡ length all → Begins a → Extends a b
    → AreAllMade all b ns
made_all all a b ns h count first e = record {
  there = λ i. elim (either all i (length ns)) [
    | inl l ↦ extends_there a b (slice_index_or ns i 0) e (h.there i l)
    | inr l ↦ subst (λ n. n < length b) (sym (get_or_past ns i 0 l)) (extends_there a b 0 e first.there)
  ];
  same = λ i. made_at all b ns i (made_kept all a b ns e h) count (begins_kept a b e first);
}

pub extends_on : (a b c : List (List Symbol)) → Extends a b → Extends b c → Extends a c
extends_on a b c p q = record {
  added = p.added ++ q.added;
  is = q.is ∙ (ap (λ l. l ++ q.added) p.is ∙ append_assoc a p.added q.added);
}
