-- Twins of names, and sets of names.
use Rattle.std.proofs.Common.{◌≡◌, ℕ, ◌+◌, ◌<◌, ◌≤◌, ◌^◌, ltb, arith, Bool, true, false, cond, refl, sym, ap, ◌∙◌}
use Rattle.std.proofs.lemmas.Bool.{ltb-false, lt-ltb, le-ltb}
use Rattle.lq_sound_values.specs.Inclusion.Symbols.{Symbols, with_symbol}
use Rattle.lq_sound_scope.specs.Scopes.Over.{IsWithin}
use Rattle.lq_logic_predicates.specs.declared.symbol.Symbol.{Symbol}
use Rattle.lq_refined_types.specs.Types.Operations.{symbol_of, twin_of}
use Rattle.lq_sound_values.specs.Twins.Names.{with_twins}
use Rattle.lq_sound_values.proofs.RunsLemmas.Closing.{with_within}

-- ---- truth values

pub clash : (b : Bool) → b ≡ true → b ≡ false → ⊥
clash true p q = cc
clash false p q = cc

pub false_unless : (b : Bool) → (b ≡ true → ⊥) → b ≡ false
false_unless true h = absurd (h refl)
false_unless false h = refl

-- ---- numbers

module _ (L : ℕ) where
  abbrev twin_at : ℕ → ℕ
  twin_at x = cond (ltb x L) (x + L) x

  big_at : (x : ℕ) → L ≤ twin_at x
  big_at x = by (ltb x L) (ltb-false x L)
    where
      by : (b : Bool) → (b ≡ false → L ≤ x) → L ≤ cond b (x + L) x
      by true h = omega arith
      by false h = h refl

  own_at : (x : ℕ) → L ≤ x → twin_at x ≡ x
  own_at x h = ap (λ b. cond b (x + L) x) (le-ltb x L h)

  moved_at : (x : ℕ) → x < L → twin_at x ≡ x + L
  moved_at x h = ap (λ b. cond b (x + L) x) (lt-ltb x L h)

  one_at : (x y : ℕ) → x < L → y < L → twin_at x ≡ twin_at y → x ≡ y
  one_at x y h k e =
      let f : x + L ≡ y + L = sym (moved_at x h) ∙ e ∙ moved_at y k in omega (arith, f)

  apart_at : (x y : ℕ) → x < L → L ≤ y → x ≡ y → ⊥
  apart_at x y h k e = omega (arith, h, k, e)

pub twin_big : (x : ℕ) → 2 ^ 31 ≤ twin_of x
twin_big x = big_at (2 ^ 31) x

pub twin_twin : (x : ℕ) → twin_of (twin_of x) ≡ twin_of x
twin_twin x = own_at (2 ^ 31) (twin_of x) (twin_big x)

pub twin_one : (x y : ℕ) → x < 2 ^ 31 → y < 2 ^ 31 → twin_of x ≡ twin_of y → x ≡ y
twin_one x y h k e = one_at (2 ^ 31) x y h k e

pub big_small : (x y : ℕ) → x < 2 ^ 31 → 2 ^ 31 ≤ y → x ≡ y → ⊥
big_small x y h k e = apart_at (2 ^ 31) x y h k e

-- ---- sets of names

pub not_in : (Q R : Symbols) → IsWithin Q R → (y : Symbol) → R y ≡ false → Q y ≡ false
not_in Q R w y h = false_unless (Q y) (λ e. clash (R y) (w y e) h)

pub within_twins : (Q R : Symbols) → IsWithin Q R → (x : ℕ) → IsWithin (with_twins Q x) (with_twins R x)
within_twins Q R w x =
    with_within (with_symbol Q (symbol_of x)) (with_symbol R (symbol_of x)) (symbol_of (twin_of x)) (with_within Q R (symbol_of x) w)

-- names below the bound alone
abbrev pub AreSmall : Symbols → Type 0
AreSmall Q = (z : ℕ) → Q (symbol_of z) ≡ true → z < 2 ^ 31

-- no twin is among them
pub twin_outside : (Q : Symbols) → AreSmall Q → (x : ℕ) → Q (symbol_of (twin_of x)) ≡ false
twin_outside Q small x = false_unless (Q (symbol_of (twin_of x))) (λ e. big_small (twin_of x) (twin_of x) (small (twin_of x) e) (twin_big x) refl)
