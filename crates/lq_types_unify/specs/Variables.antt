-- The variables of a type.
use Rattle.std.specs.Prelude.{ℕ}
use Rattle.lq_types_unify.specs.Simple.{Simple, variable, made, Simples, none, more}

-- a fact holds of each variable of a type
abbrev mutual
  pub Each : (ℕ → Type 0) → Simple → Type 0
  Each P (variable v) = P v
  Each P (made h ts) = EachIn P ts

  pub EachIn : (ℕ → Type 0) → Simples → Type 0
  EachIn P none = Unit {0}
  EachIn P (more t ts) = Each P t × EachIn P ts
