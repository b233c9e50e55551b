-- Types as finite trees: a variable, or a head with its parts.
use Rattle.std.specs.Prelude.{ℕ, suc, ◌+◌, List, [], ◌∷◌}
use Rattle.lq_types_unify.specs.declared.arena.Head.{Head}

mutual
  pub data Simple : Type 0 where
    variable : ℕ → Simple
    made : Head → Simples → Simple

  pub data Simples : Type 0 where
    none : Simples
    more : Simple → Simples → Simples

-- the types that an assignment gives some nodes
abbrev pub each : (ℕ → Simple) → List ℕ → Simples
each types [] = none
each types (i ∷ is) = more (types i) (each types is)

-- a type in whose place each variable stands the type that it is given
abbrev mutual
  pub replaced : (ℕ → Simple) → Simple → Simple
  replaced by (variable v) = by v
  replaced by (made h ts) = made h (replaced_all by ts)

  pub replaced_all : (ℕ → Simple) → Simples → Simples
  replaced_all by none = none
  replaced_all by (more t ts) = more (replaced by t) (replaced_all by ts)

-- how many nodes a type has
abbrev mutual
  pub size : Simple → ℕ
  size (variable v) = 1
  size (made h ts) = suc (sizes ts)

  pub sizes : Simples → ℕ
  sizes none = 0
  sizes (more t ts) = size t + sizes ts
