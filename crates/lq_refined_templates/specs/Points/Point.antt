-- Points: where a program takes templates, or types for type variables.
use Rattle.std.specs.Prelude.{ℕ, List, Option}
use Rattle.lq_refined_instances.specs.Scopes.{Scope}
use Rattle.lq_text_tree.specs.MlType.{MlType, MlTypes, no_types, more_types}

-- Each but the last has a scope, of which its unknowns may speak, and types.
pub data Point : Type 0 where
  -- a fresh template; where a function is written directly, with the names of its arguments, the first one first
  whole : Scope → List (Option ℕ) → MlType → Point
  -- a template without an unknown at its top: that of a value of a constructor with fields, whose top its equations are
  inner : Scope → MlType → Point
  -- the same of a constructor without a field: there is no value of its arguments, so none of them has an unknown at its top
  constant : Scope → MlType → Point
  -- of elements of which there are none
  empty : Scope → MlType → Point
  -- templates for the type variables of a use
  each : Scope → MlTypes → Point
  -- where no rule takes a template: there is no unknown
  idle : MlTypes → Point

abbrev pub one_type : MlType → MlTypes
one_type t = more_types t no_types

abbrev pub simple_types : Point → MlTypes
simple_types (whole Γ xs t) = one_type t
simple_types (inner Γ t) = one_type t
simple_types (constant Γ t) = one_type t
simple_types (empty Γ t) = one_type t
simple_types (each Γ ts) = ts
simple_types (idle ts) = ts

-- the point where no rule takes what it stands for
abbrev pub idled : Point → Point
idled p = idle (simple_types p)
