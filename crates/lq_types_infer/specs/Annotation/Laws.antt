-- What the most general solution of a program's equations says of the program's types.
use Rattle.std.specs.Prelude.{◌≡◌, ℕ, ◌<◌, ◌==◌, true, List, None}
use Rattle.std.specs.List.{list_any}
use Rattle.lq_text_tree.specs.MlType.{MlType}
use Rattle.lq_types_rules.specs.declared.equations.system.System.{System}
use Rattle.lq_text_walk.specs.Scoped.Scoping.{Scoping, IsScoped}
use Rattle.lq_types_rules.specs.Typings.Principal.{node_count, IsPrincipalAnnotation, first_weak, variables_of}
use Rattle.lq_types_rules.specs.Visits.Laws.{slot_count, OwnSlots}
use Rattle.lq_types_infer.specs.Inference.Inferring.{IsSolved}

abbrev pub IsIn : List ℕ → ℕ → Type 0
IsIn xs v = list_any (λ x. x == v) xs ≡ true

-- The most general solution is a principal annotation.
abbrev pub SolvedIsPrincipal : Type 0
SolvedIsPrincipal = (s : Scoping) (equations : System) (types : ℕ → MlType) → IsScoped s → IsSolved s equations types → IsPrincipalAnnotation s types

-- a variable stands in the types of one item alone
abbrev pub AreVariablesApart : Scoping → (ℕ → MlType) → (ℕ → ℕ) → Type 0
AreVariablesApart s types owner =
    (j k v : ℕ) → j < slot_count s → k < slot_count s → IsIn (variables_of (types j)) v → IsIn (variables_of (types k)) v → owner j ≡ owner k

-- Where no definition is weak, no variable of the most general solution stands in the types of two items.
abbrev pub SolvedVariablesAreApart : Type 0
SolvedVariablesAreApart = (s : Scoping) (equations : System) (types : ℕ → MlType) → IsScoped s → IsSolved s equations types
    → first_weak types s.items ≡ None → (owner : ℕ → ℕ) → OwnSlots (node_count s) (slot_count s) owner 0 s.items → AreVariablesApart s types owner
