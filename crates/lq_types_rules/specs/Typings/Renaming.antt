-- Annotations that are instances of each other: the variables of each item under other names.
use Rattle.std.specs.Prelude.{◌≡◌, ℕ, None}
use Rattle.lq_text_tree.specs.MlType.{MlType}
use Rattle.lq_text_walk.specs.Scoped.Scoping.{Scoping}
use Rattle.lq_types_rules.specs.Typings.Principal.{first_weak, IsInstance, IsPrincipalAnnotation}

-- Where no definition is weak, a principal annotation stays one under other names for the variables of each item.
abbrev pub RenamedArePrincipal : Type 0
RenamedArePrincipal = (s : Scoping) (types others : ℕ → MlType) → IsPrincipalAnnotation s types → first_weak types s.items ≡ None
    → IsInstance s types others → IsInstance s others types → IsPrincipalAnnotation s others
