-- The uses of generalised definitions in a program, and what instantiates each.
use Rattle.std.specs.Prelude.{◌≡◌, ℕ, ◌+◌, List, [], ◌∷◌, ◌++◌, Option, Some, None, length, slice_index_or}
use Rattle.lq_text_tree.specs.MlType.{MlType}
use Rattle.lq_text_tree.specs.Types.{put}
use Rattle.lq_types_table.specs.Nodes.{at}
use Rattle.lq_text_walk.specs.Walk.Visits.{Visit, visits_of_items}
use Rattle.lq_text_walk.specs.Scoped.Scoping.{Scoping}
use Rattle.lq_types_rules.specs.Typings.Uses.{Known, GeneralUse, none_known, behind, use_at}
use Rattle.lq_types_infer.specs.Annotation.Bounds.{bound_of}

abbrev pub listed_use : Option GeneralUse → List GeneralUse
listed_use None = []
listed_use (Some u) = u ∷ []

-- the uses that these visits leave, where this is known before them
abbrev pub uses_from : Known → List Visit → List GeneralUse
uses_from k [] = []
uses_from k (v ∷ vs) = listed_use (use_at k v) ++ uses_from (behind k v) vs

-- the uses of generalised definitions in a program, in the order in which their nodes end
abbrev pub uses_of : Scoping → List GeneralUse
uses_of s = uses_from none_known (visits_of_items s.items)

-- a number of the table for each variable of the definition's type
abbrev pub IsCounted : ℕ → (ℕ → MlType) → GeneralUse → List ℕ → Type 0
IsCounted nodes types u rows = length rows ≡ bound_of (types (nodes + u.binder))

-- With the types of these numbers in place of its variables the definition's type is the use's.
abbrev pub Instantiates : List MlType → ℕ → (ℕ → MlType) → GeneralUse → List ℕ → Type 0
Instantiates all nodes types u rows = types u.node ≡ put (λ v. at all (slice_index_or rows v 0)) (types (nodes + u.binder))
