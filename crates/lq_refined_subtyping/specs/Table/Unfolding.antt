-- The types of a constructor's fields, which stand as types with variables.
use Rattle.std.specs.Prelude.{◌≡◌, ℕ, suc, cond, List, [], ◌∷◌, None}
use Rattle.lq_refined_types.specs.Parts.Part.{Scopes, parts_by}
use Rattle.lq_refined_types.specs.Types.Operations.{instantiated}
use Rattle.lq_refined_types.specs.Types.Refined.{Refined, int_with, bool_with, unit_type, function, tuple_of, array_with, data_with, map_with, type_variable, Refineds, none, more, strengthened}
use Rattle.lq_refined_types.specs.Types.Unfolding.{cell, is_again, pushed}
use Rattle.lq_refined_substitution.specs.Substitution.Views.{subst_view}
use Rattle.lq_text_tree.specs.MlType as ml
use Rattle.lq_text_tree.specs.MlType.{MlType, MlTypes}
use Rattle.lq_refined_subtyping.specs.declared.table.unfolding.Field.{Field}
use Rattle.lq_refined_subtyping.specs.declared.table.unfolding.Unfolded.{Unfolded}
use Rattle.lq_refined_subtyping.specs.Table.Forms.{at, each, matrix_view}

-- a type without refinements, with its variables
abbrev mutual
  pub plain : MlType → Refined
  plain ml.int = int_with []
  plain ml.bool = bool_with []
  plain ml.unit = unit_type
  plain (ml.var i) = type_variable i
  plain (ml.arrow a b) = function None (plain a) (plain b)
  plain (ml.tuple ts) = tuple_of (all_plain ts)
  plain (ml.array a) = array_with (plain a) []
  plain (ml.named d ts) = data_with d (all_plain ts) [] []
  plain (ml.map_of a) = map_with (plain a) []

  pub all_plain : MlTypes → Refineds
  all_plain ml.no_types = none
  all_plain (ml.more_types t ts) = more (plain t) (all_plain ts)

-- the fields have these types, and it is said right of each whether it is the datatype of so many parameters again
abbrev pub AreFields : List Refined → ℕ → ℕ → List Field → MlTypes → Type 0
AreFields all d n [] ml.no_types = Unit {0}
AreFields all d n (x ∷ xs) (ml.more_types f fs) = (at all x.plain ≡ plain f) × (x.is_again ≡ is_again d n f) × AreFields all d n xs fs
AreFields all d n [] (ml.more_types f fs) = ⊥
AreFields all d n (x ∷ xs) ml.no_types = ⊥

-- the type of the field at a place
abbrev pub field_type : Scopes → Unfolded → List Refined → ℕ → ℕ → Field → Refined
field_type scopes u all c j x =
    let ts = each all u.arguments.now in
    let m = matrix_view u.matrix.now in
    cond x.is_again (data_with u.name.0 (pushed scopes (subst_view u.by.now) m c j 0 ts) m []) (instantiated ts (at all x.plain))

-- what is made of each of a row, which counts its place
abbrev pub numbered_from : {A : Type 0} → (ℕ → A → Refined) → ℕ → List A → List Refined
numbered_from F k [] = []
numbered_from F k (x ∷ xs) = F k x ∷ numbered_from F (suc k) xs

-- the type of the argument at a place, with what the matrix has for it at a recursive field
abbrev pub pushed_type : Scopes → Unfolded → List Refined → ℕ → ℕ → ℕ → ℕ → Refined
pushed_type scopes u all c j i p = strengthened (parts_by scopes (subst_view u.by.now) (cell (matrix_view u.matrix.now) c j i)) (at all p)
