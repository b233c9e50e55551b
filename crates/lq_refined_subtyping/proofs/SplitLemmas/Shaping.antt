-- Types of one simple type.
use Rattle.std.proofs.Common.{◌≡◌, ℕ, Bool, true, false, cond, ◌==◌, [], ◌∷◌, Option, Some, None, subst}
use Rattle.lq_refined_types.specs.Parts.Part.{Scopes}
use Rattle.lq_refined_types.specs.Parts.Substitution.{swap, Subst}
use Rattle.lq_text_tree.specs.MlType.{MlType, MlTypes}
use Rattle.lq_refined_types.specs.Types.Operations.{atom_of, symbol_of, type_by, types_by, renamed}
use Rattle.lq_refined_types.specs.Types.Refined.{Refined, int_with, bool_with, unit_type, function, tuple_of, array_with, data_with, map_with, type_variable, Refineds, none, more, Kind, erased, all_erased}
use Rattle.lq_refined_types.specs.Subtyping.Shaped.{HasShape, shape_int, shape_bool, shape_unit, shape_function, shape_tuple, shape_array, shape_data, shape_map, shape_variable, HaveShapes, shapes_none, shapes_more}

mutual
  pub shape-erased : (t : Refined) → HasShape (erased t) t
  shape-erased (int_with p) = shape_int
  shape-erased (bool_with p) = shape_bool
  shape-erased unit_type = shape_unit
  shape-erased (function x a b) = shape_function (shape-erased a) (shape-erased b)
  shape-erased (tuple_of ts) = shape_tuple (shapes-erased ts)
  shape-erased (array_with e p) = shape_array (shape-erased e)
  shape-erased (data_with d ts m p) = shape_data (shapes-erased ts)
  shape-erased (map_with e p) = shape_map (shape-erased e)
  shape-erased (type_variable i) = shape_variable

  shapes-erased : (ts : Refineds) → HaveShapes (all_erased ts) ts
  shapes-erased none = shapes_none
  shapes-erased (more t ts) = shapes_more (shape-erased t) (shapes-erased ts)

pub shape-same : (l r : Refined) → erased l ≡ erased r → HasShape (erased r) l
shape-same l r e = subst (λ s. HasShape s l) e (shape-erased l)

module _ (scopes : Scopes) where
  mutual
    shape-by : (θ : Subst) {s : MlType} {t : Refined} → HasShape s t → HasShape s (type_by scopes θ t)
    shape-by θ shape_int = shape_int
    shape-by θ shape_bool = shape_bool
    shape-by θ shape_unit = shape_unit
    shape-by θ (shape_function a b) = shape_function (shape-by θ a) (shape-by θ b)
    shape-by θ (shape_tuple ts) = shape_tuple (shapes-by θ ts)
    shape-by θ (shape_array e) = shape_array (shape-by θ e)
    shape-by θ (shape_data ts) = shape_data (shapes-by θ ts)
    shape-by θ (shape_map e) = shape_map (shape-by θ e)
    shape-by θ shape_variable = shape_variable

    shapes-by : (θ : Subst) {ss : MlTypes} {ts : Refineds} → HaveShapes ss ts → HaveShapes ss (types_by scopes θ ts)
    shapes-by θ shapes_none = shapes_none
    shapes-by θ (shapes_more t ts) = shapes_more (shape-by θ t) (shapes-by θ ts)

  shape-either : (b : Bool) (t u : Refined) {s : MlType} → HasShape s t → HasShape s u → HasShape s (cond b t u)
  shape-either true t u a b = a
  shape-either false t u a b = b

  pub shape_renamed : (x z : Option ℕ) (k : Kind) (t : Refined) {s : MlType} → HasShape s t → HasShape s (renamed scopes x z k t)
  shape_renamed None z k t a = a
  shape_renamed (Some x) None k t a = a
  shape_renamed (Some x) (Some z) k t a =
      let θ : Subst = swap (symbol_of x) (atom_of k (symbol_of z)) ∷ [] in shape-either (x == z) t (type_by scopes θ t) a (shape-by θ a)
