-- Each refined type has its simple type, and putting atoms for names keeps it.
use Rattle.std.proofs.Common.{ℕ, Bool, true, false, cond, ◌==◌, [], ◌∷◌, Option, Some, None}
use Rattle.lq_refined_types.specs.Parts.Part.{Parts, Scopes}
use Rattle.lq_refined_types.specs.Parts.Substitution.{swap, Subst}
use Rattle.lq_text_tree.specs.MlType as ml
use Rattle.lq_text_tree.specs.MlType.{MlType, MlTypes}
use Rattle.lq_refined_types.specs.Types.Operations.{atom_of, symbol_of, type_by, types_by, renamed}
use Rattle.lq_refined_types.specs.Types.Refined.{Matrix, Refined, int_with, bool_with, unit_type, function, tuple_of, array_with, data_with, map_with, type_variable, Refineds, none, more, Kind, erased, all_erased}
use Rattle.lq_refined_types.specs.Subtyping.Shaped.{HasShape, shape_int, shape_bool, shape_unit, shape_function, shape_tuple, shape_array, shape_data, shape_map, shape_variable, HaveShapes, shapes_none, shapes_more}

module _ (scopes : Scopes) where
  mutual
    pub shape_by : (θ : Subst) {s : MlType} {t : Refined} → HasShape s t → HasShape s (type_by scopes θ t)
    shape_by θ shape_int = shape_int
    shape_by θ shape_bool = shape_bool
    shape_by θ shape_unit = shape_unit
    shape_by θ (shape_function a b) = shape_function (shape_by θ a) (shape_by θ b)
    shape_by θ (shape_tuple ts) = shape_tuple (shapes_by θ ts)
    shape_by θ (shape_array e) = shape_array (shape_by θ e)
    shape_by θ (shape_data ts) = shape_data (shapes_by θ ts)
    shape_by θ (shape_map e) = shape_map (shape_by θ e)
    shape_by θ shape_variable = shape_variable

    shapes_by : (θ : Subst) {ss : MlTypes} {ts : Refineds} → HaveShapes ss ts → HaveShapes ss (types_by scopes θ ts)
    shapes_by θ shapes_none = shapes_none
    shapes_by θ (shapes_more t ts) = shapes_more (shape_by θ t) (shapes_by θ ts)

  shape_either : (b : Bool) (t u : Refined) {s : MlType} → HasShape s t → HasShape s u → HasShape s (cond b t u)
  shape_either true t u a b = a
  shape_either false t u a b = b

  pub shape_renamed : (x z : Option ℕ) (k : Kind) (t : Refined) {s : MlType} → HasShape s t → HasShape s (renamed scopes x z k t)
  shape_renamed None z k t a = a
  shape_renamed (Some x) None k t a = a
  shape_renamed (Some x) (Some z) k t a =
      let θ : Subst = swap (symbol_of x) (atom_of k (symbol_of z)) ∷ [] in shape_either (x == z) t (type_by scopes θ t) a (shape_by θ a)

mutual
  pub shape_erased : (t : Refined) → HasShape (erased t) t
  shape_erased (int_with p) = shape_int
  shape_erased (bool_with p) = shape_bool
  shape_erased unit_type = shape_unit
  shape_erased (function x a b) = shape_function (shape_erased a) (shape_erased b)
  shape_erased (tuple_of ts) = shape_tuple (shapes_erased ts)
  shape_erased (array_with e p) = shape_array (shape_erased e)
  shape_erased (data_with d ts m p) = shape_data (shapes_erased ts)
  shape_erased (map_with e p) = shape_map (shape_erased e)
  shape_erased (type_variable i) = shape_variable

  shapes_erased : (ts : Refineds) → HaveShapes (all_erased ts) ts
  shapes_erased none = shapes_none
  shapes_erased (more t ts) = shapes_more (shape_erased t) (shapes_erased ts)

-- the arguments of a datatype
pub argument_shapes : {d e : ℕ} {ss : MlTypes} {ts : Refineds} {m : Matrix} {p : Parts} → HasShape (ml.named d ss) (data_with e ts m p) → HaveShapes ss ts
argument_shapes (shape_data ts) = ts
