-- When a refined type has a simple type.
use Rattle.std.specs.Prelude.{ℕ, Option}
use Rattle.lq_refined_types.specs.Parts.Part.{Parts}
use Rattle.lq_text_tree.specs.MlType as ml
use Rattle.lq_text_tree.specs.MlType.{MlType, MlTypes}
use Rattle.lq_refined_types.specs.Types.Refined.{Matrix, Refined, int_with, bool_with, unit_type, function, tuple_of, array_with, data_with, map_with, type_variable, Refineds, none, more, erased}

mutual
  pub data HasShape : MlType → Refined → Type 0 where
    shape_int : {p : Parts} → HasShape ml.int (int_with p)
    shape_bool : {p : Parts} → HasShape ml.bool (bool_with p)
    shape_unit : HasShape ml.unit unit_type
    shape_function : {x : Option ℕ} {s u : MlType} {a b : Refined} → HasShape s a → HasShape u b → HasShape (ml.arrow s u) (function x a b)
    shape_tuple : {ss : MlTypes} {ts : Refineds} → HaveShapes ss ts → HasShape (ml.tuple ss) (tuple_of ts)
    shape_array : {s : MlType} {e : Refined} {p : Parts} → HasShape s e → HasShape (ml.array s) (array_with e p)
    shape_data : {d : ℕ} {ss : MlTypes} {ts : Refineds} {m : Matrix} {p : Parts} → HaveShapes ss ts → HasShape (ml.named d ss) (data_with d ts m p)
    shape_map : {s : MlType} {e : Refined} {p : Parts} → HasShape s e → HasShape (ml.map_of s) (map_with e p)
    shape_variable : {i : ℕ} → HasShape (ml.var i) (type_variable i)

  pub data HaveShapes : MlTypes → Refineds → Type 0 where
    shapes_none : HaveShapes ml.no_types none
    shapes_more : {s : MlType} {ss : MlTypes} {t : Refined} {ts : Refineds} → HasShape s t → HaveShapes ss ts → HaveShapes (ml.more_types s ss) (more t ts)

-- two types have one simple type
abbrev pub SameShape : Refined → Refined → Type 0
SameShape l r = HasShape (erased r) l
