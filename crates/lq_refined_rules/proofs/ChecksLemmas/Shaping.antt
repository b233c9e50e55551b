-- A refined type has the simple type that it is without its parts, and no other.
use Rattle.std.proofs.Common.{◌≡◌, refl, sym, ap, ◌∙◌, subst}
use Rattle.lq_text_tree.specs.MlType as ml
use Rattle.lq_text_tree.specs.MlType.{MlType, MlTypes}
use Rattle.lq_refined_types.specs.Types.Refined.{Refined, int_with, bool_with, unit_type, function, tuple_of, array_with, data_with, map_with, type_variable, Refineds, none, more, erased, all_erased}
use Rattle.lq_refined_types.specs.Subtyping.Shaped.{HasShape, shape_int, shape_bool, shape_unit, shape_function, shape_tuple, shape_array, shape_data, shape_map, shape_variable, HaveShapes, shapes_none, shapes_more, SameShape}
use Rattle.lq_refined_rules.specs.Checks.Ready.{SameType}

mutual
  pub shape_erased : (t : Refined) → HasShape (erased t) t
  shape_erased (int_with p) = shape_int
  shape_erased (bool_with p) = shape_bool
  shape_erased unit_type = shape_unit
  shape_erased (function x a b) = shape_function (shape_erased a) (shape_erased b)
  shape_erased (tuple_of ts) = shape_tuple (shapes_erased ts)
  shape_erased (array_with e p) = shape_array (shape_erased e)
  shape_erased (data_with d ts m p) = shape_data (shapes_erased ts)
  shape_erased (map_with e p) = shape_map (shape_erased e)
  shape_erased (type_variable i) = shape_variable

  pub shapes_erased : (ts : Refineds) → HaveShapes (all_erased ts) ts
  shapes_erased none = shapes_none
  shapes_erased (more t ts) = shapes_more (shape_erased t) (shapes_erased ts)

pub both : {X Y Z : Type 0} (f : X → Y → Z) {a b : X} {c d : Y} → a ≡ b → c ≡ d → f a c ≡ f b d
both f {b = b} {c = c} e g = ap (λ x. f x c) e ∙ ap (λ y. f b y) g

mutual
  pub erased_is : {s : MlType} {t : Refined} → HasShape s t → erased t ≡ s
  erased_is shape_int = refl
  erased_is shape_bool = refl
  erased_is shape_unit = refl
  erased_is (shape_function a b) = both ml.arrow (erased_is a) (erased_is b)
  erased_is (shape_tuple ts) = ap ml.tuple (all_erased_is ts)
  erased_is (shape_array e) = ap ml.array (erased_is e)
  erased_is (shape_data {d = d} ts) = ap (ml.named d) (all_erased_is ts)
  erased_is (shape_map e) = ap ml.map_of (erased_is e)
  erased_is shape_variable = refl

  pub all_erased_is : {ss : MlTypes} {ts : Refineds} → HaveShapes ss ts → all_erased ts ≡ ss
  all_erased_is shapes_none = refl
  all_erased_is (shapes_more t ts) = both ml.more_types (erased_is t) (all_erased_is ts)

pub shape_of : {s : MlType} (t : Refined) → erased t ≡ s → HasShape s t
shape_of t e = subst (λ s. HasShape s t) e (shape_erased t)

pub shapes_of : {ss : MlTypes} (ts : Refineds) → all_erased ts ≡ ss → HaveShapes ss ts
shapes_of ts e = subst (λ ss. HaveShapes ss ts) e (shapes_erased ts)

pub same_shape : (l r : Refined) → SameType l r → SameShape l r
same_shape l r e = shape_of l e

pub same_type : {s : MlType} {l r : Refined} → HasShape s l → HasShape s r → SameType l r
same_type a b = erased_is a ∙ sym (erased_is b)
