-- What operations give, and what environments have, has the simple types of a typed tree.
use Rattle.std.proofs.Common.{◌≡◌, ℕ, suc, Bool, true, false, cond, ◌==◌, List, [], ◌∷◌, Option, Some, None, refl, ap, ◌∙◌, subst}
use Rattle.lq_refined_types.specs.Parts.Part.{Parts, Scopes, parts_by}
use Rattle.lq_refined_types.specs.Parts.Substitution.{of_sum, swap, Subst}
use Rattle.lq_logic_predicates.specs.declared.symbol.Symbol.TheVariants.{Position}
use Rattle.lq_refined_types.specs.Types.Context.{Context, type_in}
use Rattle.lq_refined_types.specs.Types.Laws.{KeepSimpleTypes}
use Rattle.lq_refined_types.specs.Types.Operations.{atom_of, symbol_of, applied, renamed}
use Rattle.lq_refined_types.specs.Types.Refined.{Refined, data_with, Refineds, Kind, number, truth_value, object, other, kind, top, binder_of, argument_of, result_of, element_of, components_of, arguments_of, matrix_of, with_top, erased, all_erased}
use Rattle.lq_refined_types.specs.Types.Unfolding.{unfolded}
use Rattle.lq_refined_types.specs.Subtyping.Shaped.{HasShape, shape_int, shape_bool, shape_unit, shape_function, shape_tuple, shape_array, shape_data, shape_map, shape_variable, HaveShapes, shapes_none, shapes_more}
use Rattle.lq_refined_types.specs.Subtyping.Splitting.{first_of, rest_of}
use Rattle.lq_refined_types.specs.Subtyping.Subtype.{fields_of, with_guards}
use Rattle.lq_text_tree.specs.MlType as ml
use Rattle.lq_text_tree.specs.MlType.{MlType, MlTypes}
use Rattle.lq_text_tree.specs.Types as types
use Rattle.lq_text_tree.specs.Types.{Constructor, put, put_all}
use Rattle.lq_refined_rules.specs.Checks.Basis.{Basis}
use Rattle.lq_refined_rules.specs.Checks.Binders.{IsNewName, AreNewNames, IsNotIn}
use Rattle.lq_refined_rules.specs.Checks.Fitting.{Fits, fits_none, fits_bind, fits_guard}
use Rattle.lq_refined_rules.specs.Checks.Match.{name_for, names_for, bind_all, bind_components, value_as, fields_by, arm_context}
use Rattle.lq_refined_rules.specs.Checks.Operation.{empty_by, empty_type, empty_types, built_arguments, datatype_of, equations_by, keyed, all_keyed, element_at, type_of, field_types, bind}
use Rattle.lq_refined_rules.specs.Checks.Pure.{sum_of, variable_by, variable_type, instance_of, type_of_use, pure_type, pure_types, pure_atom, operands_for}
use Rattle.lq_refined_rules.specs.Checks.Ready.{SameTypes}
use Rattle.lq_refined_rules.specs.Checks.Tree.{Use, Pure, Pattern, pattern_build, names_of, Operation}
use Rattle.lq_refined_rules.specs.Checks.Typing as h
use Rattle.lq_refined_rules.specs.Checks.Typing.{Points, AreTemplates, Types, simple_type_in, first_type, rest_types, with_types, fields_at, HasPure, has_whole, has_flag, has_unit, has_use, has_negated, has_add, has_subtract, has_multiply, has_length, has_compare, has_not, has_and, has_or, HavePures, have_none, have_more, IsPointed, HasPattern, has_any, has_name, has_nothing, has_components, has_fields, HasOperation, has_pure, has_fun, has_if, has_match, has_call, has_tuple, has_build, has_make, has_fetch, has_store, has_divide, has_remainder, has_assert, has_assert_false, has_read, has_print, has_map_empty, has_map_add, has_map_find}
use Rattle.lq_refined_rules.proofs.ChecksLemmas.Binding.{AreNotIn, with_names}
use Rattle.lq_refined_rules.proofs.ChecksLemmas.Shaping.{erased_is, all_erased_is, shape_of, shapes_of, same_type, both}

-- ---- parts of shaped types

pub first_shape : {ss : MlTypes} {ts : Refineds} → HaveShapes ss ts → HasShape (first_type ss) (first_of ts)
first_shape shapes_none = shape_unit
first_shape (shapes_more s ss) = s

pub rest_shapes : {ss : MlTypes} {ts : Refineds} → HaveShapes ss ts → HaveShapes (rest_types ss) (rest_of ts)
rest_shapes shapes_none = shapes_none
rest_shapes (shapes_more s ss) = ss

pub argument_shape : {s u : MlType} {t : Refined} → HasShape (ml.arrow s u) t → HasShape s (argument_of t)
argument_shape (shape_function a b) = a

pub result_shape : {s u : MlType} {t : Refined} → HasShape (ml.arrow s u) t → HasShape u (result_of t)
result_shape (shape_function a b) = b

pub element_shape : {s : MlType} {t : Refined} → HasShape (ml.array s) t → HasShape s (element_of t)
element_shape (shape_array e) = e

pub map_element_shape : {s : MlType} {t : Refined} → HasShape (ml.map_of s) t → HasShape s (element_of t)
map_element_shape (shape_map e) = e

pub argument_shapes : {d : ℕ} {ss : MlTypes} {t : Refined} → HasShape (ml.named d ss) t → HaveShapes ss (arguments_of t)
argument_shapes (shape_data ts) = ts

pub component_shapes : {ss : MlTypes} {t : Refined} → HasShape (ml.tuple ss) t → HaveShapes ss (components_of t)
component_shapes (shape_tuple ts) = ts

shape_top : (q : Parts) {s : MlType} {t : Refined} → HasShape s t → HasShape s (with_top q t)
shape_top q shape_int = shape_int
shape_top q shape_bool = shape_bool
shape_top q shape_unit = shape_unit
shape_top q (shape_function a b) = shape_function a b
shape_top q (shape_tuple ts) = shape_tuple ts
shape_top q (shape_array e) = shape_array e
shape_top q (shape_data ts) = shape_data ts
shape_top q (shape_map e) = shape_map e
shape_top q shape_variable = shape_variable

empty_shape_by : (k : Kind) {s : MlType} {t : Refined} → HasShape s t → HasShape s (empty_by k t)
empty_shape_by number a = shape_top _ a
empty_shape_by truth_value a = shape_top _ a
empty_shape_by object a = shape_top _ a
empty_shape_by other a = a

empty_shape : {s : MlType} {t : Refined} → HasShape s t → HasShape s (empty_type t)
empty_shape {t = t} a = empty_shape_by (kind t) a

empty_shapes : {ss : MlTypes} {ts : Refineds} → HaveShapes ss ts → HaveShapes ss (empty_types ts)
empty_shapes shapes_none = shapes_none
empty_shapes (shapes_more s ss) = shapes_more (empty_shape s) (empty_shapes ss)

built_shapes : (es : List Pure) {ss : MlTypes} {ts : Refineds} → HaveShapes ss ts → HaveShapes ss (built_arguments es ts)
built_shapes [] ss = empty_shapes ss
built_shapes (e ∷ es) ss = ss

built_shape : (es : List Pure) (q : Parts) {d : ℕ} {ss : MlTypes} {t : Refined} → HasShape (ml.named d ss) t
    → HasShape (ml.named d ss) (data_with (datatype_of t) (built_arguments es (arguments_of t)) (matrix_of t) q)
built_shape es q (shape_data ts) = shape_data (built_shapes es ts)

module _ (scopes : Scopes) (θ : Subst) where
  mutual
    keyed_shape : {s : MlType} {t : Refined} → HasShape s t → HasShape s (keyed scopes θ t)
    keyed_shape shape_int = shape_int
    keyed_shape shape_bool = shape_bool
    keyed_shape shape_unit = shape_unit
    keyed_shape (shape_function a b) = shape_function (keyed_shape a) (keyed_shape b)
    keyed_shape (shape_tuple ts) = shape_tuple (keyed_shapes ts)
    keyed_shape (shape_array e) = shape_array (keyed_shape e)
    keyed_shape (shape_data ts) = shape_data (keyed_shapes ts)
    keyed_shape (shape_map e) = shape_map e
    keyed_shape shape_variable = shape_variable

    keyed_shapes : {ss : MlTypes} {ts : Refineds} → HaveShapes ss ts → HaveShapes ss (all_keyed scopes θ ts)
    keyed_shapes shapes_none = shapes_none
    keyed_shapes (shapes_more s ss) = shapes_more (keyed_shape s) (keyed_shapes ss)

pub at_key_shape : (scopes : Scopes) (k : Pure) {s : MlType} {t : Refined} → HasShape (ml.map_of s) t → HasShape s (element_at scopes k t)
at_key_shape scopes k a = keyed_shape scopes (swap (Position 0) (of_sum (sum_of k)) ∷ []) (map_element_shape a)

-- ---- environments

abbrev pub names_in : Types → List ℕ
names_in [] = []
names_in (n ∷ Δ) = n.0 ∷ names_in Δ

pub fit : {Δ : Types} {Γ : Context} {x : ℕ} {s : MlType} {t : Refined} → HasShape s t → Fits Δ Γ → Fits ((x, s) ∷ Δ) (bind x t Γ)
fit a f = fits_bind (erased_is a) f

either_shape : (b : Bool) {s u : MlType} {l r : Refined} → HasShape s l → HasShape u r → HasShape (cond b s u) (cond b l r)
either_shape true a b = a
either_shape false a b = b

shape_in : {Δ : Types} {Γ : Context} → Fits Δ Γ → (x : ℕ) → HasShape (simple_type_in Δ x) (type_in Γ (symbol_of x))
shape_in fits_none x = shape_unit
shape_in (fits_bind {x = y} {t = t} e f) x = either_shape (y == x) (shape_of t e) (shape_in f x)
shape_in (fits_guard f) x = shape_in f x

pub new_fits : {Δ : Types} {Γ : Context} → Fits Δ Γ → (x : ℕ) → IsNotIn (names_in Δ) x → IsNewName x Γ
new_fits fits_none x n = tt
new_fits (fits_bind s f) x n = (n.0, new_fits f x n.1)
new_fits (fits_guard f) x n = new_fits f x n

pub all_new_fit : {Δ : Types} {Γ : Context} → Fits Δ Γ → (xs : List ℕ) → AreNotIn (names_in Δ) xs → AreNewNames xs Γ
all_new_fit f [] n = tt
all_new_fit f (x ∷ xs) n = (new_fits f x n.0, all_new_fit (fit shape_unit f) xs n.1)

guards_fit : (qs : Parts) {Δ : Types} {Γ : Context} → Fits Δ Γ → Fits Δ (with_guards qs Γ)
guards_fit [] f = f
guards_fit (q ∷ qs) f = guards_fit qs (fits_guard f)

names_fit : (xs : List ℕ) {ss : MlTypes} {ts : Refineds} {Δ : Types} {Γ : Context} → HaveShapes ss ts → Fits Δ Γ
    → Fits (with_types xs ss Δ) (bind_all xs ts Γ)
names_fit [] ss f = f
names_fit (x ∷ xs) ss f = names_fit xs (rest_shapes ss) (fit (first_shape ss) f)

components_fit : (scopes : Scopes) (xs : List ℕ) (θ : Subst) (j : ℕ) (us : MlTypes) (ts : Refineds) {Δ : Types} {Γ : Context}
    → HaveShapes us ts → Fits Δ Γ → Fits (with_types xs us Δ) (bind_components scopes θ j xs ts Γ)
components_fit scopes [] θ j us ts ss f = f
components_fit scopes (x ∷ xs) θ j us ts ss f =
    components_fit scopes xs (name_for j x (first_of ts) ∷ θ) (suc j) (rest_types us) (rest_of ts) (rest_shapes ss)
    (fit (shape_top (parts_by scopes θ (top (first_of ts))) (first_shape ss)) f)

names_typed : (xs : List ℕ) (us : MlTypes) (Δ : Types) → names_in (with_types xs us Δ) ≡ with_names xs (names_in Δ)
names_typed [] us Δ = refl
names_typed (x ∷ xs) us Δ = names_typed xs (rest_types us) ((x, first_type us) ∷ Δ)

pub pattern_names : {P : Basis} {Δ Θ : Types} {a : MlType} {q : Pattern} → HasPattern P Δ a q Θ
    → names_in Θ ≡ with_names (names_of q) (names_in Δ)
pattern_names has_any = refl
pattern_names has_name = refl
pattern_names has_nothing = refl
pattern_names (has_components {Δ = Δ} {us = us} {xs = xs} n) = names_typed xs us Δ
pattern_names (has_fields {Δ = Δ} {k = k} {us = us} {xs = xs} e n m) = names_typed xs (fields_at us k) Δ

-- ---- what the operations on refined types keep

both_put : {us vs : MlTypes} {a b : MlType} → us ≡ vs → a ≡ b → put (types.type_at us) a ≡ put (types.type_at vs) b
both_put e g = both (λ us a. put (types.type_at us) a) e g

both_put_all : {us vs ss rs : MlTypes} → us ≡ vs → ss ≡ rs → put_all (types.type_at us) ss ≡ put_all (types.type_at vs) rs
both_put_all e g = both (λ us ss. put_all (types.type_at us) ss) e g

module _ (keeps : KeepSimpleTypes) (P : Basis) (Q : Points) (are : AreTemplates P Q) where
  kept : {s : MlType} {t : Refined} (u : Refined) → erased u ≡ erased t → HasShape s t → HasShape s u
  kept u e a = shape_of u (e ∙ erased_is a)

  put_shape : (x : Option ℕ) (a : _) {s : MlType} {t : Refined} → HasShape s t → HasShape s (applied P.setting.scopes x a t)
  put_shape None a b = b
  put_shape (Some x) a {t = t} b = kept _ (keeps.putting P.setting.scopes (swap (symbol_of x) a ∷ []) t) b

  either_one : (b : Bool) {s : MlType} {l r : Refined} → HasShape s l → HasShape s r → HasShape s (cond b l r)
  either_one true a b = a
  either_one false a b = b

  pub renamed_shape : (x z : Option ℕ) (k : Kind) {s : MlType} {t : Refined} → HasShape s t → HasShape s (renamed P.setting.scopes x z k t)
  renamed_shape None z k a = a
  renamed_shape (Some x) None k a = a
  renamed_shape (Some x) (Some z) k a = either_one (x == z) a (put_shape (Some x) (atom_of k (symbol_of z)) a)

  variable_shape_by : (k : Kind) (x : ℕ) {s : MlType} {t : Refined} → HasShape s t → HasShape s (variable_by P.setting.scopes k x t)
  variable_shape_by number x {t = t} a = kept _ (keeps.naming t _) a
  variable_shape_by truth_value x {t = t} a = kept _ (keeps.naming t _) a
  variable_shape_by object x {t = t} a = kept _ (keeps.naming t _) a
  variable_shape_by other x {t = t} a = kept _ (keeps.twinning P.setting.scopes t) a

  variable_shape : (x : ℕ) {s : MlType} {t : Refined} → HasShape s t → HasShape s (variable_type P.setting.scopes x t)
  variable_shape x {t = t} a = variable_shape_by (kind t) x a

  instance_shape : (Γ : Context) (o : Option ℕ) {s : MlType} {t : Refined} → HasShape s t
      → HasShape (h.instance_of Q o s) (instance_of P Γ o t)
  instance_shape Γ None a = a
  instance_shape Γ (Some i) {s = s} {t = t} a =
      let e : put (types.type_at (all_erased (P.type_arguments i))) (erased t) ≡ put (types.type_at (Q.type_arguments i)) s = both_put
      (are.type_arguments i) (erased_is a) in
      shape_of _ (keeps.instantiating (P.type_arguments i) t ∙ e)

  pub use_shape : {Δ : Types} {Γ : Context} → Fits Δ Γ → (u : Use) → HasShape (h.type_of_use Q Δ u) (type_of_use P Γ u)
  use_shape {Γ = Γ} f u = instance_shape Γ u.type_arguments (shape_in f u.name)

  pub use_is : {Δ : Types} {Γ : Context} → Fits Δ Γ → (u : Use) {s : MlType} → h.type_of_use Q Δ u ≡ s → HasShape s (type_of_use P Γ u)
  use_is {Γ = Γ} f u e = subst (λ s. HasShape s (type_of_use P Γ u)) e (use_shape f u)

  pub pure_shape : {Δ : Types} {Γ : Context} {e : Pure} {s : MlType} → Fits Δ Γ → HasPure Q Δ e s → HasShape s (pure_type P Γ e)
  pure_shape f has_whole = shape_int
  pure_shape f has_flag = shape_bool
  pure_shape f has_unit = shape_unit
  pure_shape f (has_use {u = u}) = variable_shape u.name (use_shape f u)
  pure_shape f (has_negated a) = shape_int
  pure_shape f (has_add a b) = shape_int
  pure_shape f (has_subtract a b) = shape_int
  pure_shape f (has_multiply a b) = shape_int
  pure_shape f (has_length a) = shape_int
  pure_shape f (has_compare a b) = shape_bool
  pure_shape f (has_not a) = shape_bool
  pure_shape f (has_and a b) = shape_bool
  pure_shape f (has_or a b) = shape_bool

  pure_shapes : {Δ : Types} {Γ : Context} {es : List Pure} {ss : MlTypes} → Fits Δ Γ → HavePures Q Δ es ss
      → HaveShapes ss (pure_types P Γ es)
  pure_shapes f have_none = shapes_none
  pure_shapes f (have_more a rest) = shapes_more (pure_shape f a) (pure_shapes f rest)

  pub operands_same : {Δ : Types} {Γ : Context} {es : List Pure} {ss : MlTypes} {ts : Refineds} → Fits Δ Γ → HavePures Q Δ es ss
      → HaveShapes ss ts → SameTypes P Γ es ts
  operands_same f have_none ss = tt
  operands_same f (have_more a rest) ss = (same_type (pure_shape f a) (first_shape ss), operands_same f rest (rest_shapes ss))

  pub point_shape : (p : ℕ) {s : MlType} → Q.point p ≡ s → HasShape s (P.template p)
  point_shape p e = shape_of (P.template p) (are.templates p ∙ e)

  field_shapes : (θ : Subst) (d : ℕ) (ts : Refineds) (m : _) (c : ℕ) {us : MlTypes} {k : Constructor} → P.setting.constructors c ≡ Some k
      → HaveShapes us ts → HaveShapes (fields_at us k) (unfolded P.setting.scopes θ d ts m c (fields_of (P.setting.constructors c)))
  field_shapes θ d ts m c {us = us} {k = k} e ss =
      let fs = fields_of (P.setting.constructors c) in
      let q : put_all (types.type_at (all_erased ts)) fs ≡ put_all (types.type_at us) k.fields = both_put_all (all_erased_is ss)
      (ap fields_of e) in
      shapes_of _ (keeps.fields P.setting.scopes θ d ts m c fs ∙ q)

  pub operand_shapes : (Γ : Context) (p c : ℕ) (es : List Pure) {d : ℕ} {us : MlTypes} {k : Constructor} → P.setting.constructors c ≡ Some k
      → Q.point p ≡ ml.named d us → HaveShapes (fields_at us k) (field_types P Γ p c es)
  operand_shapes Γ p c es e q =
      let t = P.template p in
      field_shapes (operands_for P Γ 0 es) (datatype_of t) (arguments_of t) (matrix_of t) c e (argument_shapes (point_shape p q))

  build_fits : {Δ : Types} {Γ : Context} (x c : ℕ) (xs : List ℕ) {d : ℕ} {us : MlTypes} {k : Constructor} {t : Refined} → Fits Δ Γ
      → P.setting.constructors c ≡ Some k → HasShape (ml.named d us) t
      → Fits (with_types xs (fields_at us k) Δ) (arm_context P Γ x t (pattern_build c xs))
  build_fits {Γ = Γ} x c xs {t = t} f e s =
      let θ = names_for 0 xs (fields_by P Γ x t c []) in
      guards_fit (equations_by P c (value_as x ∷ θ))
      (names_fit xs (field_shapes θ (datatype_of t) (arguments_of t) (matrix_of t) c e (argument_shapes s)) f)

  -- the environment of an arm has the types of its pattern
  pub pattern_fits : {Δ Θ : Types} {Γ : Context} (x : ℕ) {s : MlType} {t : Refined} {q : Pattern} → Fits Δ Γ → HasShape s t
      → HasPattern P Δ s q Θ → Fits Θ (arm_context P Γ x t q)
  pattern_fits x f s has_any = f
  pattern_fits x f s has_name = fit (variable_shape x s) f
  pattern_fits x f s has_nothing = f
  pattern_fits x {t = t} f s (has_components {us = us} {xs = xs} n) =
      components_fit P.setting.scopes xs [] 0 us (components_of t) (component_shapes s) f
  pattern_fits x f s (has_fields {c = c} {xs = xs} e n m) = build_fits x c xs f e s

  -- what an operation gives has its simple type
  pub operation_shape : {Δ : Types} {Γ : Context} {o : Operation} {s : MlType} → Fits Δ Γ → HasOperation P Q Δ o s → IsPointed Q o s
      → HasShape s (type_of P Γ o)
  operation_shape f (has_pure a) i = pure_shape f a
  operation_shape f (has_fun {p = p} b) e = point_shape p e
  operation_shape f (has_if {p = p} a b c) e = point_shape p e
  operation_shape f (has_match {p = p} arms) e = point_shape p e
  operation_shape {Γ = Γ} f (has_call {f = g} {e = a} k b) i =
      put_shape (binder_of (pure_type P Γ g)) (pure_atom P Γ a) (result_shape (pure_shape f k))
  operation_shape f (has_tuple es) i = shape_tuple (pure_shapes f es)
  operation_shape {Γ = Γ} f (has_build {p = p} {c = c} {es = es} e n q hs) i =
      built_shape es (equations_by P c (operands_for P Γ 0 es)) (point_shape p q)
  operation_shape f (has_make {p = p} e n a) i = shape_array (point_shape p e)
  operation_shape f (has_fetch {u = u} e k) i = element_shape (use_is f u e)
  operation_shape f (has_store e k a) i = shape_unit
  operation_shape f (has_divide x y) i = shape_int
  operation_shape f (has_remainder x y) i = shape_int
  operation_shape f (has_assert a) i = shape_unit
  operation_shape f (has_assert_false {p = p} e) i = point_shape p e
  operation_shape f (has_read a) i = shape_int
  operation_shape f (has_print a) i = shape_unit
  operation_shape f (has_map_empty {p = p} e) i = shape_map (empty_shape (point_shape p e))
  operation_shape f (has_map_add {p = p} e k a m) i = point_shape p e
  operation_shape f (has_map_find {k = k} a m) i = shape_data (shapes_more (at_key_shape P.setting.scopes k (pure_shape f m)) shapes_none)
