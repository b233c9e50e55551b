-- The parts of a closed type's top, and more of them.
use Rattle.std.proofs.Common.{ℕ, [], ◌∷◌, ◌++◌}
use Rattle.lq_meaning_steps.specs.Model.Core.{Value, v_whole, v_flag, v_unit, v_fun, v_rec, v_tuple, v_array, v_build, Values}
use Rattle.lq_logic_predicates.specs.declared.symbol.Symbol.TheVariants as symbol
use Rattle.lq_refined_types.specs.Types.Refined.{Refined, int_with, bool_with, unit_type, function, tuple_of, array_with, data_with, map_with, type_variable, top}
use Rattle.lq_sound_values.specs.Inhabitants.Truth.{Givens, given, Scene, AreTrue}
use Rattle.lq_sound_values.specs.Inhabitants.Shut.{Tops, Shut, shut, read_at, also, Shuts, shut_all, Form, int_form, bool_form, unit_form, function_form, tuple_form, array_form, data_form, no_form, form, for_top, tops}
use Rattle.lq_text_tree.specs.Types.{Signature}
use Rattle.lq_sound_values.specs.Inhabitants.Inhabits.{Table, Slot, Calls, TopsTrue, OnWhole, OnFlag, OnUnit, OnFunction, OnTuple, OnArray, OnData, Kept, HasForm, AllFitBy, FitsBy}
use Rattle.lq_sound_values.specs.Inhabitants.Datatypes.{FormHas, TypeHas, HasTops}

pub tops_append : (S : Scene) (v : Value) (p q : Tops) → TopsTrue S v p → TopsTrue S v q → TopsTrue S v (p ++ q)
tops_append S v [] q h k = k
tops_append S v (r ∷ p) q h k = (h.0, tops_append S v p q h.1 k)

pub tops_first : (S : Scene) (v : Value) (p q : Tops) → TopsTrue S v (p ++ q) → TopsTrue S v p
tops_first S v [] q h = tt
tops_first S v (r ∷ p) q h = (h.0, tops_first S v p q h.1)

pub tops_second : (S : Scene) (v : Value) (p q : Tops) → TopsTrue S v (p ++ q) → TopsTrue S v q
tops_second S v [] q h = h
tops_second S v (r ∷ p) q h = tops_second S v p q h.1

-- parts of which all are true count for no form less
pub for_top_true : (S : Scene) (v : Value) (F : Form) (q : Tops) → TopsTrue S v q → TopsTrue S v (for_top F q)
for_top_true S v int_form q h = h
for_top_true S v bool_form q h = h
for_top_true S v unit_form q h = tt
for_top_true S v (function_form σ by x A T) q h = tt
for_top_true S v (tuple_form σ by Ts) q h = tt
for_top_true S v (array_form E) q h = h
for_top_true S v (data_form d As M) q h = h
for_top_true S v no_form q h = tt

-- where a value is of a form, what of more parts counts for the form
whole_top : (S : Scene) (v : Value) (q : Tops) (F : Form) → OnWhole F → TopsTrue S v (for_top F q) → TopsTrue S v q
whole_top S v q int_form h t = t
whole_top S v q _ h t = absurd h

flag_top : (S : Scene) (v : Value) (q : Tops) (F : Form) → OnFlag F → TopsTrue S v (for_top F q) → TopsTrue S v q
flag_top S v q bool_form h t = t
flag_top S v q _ h t = absurd h

array_top : (S : Scene) (kept : Shut → Type 0) (v : Value) (q : Tops) (F : Form) → OnArray kept F → TopsTrue S v (for_top F q) → TopsTrue S v q
array_top S kept v q (array_form E) h t = t
array_top S kept v q _ h t = absurd h

data_top : (S : Scene) (g : Signature) (fit : Shuts → Type 0) (c : ℕ) (vs : Values) (v : Value) (q : Tops) (F : Form) → OnData g fit c vs F → TopsTrue S v (for_top F q) → TopsTrue S v q
data_top S g fit c vs v q (data_form d As M) h t = t
data_top S g fit c vs v q _ h t = absurd h

unit_top : (S : Scene) (v : Value) (r : Tops) (F : Form) → OnUnit F → TopsTrue S v (for_top F r)
unit_top S v r unit_form h = tt
unit_top S v r _ h = absurd h

function_top : (S : Scene) (calls : Calls) (v : Value) (r : Tops) (F : Form) → OnFunction calls F → TopsTrue S v (for_top F r)
function_top S calls v r (function_form σ by x A T) h = tt
function_top S calls v r _ h = absurd h

tuple_top : (S : Scene) (fit : Shuts → Type 0) (vs : Values) (v : Value) (r : Tops) (F : Form) → OnTuple fit vs F → TopsTrue S v (for_top F r)
tuple_top S fit vs v r (tuple_form σ by Ts) h = tt
tuple_top S fit vs v r _ h = absurd h

module _ (S : Scene) (calls : Value → Table → Calls) (same : Table → Slot → Shut → Type 0) (W : Table) where
  -- what is of a form is of its kind
  pub form_has : (F : Form) (v : Value) → HasForm S calls same W F v → FormHas F v
  form_has int_form (v_whole i) h = tt
  form_has int_form _ h = absurd h
  form_has bool_form (v_flag b) h = tt
  form_has bool_form _ h = absurd h
  form_has unit_form v h = tt
  form_has (function_form σ by x A T) v h = tt
  form_has (tuple_form σ by Ts) v h = tt
  form_has (array_form E) (v_array r i) h = tt
  form_has (array_form E) _ h = absurd h
  form_has (data_form d As M) (v_build c vs) h = tt
  form_has (data_form d As M) _ h = absurd h
  form_has no_form v_unit h = absurd h
  form_has no_form _ h = absurd h

  -- where a value is of two forms, more parts count for both or for neither
  top_follows : (F G : Form) (q r : Tops) (v : Value) → HasForm S calls same W F v → HasForm S calls same W G v → (TopsTrue S v q → TopsTrue S v r) → TopsTrue S v (for_top F q) → TopsTrue S v (for_top G r)
  top_follows F G q r (v_whole i) h k f t = for_top_true S (v_whole i) G r (f (whole_top S (v_whole i) q F h t))
  top_follows F G q r (v_flag b) h k f t = for_top_true S (v_flag b) G r (f (flag_top S (v_flag b) q F h t))
  top_follows F G q r v_unit h k f t = unit_top S v_unit r G k
  top_follows F G q r (v_fun p b) h k f t = function_top S (calls (v_fun p b) W) (v_fun p b) r G k
  top_follows F G q r (v_rec z p b) h k f t = function_top S (calls (v_rec z p b) W) (v_rec z p b) r G k
  top_follows F G q r (v_tuple vs) h k f t = tuple_top S (λ Ts. AllFitBy S calls same W Ts vs) vs (v_tuple vs) r G k
  top_follows F G q r (v_array a i) h k f t =
      for_top_true S (v_array a i) G r (f (array_top S (λ E. Kept (same W) W a i E) (v_array a i) q F h t))
  top_follows F G q r (v_build c vs) h k f t =
      for_top_true S (v_build c vs) G r (f (data_top S S.setting.constructors (λ Ts. AllFitBy S calls same W Ts vs) c vs (v_build c vs) q F h t))

  -- what inhabits a type is of its kind and has its top
  pub fits_tops : (A : Shut) (v : Value) → FitsBy S calls same W A v → HasTops S A v
  fits_tops A v h = (form_has (form A) v h.0, h.1)

  pub also_back : (A : Shut) (q : Tops) (v : Value) → FitsBy S calls same W (also A q) v → FitsBy S calls same W A v
  also_back A q v h = (h.0, tops_first S v (tops A) (for_top (form A) q) h.1)

  pub also_follows : (A B : Shut) (q r : Tops) (v : Value) → (FitsBy S calls same W A v → FitsBy S calls same W B v) → (HasTops S A v → TopsTrue S v q → TopsTrue S v r) → FitsBy S calls same W (also A q) v → FitsBy S calls same W (also B r) v
  also_follows A B q r v f g h =
      let a = also_back A q v h in
      let b = f a in
      (b.0, tops_append S v (tops B) (for_top (form B) r) b.1 (top_follows (form A) (form B) q r v a.0 b.0 (g (fits_tops A v a)) (tops_second S v (tops A) (for_top (form A) q) h.1)))

-- ---- a type with values for its names

module _ (S : Scene) (calls : Value → Table → Calls) (same : Table → Slot → Shut → Type 0) (W : Table) (τ σ : Givens) (by : Shuts) where
  -- what inhabits it is of its kind
  pub type_has : (T : Refined) (v : Value) → FitsBy S calls same W (read_at τ σ by T) v → TypeHas T v
  type_has (int_with p) v h = form_has S calls same W int_form v h.0
  type_has (bool_with p) v h = form_has S calls same W bool_form v h.0
  type_has unit_type v h = tt
  type_has (function x A T) v h = tt
  type_has (tuple_of Ts) v h = tt
  type_has (array_with E p) v h = form_has S calls same W (array_form (shut σ by E)) v h.0
  type_has (data_with d As M p) v h = form_has S calls same W (data_form d (shut_all σ by As) M) v h.0
  type_has (map_with E p) v h = form_has S calls same W no_form v h.0
  type_has (type_variable a) v h = tt

  -- and its parts are true of it
  pub top_true : (T : Refined) (v : Value) → FitsBy S calls same W (read_at τ σ by T) v → AreTrue S (given symbol.Value v ∷ τ) (top T)
  top_true (int_with p) v h = h.1.0
  top_true (bool_with p) v h = h.1.0
  top_true unit_type v h = tt
  top_true (function x A T) v h = tt
  top_true (tuple_of Ts) v h = tt
  top_true (array_with E p) v h = h.1.0
  top_true (data_with d As M p) v h = h.1.0
  top_true (map_with E p) v h = absurd (form_has S calls same W no_form v h.0)
  top_true (type_variable a) v h = tt
