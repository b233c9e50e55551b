-- Datatypes with other arguments and another matrix, and fields that keep the order of the arguments.
use Rattle.std.specs.Prelude.{◌≡◌, ℕ, [], ◌∷◌, Some}
use Rattle.lq_logic_predicates.specs.declared.symbol.Symbol.TheVariants as symbol
use Rattle.lq_meaning_steps.specs.Model.Core.{Value, v_whole, v_flag, v_array, v_build, Values, no_values, more_values}
use Rattle.lq_text_tree.specs.MlType as ml
use Rattle.lq_text_tree.specs.MlType.{MlType, MlTypes}
use Rattle.lq_text_tree.specs.Types.{Constructor, Signature}
use Rattle.lq_refined_types.specs.Types.Refined.{Matrix, Refined, int_with, bool_with, unit_type, function, tuple_of, array_with, data_with, map_with, type_variable, Kind, number, truth_value, object, other}
use Rattle.lq_refined_types.specs.Types.Unfolding.{cell}
use Rattle.lq_sound_values.specs.Inhabitants.Truth.{given, Scene, AreTrue}
use Rattle.lq_sound_values.specs.Inhabitants.Shut.{Shut, shut, datatype, Shuts, no_shuts, more_shuts, Form, int_form, bool_form, unit_form, function_form, tuple_form, array_form, data_form, no_form, form, tops, field_values, unrefined, unfolded}
use Rattle.lq_sound_values.specs.Inhabitants.Inhabits.{TopsTrue, Makes}
use Rattle.lq_sound_values.specs.Inhabitants.Below.{Below, AllBelow}

-- a value of the kind; a type without a kind of its own may have any
abbrev pub HasKind : Kind → Value → Type 0
HasKind number (v_whole n) = Unit {0}
HasKind truth_value (v_flag b) = Unit {0}
HasKind object (v_array r n) = Unit {0}
HasKind object (v_build c vs) = Unit {0}
HasKind other v = Unit {0}
HasKind _ v = ⊥

-- a value of the form's kind; no value is a map
abbrev pub FormHas : Form → Value → Type 0
FormHas int_form v = HasKind number v
FormHas bool_form v = HasKind truth_value v
FormHas unit_form v = Unit {0}
FormHas (function_form σ by x A T) v = Unit {0}
FormHas (tuple_form σ by Ts) v = Unit {0}
FormHas (array_form E) v = HasKind object v
FormHas (data_form d As M) v = HasKind object v
FormHas no_form v = ⊥

-- the same of a type; a variable may have any
abbrev pub TypeHas : Refined → Value → Type 0
TypeHas (int_with p) v = HasKind number v
TypeHas (bool_with p) v = HasKind truth_value v
TypeHas unit_type v = Unit {0}
TypeHas (function x A T) v = Unit {0}
TypeHas (tuple_of Ts) v = Unit {0}
TypeHas (array_with E p) v = HasKind object v
TypeHas (data_with d As M p) v = HasKind object v
TypeHas (map_with E p) v = ⊥
TypeHas (type_variable a) v = Unit {0}

-- the value is of the kind of the type's form, and the parts of the type's top are true of it
abbrev pub HasTops : Scene → Shut → Value → Type 0
HasTops S A v = FormHas (form A) v × TopsTrue S v (tops A)

abbrev pub AllHaveTops : Scene → Shuts → Values → Type 0
AllHaveTops S no_shuts no_values = Unit {0}
AllHaveTops S no_shuts (more_values v vs) = ⊥
AllHaveTops S (more_shuts A As) no_values = ⊥
AllHaveTops S (more_shuts A As) (more_values v vs) = HasTops S A v × AllHaveTops S As vs

-- The matrix M entails N: at each place, where the constructor's fields and the argument have their tops.
abbrev pub Entails : Scene → ℕ → Shuts → Matrix → Matrix → Type 0
Entails S d As M N =
    (c : ℕ) (k : Constructor) (vs : Values) → Makes S.setting.constructors d c k → AllHaveTops S (unfolded (field_values 0 vs) d As M c 0 k.fields) vs
    → (j i : ℕ) (u : Value) → HasTops S (shut [] As (type_variable i)) u
    → AreTrue S (given symbol.Value u ∷ field_values 0 vs) (cell M c j i) → AreTrue S (given symbol.Value u ∷ field_values 0 vs) (cell N c j i)

-- ---- fields

abbrev pub NoVariable : ℕ → Type 0
NoVariable i = ⊥

abbrev pub AnyVariable : ℕ → Type 0
AnyVariable i = Unit {0}

-- The variables of the type are among these, and none stands left of an arrow or under `array`.
abbrev mutual
  pub CovariantIn : (ℕ → Type 0) → MlType → Type 0
  CovariantIn P ml.int = Unit {0}
  CovariantIn P ml.bool = Unit {0}
  CovariantIn P ml.unit = Unit {0}
  CovariantIn P (ml.var i) = P i
  CovariantIn P (ml.arrow a b) = CovariantIn NoVariable a × CovariantIn P b
  CovariantIn P (ml.tuple ts) = AllCovariantIn P ts
  CovariantIn P (ml.array a) = CovariantIn NoVariable a
  CovariantIn P (ml.named d ts) = AllCovariantIn P ts
  CovariantIn P (ml.map_of a) = CovariantIn P a

  pub AllCovariantIn : (ℕ → Type 0) → MlTypes → Type 0
  AllCovariantIn P ml.no_types = Unit {0}
  AllCovariantIn P (ml.more_types t ts) = CovariantIn P t × AllCovariantIn P ts

-- the condition on type definitions: in no field of a constructor a parameter stands left of an arrow or under `array`
abbrev pub AreCovariant : Signature → Type 0
AreCovariant g = (c : ℕ) (k : Constructor) → g c ≡ Some k → AllCovariantIn AnyVariable k.fields

-- then what inhabits a datatype inhabits it with greater arguments and an entailed matrix
abbrev pub DatatypesFit : Type 0
DatatypesFit =
    (S : Scene) → AreCovariant S.setting.constructors → (d : ℕ) (As Bs : Shuts) (M N : Matrix) → Entails S d As M N → AllBelow S As Bs
    → Below S (datatype d As M) (datatype d Bs N)

-- and what inhabits a simple type inhabits it with greater types for its variables
abbrev pub FieldsKeep : Type 0
FieldsKeep =
    (S : Scene) → AreCovariant S.setting.constructors → (f : MlType) → CovariantIn AnyVariable f → (As Bs : Shuts) → AllBelow S As Bs
    → Below S (shut [] As (unrefined f)) (shut [] Bs (unrefined f))
