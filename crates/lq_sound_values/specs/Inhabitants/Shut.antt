-- Closed refined types: refined types with a value for each name and a closed type for each type variable.
use Rattle.std.specs.Prelude.{ℕ, zero, suc, Bool, true, false, List, [], ◌∷◌, ◌++◌, Option, Some, None}
use Rattle.lq_logic_predicates.specs.declared.symbol.Symbol.TheVariants as symbol
use Rattle.lq_meaning_steps.specs.Model.Core.{Value, Values, no_values, more_values}
use Rattle.lq_refined_types.specs.Parts.Part.{Parts}
use Rattle.lq_text_tree.specs.MlType as ml
use Rattle.lq_text_tree.specs.MlType.{MlType, MlTypes}
use Rattle.lq_refined_types.specs.Types.Operations.{symbol_of}
use Rattle.lq_refined_types.specs.Types.Refined.{Matrix, Refined, int_with, bool_with, unit_type, function, tuple_of, array_with, data_with, map_with, type_variable, Refineds, none, more}
use Rattle.lq_refined_types.specs.Types.Unfolding.{is_again, cell}
use Rattle.lq_sound_values.specs.Inhabitants.Truth.{Givens, given}

-- parts, and values for the names in them
pub record Closed : Type 0 where
  pub givens : Givens
  pub parts : Parts

abbrev pub Tops : Type 0
Tops = List Closed

abbrev pub closed : Givens → Parts → Closed
closed σ ps = record { givens = σ; parts = ps }

mutual
  pub data Shut : Type 0 where
    -- a type with values for its names, the first ones at its top and the second ones inside it, and with closed types for its variables
    read_at : Givens → Givens → Shuts → Refined → Shut
    -- a datatype of closed arguments
    datatype : ℕ → Shuts → Matrix → Shut
    -- more parts for the top, where there is one
    also : Shut → Tops → Shut

  pub data Shuts : Type 0 where
    no_shuts : Shuts
    more_shuts : Shut → Shuts → Shuts

-- a type with values for its names and closed types for its variables
abbrev pub shut : Givens → Shuts → Refined → Shut
shut σ by T = read_at σ σ by T

abbrev pub shut_all : Givens → Shuts → Refineds → Shuts
shut_all σ by none = no_shuts
shut_all σ by (more T Ts) = more_shuts (shut σ by T) (shut_all σ by Ts)

abbrev pub count_shuts : Shuts → ℕ
count_shuts no_shuts = 0
count_shuts (more_shuts T Ts) = suc (count_shuts Ts)

-- ---- form and top

-- The form of a closed type, without the parts of its top. A variable has the form of the type that is put for it, and of
-- unit where none is. No value is a map yet.
pub data Form : Type 0 where
  int_form : Form
  bool_form : Form
  unit_form : Form
  function_form : Givens → Shuts → Option ℕ → Refined → Refined → Form
  tuple_form : Givens → Shuts → Refineds → Form
  array_form : Shut → Form
  data_form : ℕ → Shuts → Matrix → Form
  no_form : Form

-- the form of a type, where those of the types for its variables are known
abbrev pub form_by : (ℕ → Form) → Givens → Shuts → Refined → Form
form_by at σ by (int_with p) = int_form
form_by at σ by (bool_with p) = bool_form
form_by at σ by unit_type = unit_form
form_by at σ by (function x A T) = function_form σ by x A T
form_by at σ by (tuple_of Ts) = tuple_form σ by Ts
form_by at σ by (array_with E p) = array_form (shut σ by E)
form_by at σ by (data_with d As M p) = data_form d (shut_all σ by As) M
form_by at σ by (map_with E p) = no_form
form_by at σ by (type_variable a) = at a

abbrev mutual
  pub form : Shut → Form
  form (read_at τ σ by T) = form_by (form_at by) σ by T
  form (datatype d As M) = data_form d As M
  form (also T q) = form T

  pub form_at : Shuts → ℕ → Form
  form_at no_shuts a = unit_form
  form_at (more_shuts T Ts) zero = form T
  form_at (more_shuts T Ts) (suc a) = form_at Ts a

-- what of more parts counts for a form: all where it has a top
abbrev pub for_top : Form → Tops → Tops
for_top int_form q = q
for_top bool_form q = q
for_top unit_form q = []
for_top (function_form σ by x A T) q = []
for_top (tuple_form σ by Ts) q = []
for_top (array_form E) q = q
for_top (data_form d As M) q = q
for_top no_form q = []

abbrev pub tops_by : (ℕ → Tops) → Givens → Refined → Tops
tops_by at τ (int_with p) = closed τ p ∷ []
tops_by at τ (bool_with p) = closed τ p ∷ []
tops_by at τ unit_type = []
tops_by at τ (function x A T) = []
tops_by at τ (tuple_of Ts) = []
tops_by at τ (array_with E p) = closed τ p ∷ []
tops_by at τ (data_with d As M p) = closed τ p ∷ []
tops_by at τ (map_with E p) = []
tops_by at τ (type_variable a) = at a

-- the parts of a closed type's top
abbrev mutual
  pub tops : Shut → Tops
  tops (read_at τ σ by T) = tops_by (tops_at by) τ T
  tops (datatype d As M) = []
  tops (also T q) = tops T ++ for_top (form T) q

  pub tops_at : Shuts → ℕ → Tops
  tops_at no_shuts a = []
  tops_at (more_shuts T Ts) zero = tops T
  tops_at (more_shuts T Ts) (suc a) = tops_at Ts a

-- ---- what is inside

-- the value for a function type's own name of its argument
abbrev pub with_argument : Option ℕ → Value → Givens → Givens
with_argument None a σ = σ
with_argument (Some x) a σ = given (symbol_of x) a ∷ σ

-- the values of the fields as `#k`, from the one behind the first j on
abbrev pub position : ℕ → Value → Givens → Givens
position j v σ = given (symbol.Position (suc j)) v ∷ σ

abbrev pub field_values : ℕ → Values → Givens
field_values j no_values = []
field_values j (more_values v vs) = position j v (field_values (suc j) vs)

-- The components from the one behind the first k on: the top of each under the earlier components' values as `#1`, `#2`, .., what is inside
-- it without them.
abbrev pub components : Givens → Shuts → Givens → ℕ → Refineds → Values → Shuts
components σ by τ k none vs = no_shuts
components σ by τ k (more T Ts) no_values = more_shuts (read_at τ σ by T) no_shuts
components σ by τ k (more T Ts) (more_values v vs) = more_shuts (read_at τ σ by T) (components σ by (position k v τ) (suc k) Ts vs)

-- a simple type without refinements, over its variables
abbrev mutual
  pub unrefined : MlType → Refined
  unrefined ml.int = int_with []
  unrefined ml.bool = bool_with []
  unrefined ml.unit = unit_type
  unrefined (ml.var a) = type_variable a
  unrefined (ml.arrow a b) = function None (unrefined a) (unrefined b)
  unrefined (ml.tuple ts) = tuple_of (all_unrefined ts)
  unrefined (ml.array a) = array_with (unrefined a) []
  unrefined (ml.named d ts) = data_with d (all_unrefined ts) [] []
  unrefined (ml.map_of a) = map_with (unrefined a) []

  pub all_unrefined : MlTypes → Refineds
  all_unrefined ml.no_types = none
  all_unrefined (ml.more_types t ts) = more (unrefined t) (all_unrefined ts)

-- the arguments, each with what the matrix has for it at a recursive field
abbrev pub pushed : Givens → Matrix → ℕ → ℕ → ℕ → Shuts → Shuts
pushed τ M c j i no_shuts = no_shuts
pushed τ M c j i (more_shuts A As) = more_shuts (also A (closed τ (cell M c j i) ∷ [])) (pushed τ M c j (suc i) As)

-- a field of a datatype: the datatype again, or its simple type with the arguments for the parameters
abbrev pub field_by : Bool → Givens → ℕ → Shuts → Matrix → ℕ → ℕ → MlType → Shut
field_by true τ d As M c j f = datatype d (pushed τ M c j 0 As) M
field_by false τ d As M c j f = shut [] As (unrefined f)

-- the types of the fields from the one behind the first j on, with the fields' values
abbrev pub unfolded : Givens → ℕ → Shuts → Matrix → ℕ → ℕ → MlTypes → Shuts
unfolded τ d As M c j ml.no_types = no_shuts
unfolded τ d As M c j (ml.more_types f fs) =
    more_shuts (field_by (is_again d (count_shuts As) f) τ d As M c j f) (unfolded τ d As M c (suc j) fs)
