-- Refined types, their parts, and their simple types.
use Rattle.std.specs.Prelude.{ℕ, zero, suc, List, [], ◌++◌, Option, None}
use Rattle.lq_refined_types.specs.Parts.Part.{Parts}
use Rattle.lq_text_tree.specs.MlType as ml
use Rattle.lq_text_tree.specs.MlType.{MlType, MlTypes}

-- an entry of a matrix: the parts of a parameter at a recursive field of a constructor, both counted from 0
pub record Cell : Type 0 where
  pub constructor : ℕ
  pub field : ℕ
  pub parameter : ℕ
  pub parts : Parts

abbrev pub Matrix : Type 0
Matrix = List Cell

mutual
  -- A type with parts at its top, where it has a top. A function may name its argument; the elements of a map may speak of its key.
  pub data Refined : Type 0 where
    int_with : Parts → Refined
    bool_with : Parts → Refined
    unit_type : Refined
    function : Option ℕ → Refined → Refined → Refined
    tuple_of : Refineds → Refined
    array_with : Refined → Parts → Refined
    data_with : ℕ → Refineds → Matrix → Parts → Refined
    map_with : Refined → Parts → Refined
    type_variable : ℕ → Refined

  pub data Refineds : Type 0 where
    none : Refineds
    more : Refined → Refineds → Refineds

-- what a value of the type is in predicates: a number, a truth value, an object, or nothing
pub data Kind : Type 0 where
  number : Kind
  truth_value : Kind
  object : Kind
  other : Kind

abbrev pub kind : Refined → Kind
kind (int_with p) = number
kind (bool_with p) = truth_value
kind unit_type = other
kind (function x a b) = other
kind (tuple_of ts) = other
kind (array_with e p) = object
kind (data_with d ts m p) = object
kind (map_with e p) = other
kind (type_variable i) = other

-- the parts of a type; of a type of another form, nothing
abbrev pub top : Refined → Parts
top (int_with p) = p
top (bool_with p) = p
top unit_type = []
top (function x a b) = []
top (tuple_of ts) = []
top (array_with e p) = p
top (data_with d ts m p) = p
top (map_with e p) = p
top (type_variable i) = []

abbrev pub binder_of : Refined → Option ℕ
binder_of (function x a b) = x
binder_of _ = None

abbrev pub argument_of : Refined → Refined
argument_of (function x a b) = a
argument_of _ = unit_type

abbrev pub result_of : Refined → Refined
result_of (function x a b) = b
result_of _ = unit_type

abbrev pub element_of : Refined → Refined
element_of (array_with e p) = e
element_of (map_with e p) = e
element_of _ = unit_type

abbrev pub components_of : Refined → Refineds
components_of (tuple_of ts) = ts
components_of _ = none

abbrev pub arguments_of : Refined → Refineds
arguments_of (data_with d ts m p) = ts
arguments_of _ = none

abbrev pub matrix_of : Refined → Matrix
matrix_of (data_with d ts m p) = m
matrix_of _ = []

abbrev pub type_at : Refineds → ℕ → Refined
type_at none i = unit_type
type_at (more t ts) zero = t
type_at (more t ts) (suc i) = type_at ts i

abbrev pub count : Refineds → ℕ
count none = 0
count (more t ts) = suc (count ts)

-- the type with these parts at its top, where it has a top
abbrev pub with_top : Parts → Refined → Refined
with_top q (int_with p) = int_with q
with_top q (bool_with p) = bool_with q
with_top q unit_type = unit_type
with_top q (function x a b) = function x a b
with_top q (tuple_of ts) = tuple_of ts
with_top q (array_with e p) = array_with e q
with_top q (data_with d ts m p) = data_with d ts m q
with_top q (map_with e p) = map_with e q
with_top q (type_variable i) = type_variable i

-- more parts for the top
abbrev pub strengthened : Parts → Refined → Refined
strengthened q t = with_top (top t ++ q) t

-- ---- simple types

abbrev mutual
  pub erased : Refined → MlType
  erased (int_with p) = ml.int
  erased (bool_with p) = ml.bool
  erased unit_type = ml.unit
  erased (function x a b) = ml.arrow (erased a) (erased b)
  erased (tuple_of ts) = ml.tuple (all_erased ts)
  erased (array_with e p) = ml.array (erased e)
  erased (data_with d ts m p) = ml.named d (all_erased ts)
  erased (map_with e p) = ml.map_of (erased e)
  erased (type_variable i) = ml.var i

  pub all_erased : Refineds → MlTypes
  all_erased none = ml.no_types
  all_erased (more t ts) = ml.more_types (erased t) (all_erased ts)
