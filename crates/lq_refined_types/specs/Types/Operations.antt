-- Operations on refined types: what is put for names and for type variables, types of values, twins, and types under an assignment.
use Rattle.std.specs.Prelude.{ℕ, ltb, ◌==◌, ◌+◌, ◌^◌, cond, [], ◌∷◌, map, Option, Some, None}
use Rattle.lq_base_names.specs.declared.operation.CompareOp.TheVariants.{Eq}
use Rattle.lq_refined_types.specs.Parts.Assignment.{Assignment, parts_under}
use Rattle.lq_refined_types.specs.Parts.Part.{known, Parts, Scopes, parts_by}
use Rattle.lq_refined_types.specs.Parts.Substitution.{Atom, of_sum, of_formula, swap, Subst}
use Rattle.lq_logic_predicates.specs.Formula.{Formula, truth, flag, compare, objects, equivalence}
use Rattle.lq_logic_predicates.specs.Sum.{var}
use Rattle.lq_logic_predicates.specs.declared.symbol.Symbol.{Symbol}
use Rattle.lq_logic_predicates.specs.declared.symbol.Symbol.TheVariants.{Value, Bound}
use Rattle.lq_refined_types.specs.Types.Refined.{Matrix, Refined, int_with, bool_with, unit_type, function, tuple_of, array_with, data_with, map_with, type_variable, Refineds, none, more, Kind, number, truth_value, object, other, kind, type_at, with_top}

-- types for the type variables
abbrev mutual
  pub instantiated : Refineds → Refined → Refined
  instantiated by (int_with p) = int_with p
  instantiated by (bool_with p) = bool_with p
  instantiated by unit_type = unit_type
  instantiated by (function x a b) = function x (instantiated by a) (instantiated by b)
  instantiated by (tuple_of ts) = tuple_of (all_instantiated by ts)
  instantiated by (array_with e p) = array_with (instantiated by e) p
  instantiated by (data_with d ts m p) = data_with d (all_instantiated by ts) m p
  instantiated by (map_with e p) = map_with (instantiated by e) p
  instantiated by (type_variable i) = type_at by i

  pub all_instantiated : Refineds → Refineds → Refineds
  all_instantiated by none = none
  all_instantiated by (more t ts) = more (instantiated by t) (all_instantiated by ts)

-- ---- what names stand for

abbrev pub symbol_of : ℕ → Symbol
symbol_of x = Bound record { 0 = x }

-- what stands for a symbol of a kind
abbrev pub atom_of : Kind → Symbol → Atom
atom_of number s = of_sum (var s)
atom_of truth_value s = of_formula (flag s)
atom_of object s = of_sum (var s)
atom_of other s = of_sum (var s)

-- that a value of a kind is that of the atom
abbrev pub is_atom : Kind → Atom → Formula
is_atom number (of_sum t) = compare Eq (var Value) t
is_atom truth_value (of_formula p) = equivalence (flag Value) p
is_atom object (of_sum t) = objects (var Value) t
is_atom _ a = truth

abbrev pub self_by : Kind → Atom → Refined → Refined
self_by number a t = with_top (known (is_atom number a) ∷ []) t
self_by truth_value a t = with_top (known (is_atom truth_value a) ∷ []) t
self_by object a t = with_top (known (is_atom object a) ∷ []) t
self_by other a t = t

-- The type of an atom whose type is this one: its top says that the value is the atom's. What is inside stays.
abbrev pub self_type : Refined → Atom → Refined
self_type t a = self_by (kind t) a t

-- ---- what is put for names

-- A cell speaks of the fields of its constructor alone, so nothing is put into a matrix.
module _ (scopes : Scopes) where
  abbrev mutual
    pub type_by : Subst → Refined → Refined
    type_by θ (int_with p) = int_with (parts_by scopes θ p)
    type_by θ (bool_with p) = bool_with (parts_by scopes θ p)
    type_by θ unit_type = unit_type
    type_by θ (function x a b) = function x (type_by θ a) (type_by θ b)
    type_by θ (tuple_of ts) = tuple_of (types_by θ ts)
    type_by θ (array_with e p) = array_with (type_by θ e) (parts_by scopes θ p)
    type_by θ (data_with d ts m p) = data_with d (types_by θ ts) m (parts_by scopes θ p)
    type_by θ (map_with e p) = map_with (type_by θ e) (parts_by scopes θ p)
    type_by θ (type_variable i) = type_variable i

    pub types_by : Subst → Refineds → Refineds
    types_by θ none = none
    types_by θ (more t ts) = more (type_by θ t) (types_by θ ts)

  -- an atom for a function's own name of its argument, where it has one
  abbrev pub applied : Option ℕ → Atom → Refined → Refined
  applied None a t = t
  applied (Some x) a t = type_by (swap (symbol_of x) a ∷ []) t

  -- the result of a function, with another name of its argument
  abbrev pub renamed : Option ℕ → Option ℕ → Kind → Refined → Refined
  renamed None z k t = t
  renamed (Some x) None k t = t
  renamed (Some x) (Some z) k t = cond (x == z) t (applied (Some x) (atom_of k (symbol_of z)) t)

-- ---- twins

-- A program's binders are below 2^31. The twin of one is that number plus 2^31, which stands nowhere in the program, and a twin's twin is
-- itself.
abbrev pub twin_of : ℕ → ℕ
twin_of x = cond (ltb x (2 ^ 31)) (x + 2 ^ 31) x

abbrev pub twin_binder : Option ℕ → Option ℕ
twin_binder None = None
twin_binder (Some x) = Some (twin_of x)

module _ (scopes : Scopes) where
  -- each function names its argument by the twin
  abbrev mutual
    pub twin : Refined → Refined
    twin (int_with p) = int_with p
    twin (bool_with p) = bool_with p
    twin unit_type = unit_type
    twin (function x a b) = function (twin_binder x) (twin a) (renamed scopes x (twin_binder x) (kind a) (twin b))
    twin (tuple_of ts) = tuple_of (twins ts)
    twin (array_with e p) = array_with (twin e) p
    twin (data_with d ts m p) = data_with d (twins ts) m p
    twin (map_with e p) = map_with (twin e) p
    twin (type_variable i) = type_variable i

    pub twins : Refineds → Refineds
    twins none = none
    twins (more t ts) = more (twin t) (twins ts)

-- ---- under an assignment

module _ (A : Assignment) where
  -- each unknown replaced by its instances
  abbrev pub known_parts : Parts → Parts
  known_parts p = map known (parts_under A p)

  abbrev pub cells_under : Matrix → Matrix
  cells_under = map (λ c. record { constructor = c.constructor; field = c.field; parameter = c.parameter; parts = known_parts c.parts })

  abbrev mutual
    pub under : Refined → Refined
    under (int_with p) = int_with (known_parts p)
    under (bool_with p) = bool_with (known_parts p)
    under unit_type = unit_type
    under (function x a b) = function x (under a) (under b)
    under (tuple_of ts) = tuple_of (all_under ts)
    under (array_with e p) = array_with (under e) (known_parts p)
    under (data_with d ts m p) = data_with d (all_under ts) (cells_under m) (known_parts p)
    under (map_with e p) = map_with (under e) (known_parts p)
    under (type_variable i) = type_variable i

    pub all_under : Refineds → Refineds
    all_under none = none
    all_under (more t ts) = more (under t) (all_under ts)
