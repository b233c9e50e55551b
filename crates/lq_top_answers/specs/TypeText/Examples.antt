-- The texts of some types, worked out by hand.
use Rattle.std.specs.Prelude.{◌≡◌, ℕ, zero, suc, pos, ◌==◌, false, if◌then◌else◌, List, [], ◌∷◌, ◌++◌, Some, None, codes}
use Rattle.lq_base_names.specs.NameTable.{predeclared, cons_name}
use Rattle.lq_base_names.specs.declared.operation.CompareOp.TheVariants.{Lt, Le}
use Rattle.lq_refined_types.specs.Parts.Part.{known, unknown, Parts}
use Rattle.lq_logic_predicates.specs.Formula.{Formula, flag, compare, disjunction, equivalence}
use Rattle.lq_logic_predicates.specs.Sum.{Sum, whole, var, len, measure}
use Rattle.lq_logic_predicates.specs.declared.symbol.Symbol.TheVariants.{Value, Bound, Position}
use Rattle.lq_refined_types.specs.Types.Refined.{Cell, Refined, int_with, bool_with, unit_type, function, tuple_of, array_with, data_with, map_with, type_variable, Refineds, none, more}
use Rattle.lq_top_answers.specs.TypeText.Types.{Writing, type_line}

-- ---- names: 4 is `list`, 5 `option`, 8 `::`, 11 `'a`; behind the predeclared ones stand these from 12 on

abbrev pub example_names : List (List ℕ)
example_names =
    predeclared
    ++ (codes "a" ∷ codes "x" ∷ codes "lo" ∷ codes "hi" ∷ codes "ys" ∷ codes "f" ∷ codes "tree" ∷ codes "Node" ∷ codes "'k" ∷ codes "'b" ∷ codes "size"
    ∷ codes "color" ∷ [])

-- the binders: 0 is a, 1 x, 2 lo, 3 hi, 4 ys, 5 f
abbrev pub example : Writing
example =
    record {
      calling =
          record {
            names = example_names;
            sources = Some 12 ∷ Some 13 ∷ Some 14 ∷ Some 15 ∷ Some 16 ∷ Some 17 ∷ [];
            made = λ b. None;
            told_apart = false;
          };
      parameters = λ d. if d == 18 then 20 ∷ 21 ∷ [] else 11 ∷ [];
    }

-- ---- what the types are made of

abbrev pub value : Sum
value = var Value

abbrev pub bound : ℕ → Sum
bound x = var (Bound record { 0 = x })

abbrev pub field : ℕ → Sum
field k = var (Position k)

abbrev pub zero_term : Sum
zero_term = whole (pos 0)

abbrev pub is_natural : Formula
is_natural = compare Le zero_term value

abbrev pub within : Formula
within = compare Le value (len (bound 0))

abbrev pub above_lo : Formula
above_lo = compare Le (bound 2) value

abbrev pub int : Refined
int = int_with []

abbrev pub bool : Refined
bool = bool_with []

-- ---- find : a:{v:int | 0 <= v} array -> x:int -> ..

abbrev pub FindExample : Type 0
FindExample =
    type_line example (codes "find")
    (function (Some 0) (array_with (int_with (known is_natural ∷ [])) [])
    (function (Some 1) int
    (function (Some 2) (int_with (known is_natural ∷ known within ∷ []))
    (function (Some 3) (int_with (known is_natural ∷ known within ∷ known above_lo ∷ []))
    (int_with (known within ∷ []))))))
    ≡ codes "find : a:{v:int | 0 <= v} array -> x:int -> lo:{v:int | 0 <= v && v <= Array.length a} -> "
    ++ codes "hi:{v:int | 0 <= v && v <= Array.length a && lo <= v} -> {v:int | v <= Array.length a}\n"

-- ---- insert, over lists whose elements are at least lo and in order

abbrev pub ordered : Refined
ordered =
    data_with 4 (more (int_with (known above_lo ∷ [])) none)
    (record { constructor = cons_name; field = 1; parameter = 0; parts = known (compare Le (field 1) value) ∷ [] } ∷ []) []

abbrev pub InsertExample : Type 0
InsertExample =
    type_line example (codes "insert")
    (function (Some 2) int (function (Some 1) (int_with (known above_lo ∷ [])) (function (Some 4) ordered ordered)))
    ≡ codes "insert : lo:int -> x:{v:int | lo <= v} -> ys:{v:int | lo <= v} list [:: 2 'a: #1 <= v] -> "
    ++ codes "{v:int | lo <= v} list [:: 2 'a: #1 <= v]\n"

-- ---- 27 variables, the highest number first, and two of them again

-- the variables of numbers below this one, the highest first, and a last component
abbrev pub variables_below : ℕ → Refined → Refineds
variables_below zero last = more last none
variables_below (suc n) last = more (type_variable n) (variables_below n last)

abbrev pub LettersExample : Type 0
LettersExample =
    type_line example (codes "all") (tuple_of (variables_below 27 (function None (type_variable 25) (type_variable 0))))
    ≡ codes "all : ('a * 'b * 'c * 'd * 'e * 'f * 'g * 'h * 'i * 'j * 'k * 'l * 'm * 'n * 'o * 'p * 'q * 'r * 's * 't * "
    ++ codes "'u * 'v * 'w * 'x * 'y * 'z * 'a1 * 'b -> 'a1)\n"

-- ---- a function left of an arrow, a predicate alone and several

abbrev pub is_negative : Formula
is_negative = equivalence (flag Value) (compare Lt (bound 1) zero_term)

abbrev pub or_natural : Formula
or_natural = disjunction (flag Value) (compare Le zero_term (bound 1))

abbrev pub TestExample : Type 0
TestExample =
    type_line example (codes "test")
    (function (Some 5) (function (Some 1) int (bool_with (known is_negative ∷ [])))
    (function (Some 1) int (bool_with (known is_negative ∷ known or_natural ∷ []))))
    ≡ codes "test : f:(x:int -> {v:bool | v <=> x < 0}) -> x:int -> {v:bool | (v <=> x < 0) && (v || 0 <= x)}\n"

-- ---- arguments of the names of types: functions and tuples

abbrev pub ArgumentsExample : Type 0
ArgumentsExample =
    type_line example (codes "store")
    (function None (map_with (data_with 18 (more (function None int int) (more (tuple_of (more int (more bool none))) none)) [] []) [])
    (function None (data_with 5 (more (function None unit_type (type_variable 3)) none) [] [])
    (function None (data_with 4 (more (tuple_of (more int (more bool none))) none) [] [])
    (function None (array_with (function None (type_variable 3) bool) []) (data_with 23 none [] [])))))
    ≡ codes "store : ((int -> int), (int * bool)) tree map -> (unit -> 'a) option -> (int * bool) list -> "
    ++ codes "('a -> bool) array -> color\n"

-- ---- a top and a matrix: an unknown has no text, nor has an entry without predicates

abbrev pub cell_at : ℕ → ℕ → Parts → Cell
cell_at j i parts = record { constructor = 19; field = j; parameter = i; parts = parts }

abbrev pub MatrixExample : Type 0
MatrixExample =
    type_line example (codes "root")
    (data_with 18 (more int (more (type_variable 0) none))
    (cell_at 0 0 (known (compare Lt value (field 2)) ∷ [])
    ∷ cell_at 0 1 (unknown 7 [] ∷ [])
    ∷ cell_at 3 1 (known (compare Lt (field 2) value) ∷ unknown 8 [] ∷ known (compare Le value (field 3)) ∷ []) ∷ [])
    (known (compare Lt zero_term (measure record { 0 = 22 } value)) ∷ unknown 9 [] ∷ []))
    ≡ codes "root : {v:(int, 'a) tree [Node 1 'k: v < #2; Node 4 'b: #2 < v && v <= #3] | 0 < size v}\n"
