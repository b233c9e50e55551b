-- What the examples are made of. A measure `size` of lists has the number 60, and a place is a column of the first line.
use Rattle.std.specs.Prelude.{ℕ, zero, suc, pos, ◌==◌, if◌then◌else◌, List, [], ◌∷◌, None}
use Rattle.lq_base_names.specs.declared.operation.CompareOp.TheVariants.{Eq}
use Rattle.lq_base_names.specs.declared.place.Place.{Place}
use Rattle.lq_base_names.specs.declared.place.TextKind.TheVariants as text
use Rattle.lq_refined_types.specs.Parts.Part.{Part, known, unknown, Parts}
use Rattle.lq_refined_types.specs.Parts.Substitution.{Swap, swap, of_sum}
use Rattle.lq_logic_predicates.specs.Formula.{Formula, compare, objects}
use Rattle.lq_logic_predicates.specs.Sum as s
use Rattle.lq_logic_predicates.specs.Sum.{Sum, measure}
use Rattle.lq_logic_predicates.specs.declared.symbol.Symbol.{Symbol}
use Rattle.lq_logic_predicates.specs.declared.symbol.Symbol.TheVariants.{Value, Position}
use Rattle.lq_refined_types.specs.Types.Operations.{symbol_of}
use Rattle.lq_refined_types.specs.Types.Refined.{Cell, Refined, int_with, data_with, unit_type, Refineds, none, more}
use Rattle.lq_refined_types.specs.Subtyping.Implication.{Reason, Implication}
use Rattle.lq_text_tree.specs.Signatures.{signature_of}
use Rattle.lq_refined_rules.specs.Checks.Basis.{Basis}
use Rattle.lq_refined_rules.specs.Checks.Operation.{value}
use Rattle.lq_refined_rules.specs.Checks.Pure.{literal}
use Rattle.lq_refined_rules.specs.Checks.Tree.{Use, Pure, whole, use_of}

abbrev pub at : ℕ → Place
at column = record { text = text.Program; line = 1; column = column }

-- ---- expressions

abbrev pub the : ℕ → Use
the x = record { name = x; type_arguments = None }

abbrev pub variable : ℕ → Pure
variable x = use_of (the x)

abbrev pub amount : ℕ → Pure
amount n = whole (pos n)

-- ---- predicates and parts

abbrev pub bound : ℕ → Sum
bound x = s.var (symbol_of x)

abbrev pub field : ℕ → Sum
field k = s.var (Position k)

abbrev pub size : Sum → Sum
size = measure record { 0 = 60 }

abbrev pub equals : Sum → Sum → Formula
equals = compare Eq

-- `v = t`, and `v` same as the object t
abbrev pub is_sum : Sum → Part
is_sum t = known (equals value t)

abbrev pub is_object : Sum → Part
is_object t = known (objects value t)

-- an unknown with nothing put for its names
abbrev pub part : ℕ → Part
part u = unknown u []

-- a term for `v`, for a variable, for `#k`
abbrev pub for_value : Sum → Swap
for_value t = swap Value (of_sum t)

abbrev pub for_name : ℕ → Sum → Swap
for_name x t = swap (symbol_of x) (of_sum t)

abbrev pub for_field : ℕ → Sum → Swap
for_field k t = swap (Position k) (of_sum t)

-- ---- types

-- `int` with an unknown
abbrev pub int_of : ℕ → Refined
int_of u = int_with (part u ∷ [])

-- the entry of a list's matrix, for the tail and the elements
abbrev pub tail_cell : ℕ → Cell
tail_cell u = record { constructor = 8; field = 1; parameter = 0; parts = part u ∷ [] }

-- a list of such numbers, with the unknown of the matrix's entry and the top
abbrev pub list_of : Parts → ℕ → Parts → Refined
list_of elements u top = data_with 4 (more (int_with elements) none) (tail_cell u ∷ []) top

-- ---- implications and settings

abbrev pub implies : Parts → Parts → Part → ℕ → Reason → Implication
implies hs ls q column r = record { hypotheses = hs; left = ls; goal = q; origin = record { place = at column; reason = r } }

abbrev pub scope_at : List (List Symbol) → ℕ → List Symbol
scope_at [] u = []
scope_at (xs ∷ scopes) zero = xs
scope_at (xs ∷ scopes) (suc u) = scope_at scopes u

abbrev pub template_at : List Refined → ℕ → Refined
template_at [] p = unit_type
template_at (t ∷ ts) zero = t
template_at (t ∷ ts) (suc p) = template_at ts p

-- of `list` and `option`
abbrev pub ordered : ℕ → List ℕ
ordered d = if d == 4 then 7 ∷ 8 ∷ [] else if d == 5 then 9 ∷ 10 ∷ [] else []

-- the size of `[]` is 0, that of `h :: t` is 1 more than that of t
abbrev pub sizes : ℕ → List Formula
sizes c =
    if c == 7 then equals (size value) (literal 0) ∷ []
    else if c == 8 then equals (size value) (s.add (literal 1) (size (field 2))) ∷ []
    else []

-- with a scope for each unknown, a template for each point, and types for one use
abbrev pub basis_with : List (List Symbol) → List Refined → Refineds → Basis
basis_with scopes templates by = record {
  setting = record { scopes = scope_at scopes; constructors = signature_of [] };
  constructors_of = ordered;
  equations = sizes;
  template = template_at templates;
  type_arguments = λ i. by;
}

abbrev pub basis : List (List Symbol) → List Refined → Basis
basis scopes templates = basis_with scopes templates none

-- scopes of `v` alone, and of `v` with one more symbol
abbrev pub alone : List Symbol
alone = Value ∷ []

abbrev pub and_with : Symbol → List Symbol
and_with x = Value ∷ x ∷ []
