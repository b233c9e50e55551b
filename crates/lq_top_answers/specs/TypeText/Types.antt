-- How refined types are written.
use Rattle.std.specs.Prelude.{ℕ, ◌+◌, Bool, true, false, if◌then◌else◌, List, [], ◌∷◌, ◌++◌, map, slice_get, Option, Some, None, codes, decimal}
use Rattle.lq_refined_types.specs.Parts.Part.{known, unknown, Parts}
use Rattle.lq_logic_predicates.specs.Formula.{Formula}
use Rattle.lq_refined_types.specs.Types.Refined.{Cell, Matrix, Refined, int_with, bool_with, unit_type, function, tuple_of, array_with, data_with, map_with, type_variable, Refineds, none, more, top}
use Rattle.lq_logic_text.specs.Calling.{Calling, name_text, binder_text}
use Rattle.lq_logic_text.specs.Predicates.{formula_level, formula_text}
use Rattle.lq_logic_text.specs.Terms.{in_parentheses, placed}
use Rattle.lq_top_answers.specs.TypeText.Letters.{letters, variable_text}

-- what binders and names are called, and the names of a datatype's parameters, by the number of its name
pub record Writing : Type 0 where
  pub calling : Calling
  pub parameters : ℕ → List ℕ

-- texts in a row, with a separator between each two
abbrev pub each_behind : List ℕ → List (List ℕ) → List ℕ
each_behind separator [] = []
each_behind separator (t ∷ ts) = separator ++ t ++ each_behind separator ts

abbrev pub in_row : List ℕ → List (List ℕ) → List ℕ
in_row separator [] = []
in_row separator (t ∷ ts) = t ++ each_behind separator ts

-- ---- predicates

-- an unknown part has no text
abbrev pub formulas : Parts → List Formula
formulas [] = []
formulas (known p ∷ ps) = p ∷ formulas ps
formulas (unknown u θ ∷ ps) = formulas ps

-- one of several
abbrev pub conjunct_text : Calling → Formula → List ℕ
conjunct_text c p = placed 2 (formula_level p) (formula_text c p)

-- one alone needs no parentheses, whatever it is
abbrev pub formulas_text : Calling → List Formula → List ℕ
formulas_text c (p ∷ []) = formula_text c p
formulas_text c ps = in_row (codes " && ") (map (conjunct_text c) ps)

-- a type with these predicates at its top, by its text without them
abbrev pub with_formulas : Calling → List Formula → List ℕ → List ℕ
with_formulas c [] text = text
with_formulas c (p ∷ ps) text = codes "{v:" ++ text ++ codes " | " ++ formulas_text c (p ∷ ps) ++ codes "}"

-- ---- entries of a matrix

abbrev pub name_at : Calling → Option ℕ → List ℕ
name_at c None = []
name_at c (Some x) = name_text c.names x

-- the source name of a parameter of a datatype
abbrev pub parameter_text : Writing → ℕ → ℕ → List ℕ
parameter_text w d i = name_at w.calling (slice_get (w.parameters d) i)

-- the constructor, the field counted from 1, and the parameter
abbrev pub place_text : Writing → ℕ → Cell → List ℕ
place_text w d e =
    name_text w.calling.names e.constructor ++ codes " " ++ decimal (e.field + 1) ++ codes " " ++ parameter_text w d e.parameter

-- a place, and what holds of the parameter there
abbrev pub entry_text : Writing → ℕ → Cell → List ℕ
entry_text w d e = place_text w d e ++ codes ": " ++ formulas_text w.calling (formulas e.parts)

-- an entry without predicates has no text
abbrev pub if_any : List Formula → List ℕ → List (List ℕ)
if_any [] text = []
if_any (p ∷ ps) text = text ∷ []

abbrev pub entry_texts : Writing → ℕ → Matrix → List (List ℕ)
entry_texts w d [] = []
entry_texts w d (e ∷ m) = if_any (formulas e.parts) (entry_text w d e) ++ entry_texts w d m

-- without entries, nothing
abbrev pub bracketed : List (List ℕ) → List ℕ
bracketed [] = []
bracketed (t ∷ ts) = codes " [" ++ in_row (codes "; ") (t ∷ ts) ++ codes "]"

-- ---- types

abbrev pub is_function : Refined → Bool
is_function (function x a b) = true
is_function _ = false

-- a function stands in parentheses left of an arrow and as an argument of the name of a type
abbrev pub guarded : Refined → List ℕ → List ℕ
guarded t text = if is_function t then in_parentheses text else text

-- the name of a function's argument, where it has one
abbrev pub argument_name : Calling → Option ℕ → List ℕ
argument_name c None = []
argument_name c (Some x) = binder_text c x ++ codes ":"

-- arguments before the name of a type
abbrev pub arguments_text : List (List ℕ) → List ℕ
arguments_text [] = []
arguments_text (t ∷ []) = t ++ codes " "
arguments_text ts = codes "(" ++ in_row (codes ", ") ts ++ codes ") "

-- with what is said at its top, by its text without that
abbrev pub with_top_text : Calling → Refined → List ℕ → List ℕ
with_top_text c t text = with_formulas c (formulas (top t)) text

module _ (w : Writing) (seen : List ℕ) where
  abbrev mutual
    -- a type without what is said at its top
    pub form_text : Refined → List ℕ
    form_text (int_with p) = codes "int"
    form_text (bool_with p) = codes "bool"
    form_text unit_type = codes "unit"
    form_text (function x a b) =
        argument_name w.calling x ++ guarded a (with_top_text w.calling a (form_text a)) ++ codes " -> " ++ with_top_text w.calling b (form_text b)
    form_text (tuple_of ts) = in_parentheses (in_row (codes " * ") (component_texts ts))
    form_text (array_with e p) = guarded e (with_top_text w.calling e (form_text e)) ++ codes " array"
    form_text (data_with d ts m p) = arguments_text (argument_texts ts) ++ name_text w.calling.names d ++ bracketed (entry_texts w d m)
    form_text (map_with e p) = guarded e (with_top_text w.calling e (form_text e)) ++ codes " map"
    form_text (type_variable i) = variable_text seen i

    -- a function in a tuple stands without parentheses
    pub component_texts : Refineds → List (List ℕ)
    component_texts none = []
    component_texts (more t ts) = with_top_text w.calling t (form_text t) ∷ component_texts ts

    pub argument_texts : Refineds → List (List ℕ)
    argument_texts none = []
    argument_texts (more t ts) = guarded t (with_top_text w.calling t (form_text t)) ∷ argument_texts ts

  -- a type in which the variables have letters by their places in this list
  abbrev pub lettered_text : Refined → List ℕ
  lettered_text t = with_top_text w.calling t (form_text t)

abbrev pub type_text : Writing → Refined → List ℕ
type_text w t = lettered_text w (letters t) t

-- a name with its type, as a line
abbrev pub type_line : Writing → List ℕ → Refined → List ℕ
type_line w name t = name ++ codes " : " ++ type_text w t ++ codes "\n"
