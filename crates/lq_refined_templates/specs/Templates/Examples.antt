-- Templates of some types, worked out by hand.
use Rattle.std.specs.Prelude.{◌≡◌, ℕ, ◌==◌, if◌then◌else◌, List, [], ◌∷◌, Option, Some, None}
use Rattle.lq_refined_instances.specs.Scopes.{Scope, Visible}
use Rattle.lq_logic_predicates.specs.declared.symbol.Symbol.TheVariants.{Position}
use Rattle.lq_refined_types.specs.Types.Operations.{symbol_of}
use Rattle.lq_refined_types.specs.Types.Refined.{Cell, Refined, int_with, bool_with, function, tuple_of, array_with, data_with, type_variable, none, more}
use Rattle.lq_text_qualifiers.specs.Faults.Shapes as shape
use Rattle.lq_refined_templates.specs.Templates.Cells.{one_unknown}
use Rattle.lq_refined_templates.specs.Templates.Fresh.{Made, fresh}
use Rattle.lq_text_tree.specs.MlType as ml
use Rattle.lq_text_tree.specs.MlType.{MlType}
use Rattle.lq_text_tree.specs.Types.{Signature, list_type}
use Rattle.lq_text_tree.specs.Signatures.{signature_of}

-- ---- over lists and options

abbrev pub ordered : ℕ → List ℕ
ordered d = if d == 4 then 7 ∷ 8 ∷ [] else if d == 5 then 9 ∷ 10 ∷ [] else []

abbrev pub template : Scope → List (Option ℕ) → MlType → Made
template Γ xs t = fresh (signature_of []) ordered 0 Γ xs t

abbrev pub number : ℕ → Visible
number x = (symbol_of x, shape.int)

abbrev pub list_named : ℕ → Visible
list_named x = (symbol_of x, shape.data_of 4)

abbrev pub int_of : ℕ → Refined
int_of u = int_with (one_unknown u)

-- the entry of a list's matrix at the tail
abbrev pub tail : ℕ → Cell
tail u = record { constructor = 8; field = 1; parameter = 0; parts = one_unknown u }

abbrev pub list_of : Refined → ℕ → ℕ → Refined
list_of t u top = data_with 4 (more t none) (tail u ∷ []) (one_unknown top)

-- fun x -> .. from int to int: the result may speak of x, here 11
abbrev pub NamedArgument : Type 0
NamedArgument =
    template [] (Some 11 ∷ []) (ml.arrow ml.int ml.int)
    ≡ record { type = function (Some 11) (int_of 0) (int_of 1); unknowns = ([], shape.int) ∷ (number 11 ∷ [], shape.int) ∷ [] }

-- a function of a function, no argument of which has a name
abbrev pub NoNames : Type 0
NoNames =
    template [] [] (ml.arrow (ml.arrow ml.int ml.int) ml.int)
    ≡ record { type = function None (function None (int_of 0) (int_of 1)) (int_of 2); unknowns = ([], shape.int) ∷ ([], shape.int) ∷ ([], shape.int) ∷ [] }

-- fun lo -> fun x -> fun ys -> .., from two numbers and a list of numbers to one, with 1, 2 and 3 for the names
abbrev pub Insertion : Type 0
Insertion =
    template [] (Some 1 ∷ Some 2 ∷ Some 3 ∷ []) (ml.arrow ml.int (ml.arrow ml.int (ml.arrow (list_type ml.int) (list_type ml.int))))
    ≡ record {
      type = function (Some 1) (int_of 0) (function (Some 2) (int_of 1) (function (Some 3) (list_of (int_of 2) 3 4) (list_of (int_of 5) 6 7)));
      unknowns =
          ([], shape.int) ∷ (number 1 ∷ [], shape.int) ∷ (number 1 ∷ number 2 ∷ [], shape.int)
          ∷ ((Position 1, shape.int) ∷ [], shape.int) ∷ (number 1 ∷ number 2 ∷ [], shape.data_of 4)
          ∷ (number 1 ∷ number 2 ∷ list_named 3 ∷ [], shape.int) ∷ ((Position 1, shape.int) ∷ [], shape.int)
          ∷ (number 1 ∷ number 2 ∷ list_named 3 ∷ [], shape.data_of 4) ∷ [];
    }

-- int * (int * bool) where 9 is visible: the inner tuple sees its own components alone
abbrev pub TupleInTuple : Type 0
TupleInTuple =
    template (number 9 ∷ []) [] (ml.tuple (ml.more_types ml.int (ml.more_types (ml.tuple (ml.more_types ml.int (ml.more_types ml.bool ml.no_types))) ml.no_types)))
    ≡ record {
      type = tuple_of (more (int_of 0) (more (tuple_of (more (int_of 1) (more (bool_with (one_unknown 2)) none))) none));
      unknowns = (number 9 ∷ [], shape.int) ∷ (number 9 ∷ [], shape.int) ∷ (number 9 ∷ (Position 1, shape.int) ∷ [], shape.bool) ∷ [];
    }

-- int list list: the arguments, the matrix, the top
abbrev pub ListOfLists : Type 0
ListOfLists =
    template [] [] (list_type (list_type ml.int))
    ≡ record {
      type = list_of (list_of (int_of 0) 1 2) 3 4;
      unknowns =
          ([], shape.int) ∷ ((Position 1, shape.int) ∷ [], shape.int) ∷ ([], shape.data_of 4)
          ∷ ((Position 1, shape.data_of 4) ∷ [], shape.data_of 4) ∷ ([], shape.data_of 4) ∷ [];
    }

-- 'a list array: nothing is known of a type variable
abbrev pub ArrayOfLists : Type 0
ArrayOfLists =
    template [] [] (ml.array (list_type (ml.var 0)))
    ≡ record {
      type = array_with (data_with 4 (more (type_variable 0) none) [] (one_unknown 0)) (one_unknown 1);
      unknowns = ([], shape.data_of 4) ∷ ([], shape.array) ∷ [];
    }

-- ---- type ('a, 'b) t = C of 'a * ('a, 'b) t * 'b, with 31 and 30 for t and C

abbrev pub two_parameters : Signature
two_parameters c =
    if c == 30 then
    Some record {
      datatype = 31;
      parameters = 2;
      fields =
          ml.more_types (ml.var 0)
          (ml.more_types (ml.named 31 (ml.more_types (ml.var 0) (ml.more_types (ml.var 1) ml.no_types))) (ml.more_types (ml.var 1) ml.no_types));
    }
    else None

abbrev pub second_field : ℕ → ℕ → Cell
second_field i u = record { constructor = 30; field = 1; parameter = i; parts = one_unknown u }

abbrev pub other_fields : Scope
other_fields = (Position 1, shape.int) ∷ (Position 3, shape.bool) ∷ []

-- (int, bool) t: an entry for each parameter at the recursive field, of which the other fields may be spoken
abbrev pub TwoParameters : Type 0
TwoParameters =
    fresh two_parameters (λ d. 30 ∷ []) 0 [] [] (ml.named 31 (ml.more_types ml.int (ml.more_types ml.bool ml.no_types)))
    ≡ record {
      type = data_with 31 (more (int_of 0) (more (bool_with (one_unknown 1)) none)) (second_field 0 2 ∷ second_field 1 3 ∷ []) (one_unknown 4);
      unknowns = ([], shape.int) ∷ ([], shape.bool) ∷ (other_fields, shape.int) ∷ (other_fields, shape.bool) ∷ ([], shape.data_of 31) ∷ [];
    }
