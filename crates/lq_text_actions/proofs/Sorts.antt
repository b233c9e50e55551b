-- The sorts of values, and what parts and actions take of them and put in their place.
use Rattle.std.specs.Prelude.{eqb, if◌then◌else◌}
use Rattle.std.proofs.Common.{◌≡◌, ℕ, refl, sym, ap, ◌∙◌, Bool, true, List}
use Rattle.std.proofs.lemmas.Bool.{eqb-true}
use Rattle.lq_text_actions.specs.Value as value
use Rattle.lq_text_actions.specs.Value.{Value}

pub data Sort : Type 0 where
  a_mark : Sort
  a_name : Sort
  a_tree : Sort
  some_trees : Sort
  an_element : Sort
  some_arms : Sort
  a_function : Sort
  a_pattern : Sort
  some_patterns : Sort
  a_type : Sort
  some_types : Sort
  some_parameters : Sort
  some_constructors : Sort
  some_items : Sort
  a_predicate : Sort
  some_qualifiers : Sort
  some_equations : Sort
  some_measures : Sort

abbrev pub sort_of : Value → Sort
sort_of (value.mark p) = a_mark
sort_of (value.named x p) = a_name
sort_of (value.expression e p c) = a_tree
sort_of (value.expressions es p) = some_trees
sort_of (value.element a i p) = an_element
sort_of (value.arms as_) = some_arms
sort_of (value.recursive f r) = a_function
sort_of (value.pattern_read p) = a_pattern
sort_of (value.patterns ps p) = some_patterns
sort_of (value.type_read t p) = a_type
sort_of (value.types ts p) = some_types
sort_of (value.parameters ps) = some_parameters
sort_of (value.constructors cs) = some_constructors
sort_of (value.items is) = some_items
sort_of (value.predicate e p) = a_predicate
sort_of (value.qualifiers qs) = some_qualifiers
sort_of (value.equations es) = some_equations
sort_of (value.measures ms) = some_measures

abbrev code : Sort → ℕ
code a_mark = 0
code a_name = 1
code a_tree = 2
code some_trees = 3
code an_element = 4
code some_arms = 5
code a_function = 6
code a_pattern = 7
code some_patterns = 8
code a_type = 9
code some_types = 10
code some_parameters = 11
code some_constructors = 12
code some_items = 13
code a_predicate = 14
code some_qualifiers = 15
code some_equations = 16
code some_measures = 17

decode : ℕ → Sort
decode n =
    if eqb n 0 then a_mark
    else if eqb n 1 then a_name
    else if eqb n 2 then a_tree
    else if eqb n 3 then some_trees
    else if eqb n 4 then an_element
    else if eqb n 5 then some_arms
    else if eqb n 6 then a_function
    else if eqb n 7 then a_pattern
    else if eqb n 8 then some_patterns
    else if eqb n 9 then a_type
    else if eqb n 10 then some_types
    else if eqb n 11 then some_parameters
    else if eqb n 12 then some_constructors
    else if eqb n 13 then some_items
    else if eqb n 14 then a_predicate
    else if eqb n 15 then some_qualifiers
    else if eqb n 16 then some_equations
    else some_measures

decode-code : (s : Sort) → decode (code s) ≡ s
unfolding decode
decode-code a_mark = refl
decode-code _ = refl

abbrev pub same_sort : Sort → Sort → Bool
same_sort a b = eqb (code a) (code b)

pub same_sort-eq : (a b : Sort) → same_sort a b ≡ true → a ≡ b
same_sort-eq a b e = sym (decode-code a) ∙ ap decode (eqb-true (code a) (code b) e) ∙ decode-code b

-- whether the trees of a value stand a level below what is made of it
pub data Step : Type 0 where
  beside : Step
  below : Step

pub record Need : Type 0 where
  pub sort : Sort
  pub step : Step

-- the token behind which an action works
pub data After : Type 0 where
  anything : After
  a_token : After
  a_named_token : After
  a_number : After
  a_limit_number : After

-- what a part takes off the values, the last one first, and what it puts there
pub record Signature : Type 0 where
  pub step : Step
  pub needs : List Sort
  pub gives : List Sort

pub record ActionSignature : Type 0 where
  pub after : After
  pub needs : List Need
  pub gives : Sort
