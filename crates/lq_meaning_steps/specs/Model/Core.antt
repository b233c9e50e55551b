-- What the meaning of a program speaks of: patterns, values, and expressions in which values may stand. A variable is the number of its
-- binder, a constructor that of its name. A place is kept only where something can fault or end the input.
use Rattle.std.specs.Prelude.{ℕ, ℤ, Bool, List, [], ◌∷◌, ◌++◌, Option, Some, None, if◌then◌else◌, ◌==◌}
use Rattle.std.specs.List.{list_any}
use Rattle.lq_base_names.specs.declared.operation.CompareOp.{CompareOp}
use Rattle.lq_base_names.specs.declared.place.Place.{Place}

-- an operation on one value: the negative, `not`, `assert`, `Array.length`, `print_int`, `read_int`
pub data Operation : Type 0 where
  negate : Operation
  invert : Operation
  assert : Place → Operation
  length_of : Operation
  print : Operation
  read : Place → Operation

-- arithmetic: a quotient and a remainder can fault
pub data Arithmetic : Type 0 where
  sum : Arithmetic
  difference : Arithmetic
  product : Arithmetic
  quotient : Place → Arithmetic
  remainder : Place → Arithmetic

-- an operation on two values: arithmetic, comparisons, `Array.make`, `a.(i)`
pub data Binary : Type 0 where
  arithmetic : Arithmetic → Binary
  comparison : CompareOp → Binary
  make : Place → Binary
  fetch : Place → Binary

-- an operation on three values: `a.(i) <- e`
pub data Ternary : Type 0 where
  store : Place → Ternary

-- a form whose parts are a row: a tuple, a constructor, a list literal
pub data Row : Type 0 where
  tuple : Row
  build : ℕ → Row
  list_of : Row

mutual
  pub data Pattern : Type 0 where
    -- `_`, a variable, `()`, a tuple, a constructor
    any : Pattern
    bind : ℕ → Pattern
    nothing : Pattern
    tuple_of : Patterns → Pattern
    build_of : ℕ → Patterns → Pattern

  pub data Patterns : Type 0 where
    no_patterns : Patterns
    more_patterns : Pattern → Patterns → Patterns

-- the variables that a pattern binds, from left to right
abbrev mutual
  pub variables_of : Pattern → List ℕ
  variables_of any = []
  variables_of (bind x) = x ∷ []
  variables_of nothing = []
  variables_of (tuple_of qs) = variables_of_all qs
  variables_of (build_of c qs) = variables_of_all qs

  pub variables_of_all : Patterns → List ℕ
  variables_of_all no_patterns = []
  variables_of_all (more_patterns q qs) = variables_of q ++ variables_of_all qs

-- What a function or a definition takes a value by: `_`, a variable, `()`, or a pattern that the value is matched against at a place.
pub data Parameter : Type 0 where
  ignored : Parameter
  variable : ℕ → Parameter
  empty : Parameter
  matched : Place → Pattern → Parameter

abbrev pub bound_in : Parameter → List ℕ
bound_in ignored = []
bound_in (variable x) = x ∷ []
bound_in empty = []
bound_in (matched p q) = variables_of q

mutual
  pub data Core : Type 0 where
    val : Value → Core
    use_of : ℕ → Core
    fun : Parameter → Core → Core
    row : Row → Cores → Core
    let_in : Parameter → Core → Core → Core
    -- `let rec f = fun q -> b in e`: the name f, the parameter q, the function's body b, and the expression e behind it
    let_rec : ℕ → Parameter → Core → Core → Core
    call : Core → Core → Core
    one : Operation → Core → Core
    two : Binary → Core → Core → Core
    three : Ternary → Core → Core → Core → Core
    and_of : Core → Core → Core
    or_of : Core → Core → Core
    if_else : Core → Core → Core → Core
    match_on : Place → Core → Arms → Core
    seq : Core → Core → Core
    assert_false : Place → Core

  pub data Cores : Type 0 where
    none : Cores
    more : Core → Cores → Cores

  pub data Arms : Type 0 where
    no_arms : Arms
    more_arms : Pattern → Core → Arms → Arms

  -- A closed value. A list is a constructor value. An array is its number in the store, and its length.
  pub data Value : Type 0 where
    v_whole : ℤ → Value
    v_flag : Bool → Value
    v_unit : Value
    v_fun : Parameter → Core → Value
    v_rec : ℕ → Parameter → Core → Value
    v_tuple : Values → Value
    v_build : ℕ → Values → Value
    v_array : ℕ → ℕ → Value

  pub data Values : Type 0 where
    no_values : Values
    more_values : Value → Values → Values

-- values for variables; the first one for a variable counts
abbrev pub Pairs : Type 0
Pairs = List (ℕ × Value)

abbrev pub value_in : Pairs → ℕ → Option Value
value_in [] x = None
value_in (p ∷ ps) x = if p.0 == x then Some p.1 else value_in ps x

-- the pairs of other variables
abbrev pub without : List ℕ → Pairs → Pairs
without xs [] = []
without xs (p ∷ ps) = if list_any (λ x. x == p.0) xs then without xs ps else p ∷ without xs ps

abbrev pub replaced : ℕ → Option Value → Core
replaced x None = use_of x
replaced x (Some v) = val v

-- The expression with closed values in the place of variables, all at once. What a parameter binds in its body, and a recursive function
-- in both of its parts, isn't replaced there. A value in the expression is closed, and stays.
abbrev mutual
  pub close : Pairs → Core → Core
  close ps (val u) = val u
  close ps (use_of y) = replaced y (value_in ps y)
  close ps (fun q b) = fun q (close (without (bound_in q) ps) b)
  close ps (row r es) = row r (close_all ps es)
  close ps (let_in q e b) = let_in q (close ps e) (close (without (bound_in q) ps) b)
  close ps (let_rec f q b e) = let_rec f q (close (without (f ∷ bound_in q) ps) b) (close (without (f ∷ []) ps) e)
  close ps (call f a) = call (close ps f) (close ps a)
  close ps (one o e) = one o (close ps e)
  close ps (two o a b) = two o (close ps a) (close ps b)
  close ps (three o a b c) = three o (close ps a) (close ps b) (close ps c)
  close ps (and_of a b) = and_of (close ps a) (close ps b)
  close ps (or_of a b) = or_of (close ps a) (close ps b)
  close ps (if_else c a b) = if_else (close ps c) (close ps a) (close ps b)
  close ps (match_on p e cs) = match_on p (close ps e) (close_arms ps cs)
  close ps (seq a b) = seq (close ps a) (close ps b)
  close ps (assert_false p) = assert_false p

  pub close_all : Pairs → Cores → Cores
  close_all ps none = none
  close_all ps (more e es) = more (close ps e) (close_all ps es)

  pub close_arms : Pairs → Arms → Arms
  close_arms ps no_arms = no_arms
  close_arms ps (more_arms q e cs) = more_arms q (close (without (variables_of q) ps) e) (close_arms ps cs)

-- a list of these values: `[]` is the constructor 7 and `::` the constructor 8 of every name table
abbrev pub list_value : Values → Value
list_value no_values = v_build 7 no_values
list_value (more_values v vs) = v_build 8 (more_values v (more_values (list_value vs) no_values))

abbrev pub row_value : Row → Values → Value
row_value tuple vs = v_tuple vs
row_value (build c) vs = v_build c vs
row_value list_of vs = list_value vs

abbrev pub both_values : Option Value → Option Values → Option Values
both_values None vs = None
both_values (Some v) None = None
both_values (Some v) (Some vs) = Some (more_values v vs)

abbrev pub with_values : Row → Option Values → Option Value
with_values r None = None
with_values r (Some vs) = Some (row_value r vs)

-- The value that an expression is: functions, and rows of values, are values as they stand, and take no step.
abbrev mutual
  pub as_value : Core → Option Value
  as_value (val v) = Some v
  as_value (use_of x) = None
  as_value (fun q b) = Some (v_fun q b)
  as_value (row r es) = with_values r (as_values es)
  as_value (let_in q e b) = None
  as_value (let_rec f q b e) = None
  as_value (call f a) = None
  as_value (one o e) = None
  as_value (two o a b) = None
  as_value (three o a b c) = None
  as_value (and_of a b) = None
  as_value (or_of a b) = None
  as_value (if_else c a b) = None
  as_value (match_on p e cs) = None
  as_value (seq a b) = None
  as_value (assert_false p) = None

  pub as_values : Cores → Option Values
  as_values none = Some no_values
  as_values (more e es) = both_values (as_value e) (as_values es)
