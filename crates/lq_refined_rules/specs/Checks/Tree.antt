-- Normal trees: programs of blocks, each of which is bindings and a last operation, over pure expressions. Binders are numbers, each
-- operation has its place, and where a rule takes a template there is a point, by its number.
use Rattle.std.specs.Prelude.{ℕ, ℤ, Bool, true, false, ◌==◌, ◌||◌, not, List, [], ◌∷◌, Option}
use Rattle.lq_base_names.specs.declared.operation.CompareOp.{CompareOp}
use Rattle.lq_base_names.specs.declared.place.Place.{Place}

-- a use of a name; of a generalised name with a number, by which it has types for its type variables
pub record Use : Type 0 where
  pub name : ℕ
  pub type_arguments : Option ℕ

pub data Pure : Type 0 where
  whole : ℤ → Pure
  flag : Bool → Pure
  unit : Pure
  use_of : Use → Pure
  negated : Pure → Pure
  add : Pure → Pure → Pure
  subtract : Pure → Pure → Pure
  multiply : Pure → Pure → Pure
  length_of : Pure → Pure
  compare : CompareOp → Pure → Pure → Pure
  not_of : Pure → Pure
  and_of : Pure → Pure → Pure
  or_of : Pure → Pure → Pure

-- `_`, a name, `()`, names for the components of a tuple, and names for the fields of a constructor
pub data Pattern : Type 0 where
  pattern_any : Pattern
  pattern_name : ℕ → Pattern
  pattern_unit : Pattern
  pattern_tuple : List ℕ → Pattern
  pattern_build : ℕ → List ℕ → Pattern

mutual
  pub data Operation : Type 0 where
    pure : Pure → Operation
    -- a point, the parameter and the body
    fun : ℕ → ℕ → Block → Operation
    if_else : ℕ → Pure → Block → Block → Operation
    match_on : ℕ → Use → Arms → Operation
    call : Pure → Pure → Operation
    tuple : List Pure → Operation
    -- a point, the constructor and the values of its fields
    build : ℕ → ℕ → List Pure → Operation
    make : ℕ → Pure → Pure → Operation
    fetch : Use → Pure → Operation
    store : Use → Pure → Pure → Operation
    divide : Pure → Pure → Operation
    remainder : Pure → Pure → Operation
    assert : Pure → Operation
    assert_false : ℕ → Operation
    read : Pure → Operation
    print : Pure → Operation
    map_empty : ℕ → Operation
    -- a point, a key, a value and a map
    map_add : ℕ → Pure → Pure → Pure → Operation
    map_find : Pure → Pure → Operation

  pub data Block : Type 0 where
    last : Place → Operation → Block
    -- `let x = operation in`
    binding : ℕ → Place → Operation → Block → Block
    -- `let rec f = fun y -> body in`: f, its point, y, the body, and the rest
    recursive : ℕ → ℕ → ℕ → Block → Block → Block

  pub data Arms : Type 0 where
    no_arms : Arms
    arm : Pattern → Block → Arms → Arms

-- the definitions of a program, in order
pub data Program : Type 0 where
  no_items : Program
  -- `let x = block`: x, its place and its point
  define : ℕ → Place → ℕ → Block → Program → Program
  -- `let rec f = fun y -> body`
  define_recursive : ℕ → ℕ → ℕ → Block → Program → Program
  -- `let () = block` and `let _ = block`
  run_unit : Block → Program → Program
  run_any : Block → Program → Program

-- the names that a pattern binds
abbrev pub names_of : Pattern → List ℕ
names_of pattern_any = []
names_of (pattern_name x) = x ∷ []
names_of pattern_unit = []
names_of (pattern_tuple xs) = xs
names_of (pattern_build c xs) = xs

abbrev pub is_arm_of : ℕ → Pattern → Bool
is_arm_of c pattern_any = false
is_arm_of c (pattern_name x) = false
is_arm_of c pattern_unit = false
is_arm_of c (pattern_tuple xs) = false
is_arm_of c (pattern_build d xs) = d == c

-- `_` or a name
abbrev pub takes_all : Pattern → Bool
takes_all pattern_any = true
takes_all (pattern_name x) = true
takes_all pattern_unit = false
takes_all (pattern_tuple xs) = false
takes_all (pattern_build c xs) = false

-- some arm is of `_` or of a name
abbrev pub has_default : Arms → Bool
has_default no_arms = false
has_default (arm q b arms) = takes_all q || has_default arms

-- its branches or its body are checked against an expected type
abbrev pub passes_on : Operation → Bool
passes_on (fun p y b) = true
passes_on (if_else p c a b) = true
passes_on (match_on p u arms) = true
passes_on _ = false

abbrev pub is_fun : Operation → Bool
is_fun (fun p y b) = true
is_fun _ = false

abbrev pub last_operation : Block → Operation
last_operation (last l o) = o
last_operation (binding x l o b) = last_operation b
last_operation (recursive f p y b c) = last_operation c

-- a definition whose block ends in no `fun` has a template of its own
abbrev pub has_template : Block → Bool
has_template b = not (is_fun (last_operation b))
