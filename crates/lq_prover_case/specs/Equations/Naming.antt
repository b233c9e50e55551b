-- Objects by their numbers, and which objects a case speaks of.
use Rattle.std.specs.Prelude.{◌≡◌, ℕ, pos, Bool, true, List, Option, Some, None, map, slice_get}
use Rattle.lq_prover_proof_tree.specs.Trees.Path.{Fact, row_fact, flag_fact, objects_fact, never}
use Rattle.lq_prover_case.specs.declared.equations.object_table.ObjectTable.{ObjectTable}
use Rattle.lq_logic_rows.specs.Difference.{TermsBelow}
use Rattle.lq_prover_case.specs.Objects.Joined.{Says}
use Rattle.lq_prover_case.specs.declared.objects.fact.ObjectFact.{ObjectFact}
use Rattle.lq_logic_predicates.specs.Sum.{Sum, whole, var, neg, add, sub, mul, div, rem, len, measure}
use Rattle.lq_logic_predicates.specs.Table.{has_term}
use Rattle.lq_logic_predicates.specs.TermView.{sum_of}

abbrev pub objects_of : ObjectTable → List Sum
objects_of objects = map sum_of objects.terms.keys

abbrev pub term_or : Option Sum → Sum
term_or (Some t) = t
term_or None = whole (pos 0)

-- the object of this number
abbrev pub name_in : List Sum → ℕ → Sum
name_in objects k = term_or (slice_get objects k)

-- the objects of a fact are there
abbrev pub HasSides : List Sum → Fact → Type 0
HasSides objects (objects_fact a b one) = (has_term objects a ≡ true) × (has_term objects b ≡ true)
HasSides objects (row_fact r) = Unit {0}
HasSides objects (flag_fact x value) = Unit {0}
HasSides objects never = Unit {0}

-- the argument of a length or a measure is there
abbrev pub HasArgument : List Sum → Sum → Type 0
HasArgument objects (len a) = has_term objects a ≡ true
HasArgument objects (measure f a) = has_term objects a ≡ true
HasArgument objects (whole n) = Unit {0}
HasArgument objects (var x) = Unit {0}
HasArgument objects (neg a) = Unit {0}
HasArgument objects (add a b) = Unit {0}
HasArgument objects (sub a b) = Unit {0}
HasArgument objects (mul a b) = Unit {0}
HasArgument objects (div a b) = Unit {0}
HasArgument objects (rem a b) = Unit {0}

abbrev pub HasAllSides : List Sum → List Fact → Type 0
HasAllSides objects facts = (k : ℕ) (f : Fact) → slice_get facts k ≡ Some f → HasSides objects f

abbrev pub HasAllArguments : List Sum → List Sum → Type 0
HasAllArguments objects terms = (k : ℕ) (t : Sum) → slice_get terms k ≡ Some t → HasArgument objects t

-- more objects
abbrev pub Keeps : List Sum → List Sum → Type 0
Keeps old new = (t : Sum) → has_term old t ≡ true → has_term new t ≡ true

-- a row is over the terms below n
abbrev pub IsBelow : ℕ → Fact → Type 0
IsBelow n (row_fact r) = TermsBelow n r.parts
IsBelow n (flag_fact x value) = Unit {0}
IsBelow n (objects_fact a b one) = Unit {0}
IsBelow n never = Unit {0}

abbrev pub AllBelow : ℕ → List Fact → Type 0
AllBelow n facts = (k : ℕ) (f : Fact) → slice_get facts k ≡ Some f → IsBelow n f

-- what a fact says of two objects is said of their numbers
pub record IsToldOf (objects : List Sum) (about : List ObjectFact) (x y : Sum) (one : Bool) : Type 0 where
  pub left : ℕ
  pub right : ℕ
  pub number : ℕ
  pub is_left : slice_get objects left ≡ Some x
  pub is_right : slice_get objects right ≡ Some y
  pub says : Says about left right one number

abbrev pub IsTold : List Sum → List ObjectFact → Fact → Type 0
IsTold objects about (row_fact r) = Unit {0}
IsTold objects about (flag_fact x value) = Unit {0}
IsTold objects about (objects_fact a b one) = IsToldOf objects about a b one
IsTold objects about never = Unit {0}

abbrev pub AllTold : List Sum → List ObjectFact → List Fact → Type 0
AllTold objects about facts = (k : ℕ) (f : Fact) → slice_get facts k ≡ Some f → IsTold objects about f

-- more facts about objects
abbrev pub SaysMore : List ObjectFact → List ObjectFact → Type 0
SaysMore old new = (a b t : ℕ) (one : Bool) → Says old a b one t → Says new a b one t
