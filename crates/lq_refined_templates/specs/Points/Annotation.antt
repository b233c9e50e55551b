-- What is known of the nodes and the binders of a program.
use Rattle.std.specs.Prelude.{ℕ, zero, Bool, false, ◌==◌, not, cond, Option, Some, None}
use Rattle.lq_text_tree.specs.MlType.{MlType, unit, array, map_of, MlTypes}
use Rattle.lq_text_tree.specs.Tree.{Tree, tree, Form, match_on, more_cases}

pub record Annotation : Type 0 where
  -- the types of nodes, and of binders
  pub types : ℕ → MlType
  pub names : ℕ → MlType
  -- the types for the type variables, at a use of a generalised name
  pub arguments : ℕ → Option MlTypes
  -- the source name of a binder; one that was made has none
  pub text : ℕ → Option ℕ
  -- the source name `v`, which in predicates is the value
  pub value : ℕ

-- The type of an expression. A match that was made for a parameter has no number of its own, but 0, which no other match has: its type is
-- that of its first arm.
abbrev mutual
  pub type_of : Annotation → Tree → MlType
  type_of n (tree i p f) = type_of_form n i f

  pub type_of_form : Annotation → ℕ → Form → MlType
  type_of_form n zero (match_on e (more_cases q b cs)) = type_of n b
  type_of_form n i f = n.types i

-- the elements of an array or a map
abbrev pub element_type : MlType → MlType
element_type (array a) = a
element_type (map_of a) = a
element_type _ = unit

abbrev pub is_text : ℕ → Option ℕ → Bool
is_text s None = false
is_text s (Some r) = s == r

-- predicates may speak of a name of the source, other than `v`
abbrev pub is_other_text : ℕ → Option ℕ → Bool
is_other_text s None = false
is_other_text s (Some r) = not (s == r)

abbrev pub is_spoken_of : Annotation → ℕ → Bool
is_spoken_of n x = is_other_text n.value (n.text x)

-- a parameter as a template names it
abbrev pub argument_name : Annotation → ℕ → Option ℕ
argument_name n x = cond (is_spoken_of n x) (Some x) None

-- Where a name that was made stands for an operand, its use has the operand's number: only a name of the source is generalised.
abbrev pub of_source : Option ℕ → Option MlTypes → Option MlTypes
of_source None ts = None
of_source (Some s) ts = ts

-- at the node i, a use of x
abbrev pub arguments_at : Annotation → ℕ → ℕ → Option MlTypes
arguments_at n i x = of_source (n.text x) (n.arguments i)
