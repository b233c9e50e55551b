-- What has been read and isn't yet part of a larger value: the values on which actions work.
use Rattle.std.specs.Prelude.{ℕ, suc, ◌<◌, ◌≤◌, List, ◌∷◌, Option, Some, None}
use Rattle.lq_base_names.specs.declared.limits.TheConstants.{LITERAL_LIMIT}
use Rattle.lq_base_names.specs.declared.place.Place.{Place}
use Rattle.lq_text_tree.specs.Items.{Named, Construct, ItemTree}
use Rattle.lq_text_tree.specs.MeasureTrees.{EquationTree, MeasureTree}
use Rattle.lq_text_tree.specs.Pattern.{Pattern}
use Rattle.lq_text_tree.specs.PredTree.{PredTree}
use Rattle.lq_text_tree.specs.Qualifiers.{QualifierTree}
use Rattle.lq_text_tree.specs.Tree.{Tree, tree, Form}
use Rattle.lq_text_tree.specs.TreeView.{Case, Recursive}
use Rattle.lq_text_tree.specs.TypeTree.{TypeTree}

-- what a token has for actions beside its place: a name, which is the number of its text, or the value of a number, or neither
pub data Content : Type 0 where
  some_name : ℕ → Content
  some_number : ℕ → Content
  neither : Content

-- a token as actions see it
pub record Lexeme : Type 0 where
  pub place : Place
  pub content : Content

-- what is made of a token's name, where it has one
abbrev pub by_name : {X : Type 0} → Content → (ℕ → Option X) → Option X
by_name (some_name x) f = f x
by_name (some_number v) f = None
by_name neither f = None

-- what is made of a token's number, where it has one
abbrev pub by_number : {X : Type 0} → Content → (ℕ → Option X) → Option X
by_number (some_name x) f = None
by_number (some_number v) f = f v
by_number neither f = None

-- the token has a name
abbrev pub HasName : Content → Type 0
HasName (some_name x) = Unit {0}
HasName (some_number v) = ⊥
HasName neither = ⊥

-- the token has a number below the limit of literals
abbrev pub HasNumberBelow : Content → Type 0
HasNumberBelow (some_name x) = ⊥
HasNumberBelow (some_number v) = v < LITERAL_LIMIT
HasNumberBelow neither = ⊥

-- the token has a number that is at most the limit of literals
abbrev pub HasNumberUpTo : Content → Type 0
HasNumberUpTo (some_name x) = ⊥
HasNumberUpTo (some_number v) = v ≤ LITERAL_LIMIT
HasNumberUpTo neither = ⊥

-- Where the commas of an expression stand: it is a tuple without parentheses around it, such a tuple directly in parentheses, or neither.
pub data Commas : Type 0 where
  bare : Commas
  enclosed : Commas
  absent : Commas

-- Values. An expression, a type and a predicate have the place of their first token beside them, parentheses around them among the
-- tokens: a larger one that begins with them begins there. A row has the place at which it begins.
pub data Value : Type 0 where
  -- the place of a token
  mark : Place → Value
  -- a name and its place
  named : ℕ → Place → Value
  expression : Tree → Place → Commas → Value
  expressions : List Tree → Place → Value
  -- an array and an index, before it is known whether an element is read or written
  element : Tree → Tree → Place → Value
  arms : List Case → Value
  -- a name and the function that it names in its own body
  recursive : ℕ → Recursive → Value
  pattern_read : Pattern → Value
  patterns : List Pattern → Place → Value
  type_read : TypeTree → Place → Value
  types : List TypeTree → Place → Value
  parameters : List Named → Value
  constructors : List Construct → Value
  items : List ItemTree → Value
  predicate : PredTree → Place → Value
  qualifiers : List QualifierTree → Value
  equations : List EquationTree → Value
  measures : List MeasureTree → Value

-- the values, the last one first, and how many nodes of expressions have been made
pub record Making : Type 0 where
  pub made : ℕ
  pub values : List Value

-- the values alone
abbrev pub with_values : ℕ → Option (List Value) → Option Making
with_values n None = None
with_values n (Some vs) = Some (record { made = n; values = vs })

-- one more node, which has the next number
abbrev pub with_node : ℕ → Place → Form → Commas → List Value → Option Making
with_node n place form commas vs = Some (record { made = suc n; values = expression (tree n place form) place commas ∷ vs })
