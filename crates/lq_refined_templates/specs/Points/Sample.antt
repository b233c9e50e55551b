-- What the examples are made of. A node's place is the column of its number, and a binder's place that of its number and 20.
use Rattle.std.specs.Prelude.{◌≡◌, ℕ, zero, suc, ◌+◌, ◌==◌, cond, pos, List, [], ◌∷◌, Option, Some, None}
use Rattle.lq_refined_rules.specs.Checks.Sample.{at, ordered}
use Rattle.lq_refined_rules.specs.Checks.Tree as t
use Rattle.lq_refined_instances.specs.Scopes.{Visible}
use Rattle.lq_logic_predicates.specs.declared.symbol.Symbol.TheVariants.{Position}
use Rattle.lq_refined_types.specs.Types.Operations.{symbol_of}
use Rattle.lq_text_qualifiers.specs.Faults.Shapes as shape
use Rattle.lq_refined_templates.specs.Templates.Scopes.{Unknown}
use Rattle.lq_text_tree.specs.Items.{ItemTree, let_of}
use Rattle.lq_text_tree.specs.MlType as ml
use Rattle.lq_text_tree.specs.MlType.{MlType, MlTypes}
use Rattle.lq_text_tree.specs.Pattern.{Pattern, pattern, bind}
use Rattle.lq_text_tree.specs.Signatures.{signature_of}
use Rattle.lq_text_tree.specs.Tree as form
use Rattle.lq_text_tree.specs.Tree.{Tree, tree, Form, Trees, no_trees, more_trees}
use Rattle.lq_refined_templates.specs.Points.Annotation.{Annotation}
use Rattle.lq_refined_templates.specs.Points.Point.{Point}
use Rattle.lq_refined_templates.specs.Points.Reading.{program_of}
use Rattle.lq_refined_templates.specs.Points.Templates.{Datatypes, unknowns_of}

-- ---- trees

abbrev pub node : ℕ → Form → Tree
node i f = tree i (at i) f

abbrev pub name : ℕ → ℕ → Tree
name i x = node i (form.use_of x)

abbrev pub number : ℕ → ℕ → Tree
number i m = node i (form.whole (pos m))

abbrev pub binder : ℕ → Pattern
binder x = pattern (at (20 + x)) (bind x)

abbrev pub define : ℕ → Tree → ItemTree
define x e = record { place = at (20 + x); form = let_of (binder x) e }

abbrev pub pair : Tree → Tree → Trees
pair a b = more_trees a (more_trees b no_trees)

-- ---- annotations

-- the type of a number; of another one `unit`
abbrev pub found : List (ℕ × MlType) → ℕ → MlType
found [] i = ml.unit
found (e ∷ es) i = cond (e.0 == i) e.1 (found es i)

abbrev pub found_arguments : List (ℕ × MlTypes) → ℕ → Option MlTypes
found_arguments [] i = None
found_arguments (e ∷ es) i = cond (e.0 == i) (Some e.1) (found_arguments es i)

-- a binder's source name, if it has one, and its type
abbrev pub Known : Type 0
Known = Option ℕ × MlType

abbrev pub type_at : List Known → ℕ → MlType
type_at [] x = ml.unit
type_at (k ∷ ks) zero = k.1
type_at (k ∷ ks) (suc x) = type_at ks x

abbrev pub text_at : List Known → ℕ → Option ℕ
text_at [] x = None
text_at (k ∷ ks) zero = k.0
text_at (k ∷ ks) (suc x) = text_at ks x

-- by the binders from 0 on, the types of nodes, and those for the variables of uses; the source name `v` has the number 59
abbrev pub annotation : List Known → List (ℕ × MlType) → List (ℕ × MlTypes) → Annotation
annotation ks ts us =
    record { types = found ts; names = type_at ks; arguments = found_arguments us; text = text_at ks; value = 59 }

abbrev pub list_of : MlType → MlType
list_of a = ml.named 4 (ml.more_types a ml.no_types)

abbrev pub option_of : MlType → MlType
option_of a = ml.named 5 (ml.more_types a ml.no_types)

-- ---- scopes

abbrev pub int_named : ℕ → Visible
int_named x = (symbol_of x, shape.int)

abbrev pub bool_named : ℕ → Visible
bool_named x = (symbol_of x, shape.bool)

abbrev pub option_named : ℕ → Visible
option_named x = (symbol_of x, shape.data_of 5)

abbrev pub first_field : Visible
first_field = (Position 1, shape.int)

abbrev pub key : Visible
key = (Position 0, shape.int)

-- ---- examples

-- of `list` and `option`, with no measure
abbrev pub lists_and_options : Datatypes
lists_and_options = record { constructors = signature_of []; ordered = ordered; equations = λ c. [] }

-- a program of the typing rules, its points, and the scopes and shapes of their unknowns
abbrev pub Reads : Annotation → List ItemTree → t.Program → List Point → List Unknown → Type 0
Reads n is p qs us = (program_of n is ≡ record { read = p; points = qs }) × (unknowns_of lists_and_options qs ≡ us)
