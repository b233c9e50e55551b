-- Types of the nodes of an arena, and equations that they meet, with types as the rules see them.
use Rattle.std.specs.Prelude.{◌≡◌, ℕ, List, [], ◌∷◌, Option, Some, All}
use Rattle.lq_text_tree.specs.MlType as ml
use Rattle.lq_text_tree.specs.MlType.{MlType, MlTypes}
use Rattle.lq_text_tree.specs.Types.{type_at}
use Rattle.lq_types_unify.specs.declared.arena.Equation.{Equation}
use Rattle.lq_types_unify.specs.declared.arena.Head.{Head}
use Rattle.lq_types_unify.specs.declared.arena.Head.TheVariants as head
use Rattle.lq_types_unify.specs.Nodes.{Form}

-- the type of this head over these parts
abbrev pub made : Head → MlTypes → MlType
made head.Whole ts = ml.int
made head.Flag ts = ml.bool
made head.Unit ts = ml.unit
made head.Arrow ts = ml.arrow (type_at ts 0) (type_at ts 1)
made head.Tuple ts = ml.tuple ts
made head.Array ts = ml.array (type_at ts 0)
made head.Map ts = ml.map_of (type_at ts 0)
made (head.Named d) ts = ml.named d ts

-- the types of some nodes
abbrev pub each : (ℕ → MlType) → List ℕ → MlTypes
each types [] = ml.no_types
each types (i ∷ is) = ml.more_types (types i) (each types is)

-- each node that has a form has a type of that form
abbrev pub Fits : (ℕ → Option Form) → (ℕ → MlType) → Type 0
Fits forms types = (i : ℕ) (f : Form) → forms i ≡ Some f → types i ≡ made f.head (each types f.parts)

abbrev pub Meets : (ℕ → MlType) → List Equation → Type 0
Meets types equations = All (λ e. types e.left ≡ types e.right) equations
