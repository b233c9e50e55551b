-- One level of a type of a table.
use Rattle.std.specs.Prelude.{◌≡◌, ◌⊎◌, ℕ, List, [], ◌∷◌, length}
use Rattle.lq_text_tree.specs.MlType as ml
use Rattle.lq_text_tree.specs.MlType.{MlType}
use Rattle.lq_types_table.specs.declared.type_node.TypeHead.{TypeHead}
use Rattle.lq_types_table.specs.declared.type_node.TypeNode.{TypeNode}
use Rattle.lq_types_table.specs.declared.type_node.TypeNode.TheVariants as node
use Rattle.lq_types_table.specs.Heads.{made, each, IsRight}
use Rattle.lq_types_table.specs.Nodes.{at}

-- the type of a node whose parts are types of the table
abbrev pub node_type : List MlType → TypeNode → MlType
node_type all node.Int = ml.int
node_type all node.Bool = ml.bool
node_type all node.Unit = ml.unit
node_type all (node.Var v) = ml.var v
node_type all (node.Arrow a b) = ml.arrow (at all a) (at all b)
node_type all (node.Tuple ps) = ml.tuple (each (at all) ps.now)
node_type all (node.Array a) = ml.array (at all a)
node_type all (node.Named d ps) = ml.named d.0 (each (at all) ps.now)
node_type all (node.Map a) = ml.map_of (at all a)

abbrev pub node_parts : TypeNode → List ℕ
node_parts node.Int = []
node_parts node.Bool = []
node_parts node.Unit = []
node_parts (node.Var v) = []
node_parts (node.Arrow a b) = a ∷ b ∷ []
node_parts (node.Tuple ps) = ps.now
node_parts (node.Array a) = a ∷ []
node_parts (node.Named d ps) = ps.now
node_parts (node.Map a) = a ∷ []

-- the type at a number is of these parts, under some head, or a variable, and there are none
abbrev pub IsOver : List MlType → ℕ → List ℕ → Type 0
IsOver all i parts =
    ((v : ℕ) × (at all i ≡ ml.var v) × (parts ≡ [])) ⊎ ((h : TypeHead) × (at all i ≡ made h (each (at all) parts)) × IsRight h (length parts))
