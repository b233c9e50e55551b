-- The tree that a pure expression in memory stands for.
use Rattle.lq_base_names.specs.declared.operation.ArithOp.{ArithOp}
use Rattle.lq_base_names.specs.declared.operation.ArithOp.TheVariants as op
use Rattle.lq_text_tree.specs.Tree.{Tree, tree, Form, whole, flag, unit, use_of, arithmetic, negated, compare, not_of, and_of, or_of, length_of}
use Rattle.lq_meaning_normal_tree.specs.declared.atom.Atom.{Atom, fold-Atom}
use Rattle.lq_meaning_normal_tree.specs.declared.atom.AtomNode.{AtomNode, fold-AtomNode}
use Rattle.lq_meaning_normal_tree.specs.declared.atom.AtomNode.TheOpen.{AtomNode-F, Atom-F}
use Rattle.lq_meaning_normal_tree.specs.declared.atom.RingOp.{RingOp}
use Rattle.lq_meaning_normal_tree.specs.declared.atom.RingOp.TheVariants as ring

abbrev pub operator_of : RingOp → ArithOp
operator_of ring.Add = op.Add
operator_of ring.Sub = op.Sub
operator_of ring.Mul = op.Mul

-- one level, with each expression inside already seen
abbrev pub atom_node_step : AtomNode-F Form Tree → Form
atom_node_step (AtomNode-F.Whole n) = whole n
atom_node_step (AtomNode-F.Flag b) = flag b
atom_node_step AtomNode-F.Unit = unit
atom_node_step (AtomNode-F.Use x) = use_of x.0
atom_node_step (AtomNode-F.Ring o a b) = arithmetic (operator_of o) a.value b.value
atom_node_step (AtomNode-F.Neg a) = negated a.value
atom_node_step (AtomNode-F.Compare o a b) = compare o a.value b.value
atom_node_step (AtomNode-F.Not a) = not_of a.value
atom_node_step (AtomNode-F.And a b) = and_of a.value b.value
atom_node_step (AtomNode-F.Or a b) = or_of a.value b.value
atom_node_step (AtomNode-F.Length a) = length_of a.value

abbrev pub atom_step : Atom-F Form Tree → Tree
atom_step a = tree a.id a.place a.node

abbrev pub atom_node_view : AtomNode → Form
atom_node_view = fold-AtomNode Form Tree atom_node_step atom_step

abbrev pub atom_view : Atom → Tree
atom_view = fold-Atom Form Tree atom_node_step atom_step
