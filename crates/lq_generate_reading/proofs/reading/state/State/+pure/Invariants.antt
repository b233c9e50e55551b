use Rattle.std.proofs.Common.{◌+◌, ◌*◌, max}
use Rattle.lq_meaning_normal_tree.specs.declared.atom.Atom.{size-Atom}
use Rattle.lq_meaning_normal_tree.specs.declared.atom.AtomNode.{size-AtomNode}
use Rattle.lq_generate_reading.proofs.reading.state.State.+pure.Given as goal

abbrev pub decreases-pure : goal.decreases-pure
decreases-pure l = 3 * size-Atom l.atom.now

abbrev pub decreases-pure_node : goal.decreases-pure_node
decreases-pure_node l = 3 * size-AtomNode l.node.now + 2

abbrev pub decreases-boxed : goal.decreases-boxed
decreases-boxed l = 3 * size-Atom l.atom.now + 1

abbrev pub decreases-boxes : goal.decreases-boxes
decreases-boxes l = 3 * max (size-Atom l.first.now) (size-Atom l.second.now) + 2
