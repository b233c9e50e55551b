use Rattle.std.proofs.Common.{ap, ◌∙◌}
use Rattle.lq_meaning_normal_tree.specs.AtomView.{atom_view}
use Rattle.lq_text_tree.specs.TreeView.{scoped_view}
use Rattle.lq_text_walk.specs.Walk.View.{two_view}
use Rattle.lq_meaning_normalize.specs.Pass.Forming.{two_node}
use Rattle.lq_meaning_normalize.specs.Pass.Views.{became, became_atom, lets_of, shown}
use Rattle.lq_meaning_normalize.specs.Normalize.Frames.{done}
use Rattle.lq_meaning_normalize.proofs.NormalizeLemmas.Steps.{second_goes}
use Rattle.lq_meaning_normalize.proofs.normalize.operands.second.Goals as goal

pub returns : goal.returns
returns c =
    let P = c.operand.new.self in
    second_goes c.args.label.id c.args.label.place (two_view c.args.head) (done c.args.left) (scoped_view c.args.part.now) (became c.args.pass.now c.args.normal) (lets_of P) P.next
    c.is_pure-is_pure.result (atom_view c.in_ok-atom.atom) (shown c.in_ok-made.made)
    (ap (became_atom P c.in_ok-atom.atom) c.is_pure-is_pure.ensures ∙ c.in_ok-atom.ensures.stands) (c.in_ok-made.ensures ∙ ap (λ b. two_node (two_view c.args.head) c.args.label.id c.args.label.place b (atom_view c.args.left.atom) (atom_view c.in_ok-atom.atom)) c.both-pure.ensures)
