use Rattle.std.proofs.Common.{ap, ◌∙◌}
use Rattle.lq_meaning_normal_tree.specs.AtomView.{atom_view}
use Rattle.lq_text_tree.specs.TreeView.{scoped_view}
use Rattle.lq_text_walk.specs.Walk.View.{one_view}
use Rattle.lq_meaning_normalize.specs.Pass.Views.{became, became_atom, lets_of, shown}
use Rattle.lq_meaning_normalize.proofs.NormalizeLemmas.Steps.{one_goes}
use Rattle.lq_meaning_normalize.proofs.normalize.operands.one.Goals as goal

pub returns : goal.returns
returns c =
    let P = c.operand.new.self in
    one_goes c.args.label.id c.args.label.place (one_view c.args.head) (scoped_view c.args.part.now) (became c.args.pass.now c.args.normal) (lets_of P) P.next
    c.is_pure-pure.result (atom_view c.in_ok-atom.atom) (shown c.in_ok-made.made)
    (ap (became_atom P c.in_ok-atom.atom) c.is_pure-pure.ensures ∙ c.in_ok-atom.ensures.stands) c.in_ok-made.ensures
