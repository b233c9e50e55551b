use Rattle.std.proofs.Common.{[], true}
use Rattle.lq_meaning_normal_tree.specs.AtomView.{atom_view}
use Rattle.lq_text_tree.specs.TreeView.{scoped_view}
use Rattle.lq_text_walk.specs.Walk.View.{three_view}
use Rattle.lq_meaning_normalize.specs.Pass.Forming.{atom}
use Rattle.lq_meaning_normalize.specs.Pass.Views.{became, is_pure_normal, lets_of, shown}
use Rattle.lq_meaning_normalize.proofs.NormalizeLemmas.Steps.{last_goes}
use Rattle.lq_meaning_normalize.proofs.normalize.operands.last.Goals as goal

pub returns : goal.returns
returns c =
    let P = c.operand.new.self in
    last_goes c.args.label.id c.args.label.place (three_view c.args.head) (atom [] 0 true (atom_view c.args.first)) (atom [] 0 true (atom_view c.args.middle)) (scoped_view c.args.part.now)
    (became c.args.pass.now c.args.normal) (lets_of P) P.next (is_pure_normal c.args.normal) (atom_view c.in_ok-atom.atom) (shown c.in_ok-made.made) c.in_ok-atom.ensures.stands c.in_ok-made.ensures
