use Rattle.std.proofs.Common.{[], true, ap, ◌∙◌, arith}
use Rattle.lq_meaning_normal_tree.specs.AtomView.{atom_view}
use Rattle.lq_text_tree.specs.TreeView.{scoped_view}
use Rattle.lq_text_walk.specs.Walk.View.{three_view}
use Rattle.lq_meaning_normalize.specs.Pass.Forming.{atom}
use Rattle.lq_meaning_normalize.specs.Pass.Views.{became, is_pure_normal, lets_of}
use Rattle.lq_meaning_normalize.specs.Normalize.Frames.{plugged}
use Rattle.lq_meaning_normalize.proofs.NormalizeLemmas.Steps.{middle_goes}
use Rattle.lq_meaning_normalize.proofs.normalize.frames.Machine.middle.Goals as goal

pub returns-clause-whole : goal.returns-clause-whole
returns-clause-whole c =
    let P = c.operand.new.self in
    c.in_ok-next.ensures.whole
    ∙ ap (plugged c.args.self.now.frames.items)
    (middle_goes c.args.label.id c.args.label.place (three_view c.args.head) (atom [] 0 true (atom_view c.args.first)) (scoped_view c.args.part.now) (scoped_view c.args.last.now)
    (became c.args.self.now.pass c.args.normal) (lets_of P) P.next (is_pure_normal c.args.normal) (atom_view c.in_ok-middle.middle) c.in_ok-middle.ensures.stands)

pub returns-clause-work : goal.returns-clause-work
returns-clause-work c = omega (arith, c.in_ok-next.ensures.work)
