use Rattle.std.proofs.Common.{◌≡◌, ap, ◌∙◌, arith}
use Rattle.lq_text_tree.specs.TreeView.{scoped_view}
use Rattle.lq_meaning_normalize.specs.Pass.Forming.{formed}
use Rattle.lq_meaning_normalize.specs.Pass.Views.{lets_of}
use Rattle.lq_meaning_normalize.specs.Normalize.Frames.{plugged}
use Rattle.lq_meaning_normalize.specs.Normalize.Work.{weights}
use Rattle.lq_meaning_normalize.specs.declared.normalize.frames.Frame.{Frame}
use Rattle.lq_meaning_normalize.proofs.NormalizeLemmas.Plugging.{plugged_more, weights_more}
use Rattle.lq_meaning_normalize.proofs.normalize.frames.Machine.go_on.Goals as goal

pub returns-clause-whole : goal.returns-clause-whole
returns-clause-whole c =
    let F = formed (lets_of c.args.self.now.pass) c.args.self.now.pass.next (scoped_view c.args.part.now) in
    ap (λ fs. plugged fs F) c.in_ok-push.ensures.items ∙ plugged_more c.args.self.now.frames.items (record { label = c.args.label; step = c.args.step }) F

pub returns-clause-work : goal.returns-clause-work
returns-clause-work c =
    let pushed = ap weights c.in_ok-push.ensures.items in
    let more = weights_more c.args.self.now.frames.items (record { label = c.args.label; step = c.args.step }) in
    omega (arith, pushed, more)
