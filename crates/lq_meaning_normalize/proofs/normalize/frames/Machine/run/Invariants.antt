use Rattle.std.proofs.Common.{◌≡◌}
use Rattle.lq_text_tree.specs.TreeView.{scoped_view}
use Rattle.lq_meaning_normalize.specs.Pass.Forming.{formed}
use Rattle.lq_meaning_normalize.specs.Pass.Views.{lets_of}
use Rattle.lq_meaning_normalize.specs.Normalize.Frames.{plugged, whole}
use Rattle.lq_meaning_normalize.specs.Normalize.Work.{work}
use Rattle.lq_meaning_normalize.proofs.normalize.frames.Machine.run.Given as goal

-- what is left around what is next makes what the tree becomes
abbrev pub invariant-loop-next : goal.invariant-loop-next
invariant-loop-next l =
    whole l.self l.next ≡ plugged l.initial.self.frames.items (formed (lets_of l.initial.self.pass) l.initial.self.pass.next (scoped_view l.source))

abbrev pub decreases-loop-next : goal.decreases-loop-next
decreases-loop-next l = work l.self l.next
