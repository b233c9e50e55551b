use Rattle.std.proofs.Common.{ap, ◌∙◌}
use Rattle.lq_meaning_normal_tree.specs.BlockView.{lets_view}
use Rattle.lq_text_tree.specs.TreeView.{scoped_view}
use Rattle.lq_meaning_normalize.specs.Pass.Forming.{Formed, block_of}
use Rattle.lq_meaning_normalize.specs.Pass.Views.{became}
use Rattle.lq_meaning_normalize.proofs.NormalizeLemmas.Whole.{tree_made}
use Rattle.lq_meaning_normalize.proofs.normalize.running.block_of.Goals as goal

pub returns-clause-block : goal.returns-clause-block
returns-clause-block c =
    c.end_block-block.ensures.block
    ∙ ap block_of (tree_made c.new-frames.result.items (lets_view c.new-bindings.result.items) c.args.next (scoped_view c.args.source.now) (became c.run.new.self.pass c.in_ok-made.made)
    c.new-frames.ensures.items (ap lets_view c.new-bindings.ensures.items) c.in_ok-made.ensures)

pub returns-clause-next : goal.returns-clause-next
returns-clause-next c =
    c.end_block-block.ensures.next
    ∙ ap (λ (F : Formed). F.next) (tree_made c.new-frames.result.items (lets_view c.new-bindings.result.items) c.args.next (scoped_view c.args.source.now)
    (became c.run.new.self.pass c.in_ok-made.made) c.new-frames.ensures.items (ap lets_view c.new-bindings.ensures.items) c.in_ok-made.ensures)
