use Rattle.std.proofs.Common.{sym, ap, subst, ◌∙◌}
use Rattle.lq_refined_rules.specs.Checks.Tree.{last}
use Rattle.lq_refined_templates.specs.Programs.BlockView.{bindings_view, operation_view}
use Rattle.lq_generate_implications.specs.Walk.Through.{Ends}
use Rattle.lq_generate_implications.proofs.WalkLemmas.Passing.{ends-passed}
use Rattle.lq_generate_implications.proofs.WalkLemmas.Views.{block_seen}
use Rattle.lq_generate_implications.proofs.walk.walk.Walk.to_last.Goals as goal

pub returns : goal.returns
returns c =
    let b = c.args.basis.now in
    let w = c.args.self.now in
    let z = c.operation.new.self in
    let k = c.args.block.now in
    let n = c.in_ok-inner.inner in
    let o = operation_view k.last in
    subst (λ x. Ends b w z c.args.env n c.in_ok-row.row x)
    (sym (block_seen k ∙ ap (λ bs. bindings_view bs (last k.place o)) (sym c.deref.ensures.value)))
    (ends-passed b w c.args.env c.requires c.through.new.self c.given.new.self z n c.in_ok-row.row (bindings_view c.deref.result.now) k.place o
    c.in_ok-inner.ensures c.in_ok-row.ensures c.in_ok-operation.ensures)
