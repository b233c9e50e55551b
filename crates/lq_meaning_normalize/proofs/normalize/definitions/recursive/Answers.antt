use Rattle.std.proofs.Common.{◌≡◌, ap, ◌∙◌, rules}
use Rattle.lq_meaning_normal_tree.specs.BlockView.{block_view, local_view}
use Rattle.lq_base_names.specs.declared.name.Binder.{Binder}
use Rattle.lq_text_tree.specs.TreeView.{scoped_view}
use Rattle.lq_text_tree.specs.declared.expr.Function.{out-Function}
use Rattle.lq_meaning_normalize.proofs.NormalizeLemmas.Whole.{function_formed}
use Rattle.lq_meaning_normalize.proofs.normalize.definitions.recursive.Goals as goal

pub returns-clause-function : goal.returns-clause-function
returns-clause-function c =
    let f = c.args.function.now in
    let x = c.in_ok-parameter.parameter in
    let body : scoped_view c.deref.result.now ≡ scoped_view (out-Function Binder f).body.value = search rules in
    c.recursive_of.ensures
    ∙ function_formed f c.args.next c.parameter.new.pass.next x (local_view x.local) (block_view c.in_ok-block.block) (block_view c.in_ok-boxed.boxed.value) (scoped_view c.deref.result.now)
    c.in_ok-parameter.ensures.local c.in_ok-parameter.ensures.next c.in_ok-block.ensures.block body (ap block_view c.in_ok-boxed.ensures.ok ∙ c.in_ok-whole.ensures) c.in_ok-parameter.ensures.under
