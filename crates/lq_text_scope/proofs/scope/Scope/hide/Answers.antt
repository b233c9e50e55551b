use Rattle.std.proofs.Common.{ap, ◌∙◌, drop}
use Rattle.lq_text_scope.proofs.Scopes.{drop_more}
use Rattle.lq_text_scope.proofs.scope.Scope.hide.Goals as goal

pub loop-preserved : goal.loop-preserved
loop-preserved c = c.hide_last.ensures ∙ ap (drop 1) c.loop.invariant ∙ drop_more c.loop.counter c.args.self.now
