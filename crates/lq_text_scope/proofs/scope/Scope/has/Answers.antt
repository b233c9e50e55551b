use Rattle.std.proofs.Common.{ap, ◌∙◌, is_some}
use Rattle.lq_text_scope.proofs.Scopes.{has_found}
use Rattle.lq_text_scope.proofs.scope.Scope.has.Goals as goal

pub returns : goal.returns
returns c = c.is_some.ensures ∙ ap is_some c.find.ensures ∙ has_found c.args.self.now c.args.name.0
