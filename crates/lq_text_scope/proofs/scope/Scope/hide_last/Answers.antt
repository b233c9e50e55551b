use Rattle.std.proofs.Common.{arith, subst}
use Rattle.lq_text_scope.specs.Views.{IsScope}
use Rattle.lq_text_scope.proofs.Scopes.{within}
use Rattle.lq_text_scope.proofs.scope.Scope.hide_last.Goals as goal

pub index_mut-requires : goal.index_mut-requires
index_mut-requires c =
    let more = within c.self.inside.last.items c.pop.new.self.items c.in-Some.entry (subst (IsScope c.self.inside.last.items) c.in-Some.ensures.items c.self.invariant) in
    omega (arith, more, c.self.inside.last.ok.0)
