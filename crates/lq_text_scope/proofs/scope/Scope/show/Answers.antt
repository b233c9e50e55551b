use Rattle.std.proofs.Common.{subst, sym, ap, ◌∙◌, ◌+◌, ◌-◌, ◌<◌, ◌++◌, length, replicate, None, Some, slice_set}
use Rattle.lq_text_scope.specs.Views.{IsScope}
use Rattle.lq_text_scope.specs.declared.scope.Entry.{Entry}
use Rattle.lq_text_scope.proofs.Scopes.{pushed}
use Rattle.lq_text_scope.proofs.scope.Scope.show.Goals as goal

pub invariant_of-self-2 : goal.invariant_of-self-2
invariant_of-self-2 c =
    let last = c.self.inside.last.items in
    let more = c.args.name.0 + 1 - length last in
    let e : Entry = record { name = c.args.name; count = c.args.count; former = c.find-former.result } in
    let before = c.find-former.ensures ∙ ap (λ s. Rattle.lq_text_scope.specs.Known.arity_in s c.args.name.0) (sym c.self.view_is) in
    let long = subst (λ l. c.args.name.0 < length l) c.in_ok-reach.ensures.items c.in_ok-reach.ensures.long in
    subst (λ l. IsScope (slice_set l c.args.name.0 (Some c.args.count)) c.push.new.self.items) (sym c.in_ok-reach.ensures.items)
    (subst (λ es. IsScope (slice_set (last ++ replicate more None) c.args.name.0 (Some c.args.count)) es) (sym c.in_ok-push.ensures.items)
    (pushed last c.self.inside.entries.items e more c.self.invariant before long))
