use Rattle.std.proofs.Common.{◌∙◌, Some, suc, refl, sym, ap, subst, arith, unwrap_or}
use Rattle.indexmap.proofs.CallerLemmas.{insert_entry-new}
use Rattle.lq_prover_case.specs.Equations.Equating.{AreFirsts, first_at, same_at}
use Rattle.lq_prover_case.specs.declared.equations.application.FunctionAt.{FunctionAt}
use Rattle.lq_prover_case.proofs.EquationsLemmas.Firsts.{firsts_more, firsts_push, keeps_push, lookup_new, none_from, same_at-refl, some_first}
use Rattle.lq_prover_case.proofs.equations.equating.first_of.Goals as goal

pub returns-in_ok-insert-clause-firsts : goal.returns-in_ok-insert-clause-firsts
returns-in_ok-insert-clause-firsts c = λ objects terms classes e h i.
    let n = c.args.later.index in
    let k : FunctionAt = record { measure = c.args.later.measure; class = c.args.class } in
    let none = sym (c.copied-first.ensures ∙ c.get.ensures.value) ∙ none_from c.copied-first.result c.if-is_none.ensures in
    subst (AreFirsts objects terms classes (suc n)) (sym (c.in_ok-insert.ensures.entries ∙ insert_entry-new _ c.args.firsts.now k c.args.later none))
    (firsts_push objects terms classes (suc n) c.args.firsts.now.entries k c.args.later (firsts_more objects terms classes n (suc n) c.args.firsts.now.entries (omega arith) h)
    (record { is = i; function = refl; class = e; before = omega arith }))

pub returns-in_ok-insert-clause-keeps : goal.returns-in_ok-insert-clause-keeps
returns-in_ok-insert-clause-keeps c =
    let k : FunctionAt = record { measure = c.args.later.measure; class = c.args.class } in
    let none = sym (c.copied-first.ensures ∙ c.get.ensures.value) ∙ none_from c.copied-first.result c.if-is_none.ensures in
    keeps_push c.args.firsts.now.entries c.insert.new.self.entries (k, c.args.later) (c.in_ok-insert.ensures.entries ∙ insert_entry-new _ c.args.firsts.now k c.args.later none)

pub returns-in_ok-insert-clause-found : goal.returns-in_ok-insert-clause-found
returns-in_ok-insert-clause-found c =
    let k : FunctionAt = record { measure = c.args.later.measure; class = c.args.class } in
    let none = sym (c.copied-first.ensures ∙ c.get.ensures.value) ∙ none_from c.copied-first.result c.if-is_none.ensures in
    ap (λ l. first_at l k) (c.in_ok-insert.ensures.entries ∙ insert_entry-new _ c.args.firsts.now k c.args.later none)
    ∙ lookup_new (same_at k) c.args.firsts.now.entries (k, c.args.later) none (same_at-refl k)
    ∙ ap (λ o. Some (unwrap_or o c.args.later)) (sym (none_from c.copied-first.result c.if-is_none.ensures))

pub returns-else-is_none-clause-some : goal.returns-else-is_none-clause-some
returns-else-is_none-clause-some c =
    some_first c.copied-first.result c.args.later.index (record { measure = c.args.later.measure; class = c.args.class }) c.args.firsts.now.entries (c.copied-first.ensures ∙ c.get.ensures.value)

pub returns-else-is_none-clause-firsts : goal.returns-else-is_none-clause-firsts
returns-else-is_none-clause-firsts c = λ objects terms classes e h i. firsts_more objects terms classes c.args.later.index (suc c.args.later.index) c.args.firsts.now.entries (omega arith) h
