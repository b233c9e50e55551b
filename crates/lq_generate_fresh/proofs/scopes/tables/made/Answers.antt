use Rattle.std.proofs.Common.{◌∙◌, ◌<◌, [], ◌∷◌, ◌++◌, length, slice_index_or, sym, ap, arith}
use Rattle.lq_refined_instances.specs.Scopes.{scope_in, without}
use Rattle.lq_refined_instances.specs.Seen.{hidden_view, visible_view}
use Rattle.lq_refined_instances.specs.Views.{scopes_view}
use Rattle.lq_refined_instances.specs.declared.scope.Visible as held
use Rattle.lq_refined_substitution.specs.Substitution.Scopes.{without as hiding}
use Rattle.lq_refined_substitution.specs.Substitution.Views.{scope_at, scope_lists}
use Rattle.std.specs.Prelude.{Option}
use Rattle.lq_generate_fresh.proofs.ScopesLemmas.Numbering.{last_is, symbols_hidden, symbols_shown}
use Rattle.lq_generate_fresh.proofs.scopes.tables.made.Goals as goal

pub returns-in_ok-number-in-None-clause-same : goal.returns-in_ok-number-in-None-clause-same
returns-in_ok-number-in-None-clause-same c =
    let all = scopes_view c.args.table.now in
    let old = scope_lists c.args.scopes.now in
    let last = c.in-Some.last in
    let up = scope_in all last.parent in
    let here = c.in-Some.ensures.visible in
    let low : last.parent < length c.args.numbers.now = let e = c.in-Some.ensures.earlier in let k = c.requires.all in omega (arith, e, k) in
    last_is old (scope_lists c.add.new.self) (scope_at c.args.scopes.now (slice_index_or c.args.numbers.now last.parent 0) ++ last.visible.symbol ∷ [])
    c.in_ok-number-in-None.number c.in_ok-number-in-None.ensures.added c.in_ok-number-in-None.ensures.number
    ∙ (ap (λ l. l ++ last.visible.symbol ∷ []) (c.requires.made.same last.parent low)
    ∙ sym (symbols_shown (scope_in all c.args.at) up (visible_view last.visible)
    (here ∙ ap (λ (h : Option held.Visible). without (hidden_view h) up ++ visible_view last.visible ∷ []) c.in-None.is)))

pub returns-in_ok-number-in-Some-hidden-clause-same : goal.returns-in_ok-number-in-Some-hidden-clause-same
returns-in_ok-number-in-Some-hidden-clause-same c =
    let all = scopes_view c.args.table.now in
    let old = scope_lists c.args.scopes.now in
    let last = c.in-Some.last in
    let hidden = c.in-Some-hidden.hidden in
    let up = scope_in all last.parent in
    let here = c.in-Some.ensures.visible in
    let low : last.parent < length c.args.numbers.now = let e = c.in-Some.ensures.earlier in let k = c.requires.all in omega (arith, e, k) in
    last_is old (scope_lists c.add_hiding.new.self)
    (hiding hidden.symbol (scope_at c.args.scopes.now (slice_index_or c.args.numbers.now last.parent 0)) ++ last.visible.symbol ∷ [])
    c.in_ok-number-in-Some-hidden.number c.in_ok-number-in-Some-hidden.ensures.added c.in_ok-number-in-Some-hidden.ensures.number
    ∙ (ap (λ l. hiding hidden.symbol l ++ last.visible.symbol ∷ []) (c.requires.made.same last.parent low)
    ∙ sym (symbols_hidden (scope_in all c.args.at) up (visible_view hidden) (visible_view last.visible)
    (here ∙ ap (λ (h : Option held.Visible). without (hidden_view h) up ++ visible_view last.visible ∷ []) c.in-Some-hidden.is)))
