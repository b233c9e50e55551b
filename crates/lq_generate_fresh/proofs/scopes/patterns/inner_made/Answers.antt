use Rattle.std.proofs.Common.{◌<◌, ◌∙◌, [], ◌∷◌, ◌++◌, Option, length, refl, sym, ap, subst, arith}
use Rattle.lq_refined_instances.specs.Scopes.{scope_in, without, Scope}
use Rattle.lq_refined_instances.specs.Seen.{hidden_view, visible_view}
use Rattle.lq_refined_instances.specs.Views.{scopes_view}
use Rattle.lq_refined_instances.specs.declared.scope.Visible as held
use Rattle.lq_refined_substitution.specs.Substitution.Views.{scope_lists}
use Rattle.lq_generate_fresh.specs.Scopes.Inside.{AreInside, IsInner}
use Rattle.lq_generate_fresh.proofs.ScopesLemmas.Numbering.{none_hidden}
use Rattle.lq_generate_fresh.proofs.scopes.patterns.inner_made.Goals as goal

pub returns-in_ok-made-in-None-clause-same : goal.returns-in_ok-made-in-None-clause-same
returns-in_ok-made-in-None-clause-same c =
    let all = scopes_view c.args.table.now in
    let last = c.in-Some.last in
    let up = scope_in all last.parent in
    let v = visible_view last.visible in
    let made : AreInside all (scope_lists c.args.scopes.now) c.args.inner.now = c.requires.made in
    let low : last.parent < length c.args.inner.now = let e = c.in-Some.ensures.earlier in let k = c.requires.all in omega (arith, e, k) in
    subst (λ (Δ : Scope). IsInner Δ (scope_lists c.with_symbol.new.scopes) c.in_ok-made-in-None.made)
    (sym
    (c.in-Some.ensures.visible
    ∙ (ap (λ (h : Option held.Visible). without (hidden_view h) up ++ v ∷ []) c.in-None.is
    ∙ ap (λ (Δ : Scope). Δ ++ v ∷ []) (none_hidden up))))
    (c.in_ok-made-in-None.ensures.same up v (made last.parent low) c.is_empty-is_first.ensures refl)
