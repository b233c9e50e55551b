use Rattle.std.proofs.Common.{◌≡◌, ℕ, [], ◌∷◌, ◌++◌, Bool, List, length, map, slice_index_or, ap, ap₂, ◌∙◌, sym, subst}
use Rattle.lq_refined_instances.specs.Scopes.{scope_in}
use Rattle.lq_refined_instances.specs.Views.{scopes_view}
use Rattle.lq_refined_instances.specs.declared.unknowns.Unknown.{Unknown}
use Rattle.lq_logic_predicates.specs.declared.symbol.Symbol.{Symbol}
use Rattle.lq_refined_substitution.specs.Substitution.Places.{AreInner}
use Rattle.lq_refined_substitution.specs.Substitution.Views.{inner_view, scope_lists}
use Rattle.lq_refined_substitution.specs.declared.substitution.places.Inner.{Inner}
use Rattle.lq_generate_fresh.specs.Scopes.Inside.{nothing, IsInner}
use Rattle.lq_generate_fresh.proofs.ScopesLemmas.Completing.{inside_at, places_inner, places_there}
use Rattle.lq_generate_fresh.proofs.ScopesLemmas.Numbering.{begins_kept}
use Rattle.lq_generate_fresh.proofs.scopes.patterns.add_pattern.Goals as goal

abbrev places : List Inner → List Unknown → List Inner
places is us = map (λ u. slice_index_or is u.scope nothing) us

pub add_pattern-requires : goal.add_pattern-requires
add_pattern-requires c =
    let all = scopes_view c.args.pattern.now.scopes in
    let lists = scope_lists c.all_inner.new.scopes in
    let is = c.in_ok-inner.inner.items in
    let us = c.args.pattern.now.unknowns.items in
    let h = c.in_ok-inner.ensures in
    let at : (i : ℕ) → IsInner (scope_in all i) lists (slice_index_or is i nothing) =
    λ i. inside_at all lists is i h.made h.all (begins_kept (scope_lists c.args.scopes.now) lists h.kept c.requires) in
    let e : c.in_ok-made.made.items ≡ places is us = c.in_ok-made.ensures ∙ ap₂ places c.as_slice.ensures.value c.as_slice-2.ensures.value in
    subst (AreInner (length lists)) (sym e) (places_there all lists is at us)

pub returns-clause-added : goal.returns-clause-added
returns-clause-added c =
    let all = scopes_view c.args.pattern.now.scopes in
    let lists = scope_lists c.all_inner.new.scopes in
    let is = c.in_ok-inner.inner.items in
    let us = c.args.pattern.now.unknowns.items in
    let h = c.in_ok-inner.ensures in
    let at : (i : ℕ) → IsInner (scope_in all i) lists (slice_index_or is i nothing) =
    λ i. inside_at all lists is i h.made h.all (begins_kept (scope_lists c.args.scopes.now) lists h.kept c.requires) in
    let e : c.in_ok-made.made.items ≡ places is us = c.in_ok-made.ensures ∙ ap₂ places c.as_slice.ensures.value c.as_slice-2.ensures.value in
    c.in_ok-add_pattern.ensures.added
    ∙ ap₂ (λ (old : List (List (Bool × List Symbol))) (p : List (Bool × List Symbol)). old ++ p ∷ []) h.patterns
    (ap (map (inner_view lists)) e ∙ places_inner all lists is at us)
