use Rattle.std.proofs.Common.{◌∙◌, [], ◌∷◌, ◌++◌, append-nil, sym, ap}
use Rattle.lq_refined_instances.specs.Scopes.{Scope, scope_in}
use Rattle.lq_refined_subtyping.specs.Table.Growing.{Extends-refl}
use Rattle.lq_refined_copies.specs.Views as shared
use Rattle.lq_text_qualifiers.specs.Sorting.Views.{shape_view}
use Rattle.lq_refined_templates.specs.Templates.Scopes.{with_symbol}
use Rattle.lq_generate_fresh.specs.Fresh.Growing.{scope_pushed}
use Rattle.lq_generate_fresh.specs.Fresh.Views.{patterns_of, scopes_of, shape_if, unknowns_of, Longer}
use Rattle.lq_generate_fresh.proofs.FreshLemmas.Adding.{symbol_spoken}
use Rattle.lq_generate_fresh.proofs.fresh.templates.Templates.with_symbol.Goals as goal

pub returns-in_ok-added-in-Some-clause-scope : goal.returns-in_ok-added-in-Some-clause-scope
returns-in_ok-added-in-Some-clause-scope c =
    let old = scopes_of c.args.self.now in
    let Γ = scope_in old c.args.scope in
    let s = c.in-Some.shape in
    let X : Scope = Γ ++ (c.args.symbol, shape_view s) ∷ [] in
    ap (λ l. scope_in l c.in_ok-added-in-Some.added) c.in_ok-added-in-Some.ensures.added
    ∙ (ap (scope_in (old ++ X ∷ [])) c.in_ok-added-in-Some.ensures.number
    ∙ (scope_pushed old X
    ∙ (sym (symbol_spoken c.args.symbol s Γ) ∙ ap (λ o. with_symbol c.args.symbol (shape_if o) Γ) (sym c.in-Some.is))))

pub returns-in_ok-added-in-Some-clause-made : goal.returns-in_ok-added-in-Some-clause-made
returns-in_ok-added-in-Some-clause-made c =
    let self = c.args.self.now in
    let old = scopes_of self in
    let new = shared.table_of c.add_scope.new.self in
    let X : Scope = scope_in old c.args.scope ++ (c.args.symbol, shape_view c.in-Some.shape) ∷ [] in
    let l : Longer old new = record { added = X ∷ []; is = c.in_ok-added-in-Some.ensures.added } in
    record {
      types = Extends-refl self.types.rows.items;
      scopes = l;
      patterns = record { added = []; is = c.add_scope.ensures.patterns ∙ sym (append-nil (patterns_of self)) };
      unknowns = c.add_scope.ensures.unknowns ∙ sym (append-nil (unknowns_of self));
    }
