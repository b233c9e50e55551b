use mathlib.Core.Path.{fun_ext}
use Rattle.std.proofs.Common.{ℕ, ◌∷◌, ◌∙◌, List, ap, subst, sym}
use Rattle.lq_refined_instances.specs.Views.{scopes_view}
use Rattle.lq_refined_instances.specs.declared.scopes.Scopes.{Scopes}
use Rattle.lq_logic_predicates.specs.declared.symbol.Symbol.{Symbol}
use Rattle.lq_logic_predicates.specs.declared.symbol.Symbol.TheVariants.{Value}
use Rattle.lq_refined_copies.specs.Views.{shared_view}
use Rattle.lq_refined_substitution.specs.Substitution.Views.{scope_lists}
use Rattle.lq_generate_fresh.specs.Scopes.Numbered.{list_at, AreAllMade}
use Rattle.lq_generate_fresh.proofs.ScopesLemmas.Completing.{unknown_at}
use Rattle.lq_generate_fresh.proofs.ScopesLemmas.Numbering.{made_all}
use Rattle.lq_generate_fresh.proofs.scopes.whole.unknown_scopes.Goals as goal

pub add_runs-requires-clause-made : goal.add_runs-requires-clause-made
add_runs-requires-clause-made c =
    let h = c.in_ok-numbers.ensures in
    let lists = scope_lists c.add_patterns.new.scopes in
    subst (λ (t : Scopes). AreAllMade (scopes_view t) lists c.as_slice.result.now) c.scopes.ensures
    (subst (λ (ns : List ℕ). AreAllMade (scopes_view c.scopes.result.now) lists ns) (sym c.as_slice.ensures.value)
    (made_all (scopes_view c.scopes.result.now) (scope_lists c.all_made.new.scopes) lists c.in_ok-numbers.numbers.items h.made h.all h.begins
    c.in_ok-add_patterns.ensures.kept))

pub returns : goal.returns
returns c =
    fun_ext
    (λ u.
    ap (λ (l : List Symbol). Value ∷ l)
    (ap (λ (l : List (List Symbol)). list_at l u) c.in_ok-add_runs.ensures ∙ unknown_at (shared_view c.args.unknowns.now) u))
