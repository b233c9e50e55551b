use Rattle.std.proofs.Common.{◌++◌, List, ap, ◌∙◌, sym}
use Rattle.lq_logic_predicates.specs.declared.symbol.Symbol.{Symbol}
use Rattle.lq_refined_copies.specs.Views.{patterns_of, table_of}
use Rattle.lq_refined_copies.specs.declared.unknowns.Run.{Run}
use Rattle.lq_refined_copies.specs.declared.unknowns.Run.TheVariants.{Copies}
use Rattle.lq_refined_substitution.specs.Substitution.Views.{pattern_lists, scope_at, scope_lists, unknown_lists}
use Rattle.lq_generate_fresh.specs.Scopes.Numbered.{list_at}
use Rattle.lq_generate_fresh.proofs.ScopesLemmas.Completing.{copies_run, same_default}
use Rattle.std.proofs.Common.{slice_index_or}
use Rattle.lq_generate_fresh.proofs.scopes.runs.add_run.Goals as goal

pub returns-in_ok-add_copies-in-Copies-clause-added : goal.returns-in_ok-add_copies-in-Copies-clause-added
returns-in_ok-add_copies-in-Copies-clause-added c =
    let old = c.args.scopes.now in
    let us = c.args.unknowns.now in
    let items = us.runs.items in
    c.in_ok-add_copies-in-Copies.ensures.added
    ∙ ap (λ (l : List (List Symbol)). unknown_lists old ++ l)
    (copies_run (table_of us) (patterns_of us) (scope_at old c.number_at-in-Copies.result) (pattern_lists old) c.in-Copies.pattern c.in-Copies.scope
    (slice_index_or items c.args.at (Copies 0 0)) c.requires.patterns
    (ap (list_at (scope_lists old)) c.number_at-in-Copies.ensures ∙ c.requires.made.same c.in-Copies.scope)
    (same_default items c.args.at (Copies 0 0) _ c.requires.at ∙ (ap (λ (l : List Run). slice_index_or l c.args.at _) (sym c.runs.ensures.value) ∙ c.in-Copies.is)))
