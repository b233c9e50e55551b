use Rattle.std.proofs.Common.{◌∙◌}
use Rattle.lq_refined_instances.specs.Scopes.{scope_in}
use Rattle.lq_refined_instances.specs.Views.{scopes_view}
use Rattle.lq_refined_substitution.specs.Substitution.Views.{scope_lists}
use Rattle.lq_generate_fresh.proofs.ScopesLemmas.Completing.{listed_all, listed_next}
use Rattle.lq_generate_fresh.proofs.ScopesLemmas.Numbering.{extends_on}
use Rattle.lq_generate_fresh.proofs.scopes.patterns.listed.Goals as goal

pub with_symbol-requires : goal.with_symbol-requires
with_symbol-requires c = c.loop-visible.invariant.made.there

pub loop-visible-preserved : goal.loop-visible-preserved
loop-visible-preserved c =
    let h = c.loop-visible.invariant in
    let m = c.in_ok-inner.ensures in
    let old = scope_lists c.loop-visible.scopes in
    let new = scope_lists c.with_symbol.new.scopes in
    let next = listed_next c.deref-visible-items.result.now c.loop-visible.visible-index _ old new c.loop-visible.inner c.in_ok-inner.inner
    c.loop-visible.is_first m.same h.made h.first c.loop-visible-test.true in
    record {
      made = next.0;
      first = next.1;
      kept = extends_on (scope_lists c.args.scopes.now) old new h.kept m.kept;
      unknowns = c.with_symbol.ensures.unknowns ∙ h.unknowns;
      patterns = c.with_symbol.ensures.patterns ∙ h.patterns;
    }

pub returns-clause-same : goal.returns-clause-same
returns-clause-same c =
    listed_all c.deref-visible-items.result.now c.in_ok-symbols.symbols.items c.loop-visible.visible-index
    (scope_in (scopes_view c.args.table.now) c.args.at) (scope_lists c.loop-visible.scopes) c.loop-visible.inner c.deref-visible-items.ensures.value
    c.loop-visible-test.false c.loop-visible.auto.visible-index-end c.in_ok-symbols.ensures c.loop-visible.invariant.made
