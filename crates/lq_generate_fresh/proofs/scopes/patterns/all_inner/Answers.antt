use Rattle.std.proofs.Common.{◌∙◌, ◌+◌, length, sym, ap, subst}
use Rattle.std.proofs.lemmas.List.{length-append}
use Rattle.lq_refined_instances.specs.Scopes.{scope_in}
use Rattle.lq_refined_instances.specs.Views.{scopes_view}
use Rattle.lq_refined_substitution.specs.Substitution.Views.{scope_lists}
use Rattle.lq_generate_fresh.specs.Scopes.Inside.{IsInner}
use Rattle.lq_generate_fresh.proofs.ScopesLemmas.Completing.{inside_kept, inside_push}
use Rattle.lq_generate_fresh.proofs.ScopesLemmas.Numbering.{extends_on}
use Rattle.lq_generate_fresh.proofs.scopes.patterns.all_inner.Goals as goal

pub loop-at-preserved : goal.loop-at-preserved
loop-at-preserved c =
    let all = scopes_view c.args.table.now in
    let old = scope_lists c.loop-at.scopes in
    let new = scope_lists c.inner_made.new.scopes in
    let is = c.loop-at.inner.items in
    let h = c.loop-at.invariant in
    let m = c.in_ok-made.ensures in
    let pushed = c.in_ok-push.ensures.items in
    record {
      count = ap length pushed ∙ (length-append is _ ∙ ap (λ k. k + 1) h.count);
      made = inside_push all new is c.push.new.self.items c.in_ok-made.made (inside_kept all old new is m.kept h.made)
          (subst (λ n. IsInner (scope_in all n) new c.in_ok-made.made) (sym h.count) m.same) pushed;
      kept = extends_on (scope_lists c.args.scopes.now) old new h.kept m.kept;
      unknowns = c.inner_made.ensures.unknowns ∙ h.unknowns;
      patterns = c.inner_made.ensures.patterns ∙ h.patterns;
    }
