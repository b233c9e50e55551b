use Rattle.std.proofs.Common.{◌∙◌, ℕ, ◌+◌, length, sym, ap, subst}
use Rattle.std.proofs.lemmas.List.{length-append}
use Rattle.lq_refined_instances.specs.Scopes.{scope_in, Scope}
use Rattle.lq_refined_instances.specs.Views.{scopes_view}
use Rattle.lq_refined_copies.specs.Completed.{completed}
use Rattle.lq_refined_copies.specs.Flattening.{AreCompleted}
use Rattle.lq_refined_copies.proofs.Completing.{completed_kept, completed_push}
use Rattle.lq_refined_copies.proofs.Longer.{longer_trans, scope_kept}
use Rattle.lq_refined_copies.proofs.flattening.all_numbers.Goals as goal

pub completed_at-requires-clause-made : goal.completed_at-requires-clause-made
completed_at-requires-clause-made c =
    let old = scopes_view c.args.scopes.now in
    let all = scopes_view c.loop-at.scopes in
    let table = scopes_view c.args.table.now in
    let h = c.loop-at.invariant in
    subst (λ (Γ : Scope). AreCompleted Γ table all c.as_slice.result.now) (sym (scope_kept old all c.args.scope h.longer c.requires))
    (subst (AreCompleted (scope_in old c.args.scope) table all) (sym c.as_slice.ensures.value) h.made)

pub loop-at-preserved : goal.loop-at-preserved
loop-at-preserved c =
    let old = scopes_view c.args.scopes.now in
    let all = scopes_view c.loop-at.scopes in
    let new = scopes_view c.completed_at.new.scopes in
    let table = scopes_view c.args.table.now in
    let ns = c.loop-at.numbers.items in
    let n = c.in_ok-number.number in
    let Γ = scope_in old c.args.scope in
    let h = c.loop-at.invariant in
    let pushed = c.in_ok-push.ensures.items in
    record {
      longer = longer_trans old all new h.longer c.in_ok-number.ensures.longer;
      count = ap length pushed ∙ (length-append ns _ ∙ ap (λ (k : ℕ). k + 1) h.count);
      made = completed_push Γ table new ns c.push.new.self.items n (completed_kept Γ table all new ns c.in_ok-number.ensures.longer h.made) c.in_ok-number.ensures.there
          (c.in_ok-number.ensures.same ∙ ap (λ (Θ : Scope). completed Θ (scope_in table c.loop-at.at)) (scope_kept old all c.args.scope h.longer c.requires)
          ∙ ap (λ (j : ℕ). completed Γ (scope_in table j)) (sym h.count)) pushed;
    }
