use Rattle.std.proofs.Common.{◌∙◌, ◌+◌, length, sym, ap}
use Rattle.std.proofs.lemmas.List.{length-append}
use Rattle.lq_refined_instances.specs.Views.{scopes_view}
use Rattle.lq_refined_substitution.specs.Substitution.Views.{scope_lists}
use Rattle.lq_generate_fresh.specs.Scopes.Numbered.{symbols_at}
use Rattle.lq_generate_fresh.proofs.ScopesLemmas.Numbering.{begins_kept, made_kept, made_push}
use Rattle.lq_generate_fresh.proofs.scopes.tables.all_made.Goals as goal

pub loop-at-preserved : goal.loop-at-preserved
loop-at-preserved c =
    let all = scopes_view c.args.table.now in
    let old = scope_lists c.loop-at.scopes in
    let new = scope_lists c.made.new.scopes in
    let ns = c.loop-at.numbers.items in
    let n = c.in_ok-number.number in
    let pushed = c.in_ok-push.ensures.items in
    let h = c.loop-at.invariant in
    record {
      count = ap length pushed ∙ (length-append ns _ ∙ ap (λ k. k + 1) h.count);
      made = made_push all new ns c.push.new.self.items n (made_kept all old new ns c.in_ok-number.ensures.kept h.made) c.in_ok-number.ensures.there
          (c.in_ok-number.ensures.same ∙ ap (symbols_at all) (sym h.count)) pushed;
      begins = begins_kept old new c.in_ok-number.ensures.kept h.begins;
      unknowns = c.made.ensures.unknowns ∙ h.unknowns;
      patterns = c.made.ensures.patterns ∙ h.patterns;
    }
