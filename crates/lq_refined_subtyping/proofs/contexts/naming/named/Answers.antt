use Rattle.std.proofs.Common.{◌++◌, ◌∷◌, [], ap₂, ◌∙◌}
use Rattle.lq_refined_substitution.specs.Implications.Views.{environment_at, environment_lists}
use Rattle.lq_refined_substitution.specs.Substitution.Views.{part_view, scopes_view, subst_view}
use Rattle.lq_refined_subtyping.proofs.ContextsLemmas.Adding.{added-facts, added-there, added-more, put-more}
use Rattle.lq_refined_subtyping.proofs.contexts.naming.named.Goals as goal

pub loop-part-preserved : goal.loop-part-preserved
loop-part-preserved c =
    let init = environment_lists c.args.list.now in
    let now = environment_lists c.loop-part.list in
    let new = environment_lists c.add_env.new.self in
    let hs = environment_at c.loop-part.list c.loop-part.at in
    let q = part_view c.in_ok-put.put in
    let added = c.in_ok-at.ensures.added in
    let number = c.in_ok-at.ensures.number in
    record {
      facts = added-facts init now new hs q c.in_ok-at.at added number
          ∙ ap₂ (λ l p. l ++ p ∷ []) c.loop-part.invariant.facts c.in_ok-put.ensures
          ∙ put-more (environment_at c.args.list.now c.args.env) c.parts-part-items.result.now c.loop-part.part-index c.part-item.result
          c.loop-part-test.true c.part-item.is (scopes_view c.args.name.now.scopes.now) (subst_view c.in_ok-by.by);
      there = added-there init now new hs q c.in_ok-at.at added number;
      environments = added-more init now new hs q c.in_ok-at.at added number c.loop-part.invariant.environments;
      implications = c.add_env.ensures.implications ∙ c.loop-part.invariant.implications;
      count = c.add_env.ensures.count ∙ c.loop-part.invariant.count;
    }
