use Rattle.std.proofs.Common.{◌<◌, All, sym, ap, subst, ◌∙◌, get_or}
use Rattle.std.proofs.lemmas.List.Elements.{All-push, All-weaker}
use Rattle.lq_refined_subtyping.specs.Table.Changes.{changed}
use Rattle.lq_refined_subtyping.specs.Table.Growing.{extends-at, extends-there, Extends-trans}
use Rattle.lq_refined_subtyping.specs.Table.Whole.{count_of, refined_at, types_of}
use Rattle.lq_refined_subtyping.proofs.TableLemmas.Entries.{changed-grown, made-more, map-grown}
use Rattle.lq_refined_subtyping.proofs.table.table.RefinedTypes.changed_all.Goals as goal

pub loop-at-preserved : goal.loop-at-preserved
loop-at-preserved c =
    let init = c.args.self.now in
    let now = c.loop-at.self in
    let new = c.share.new.self in
    let change = c.args.change.now.value in
    let types = c.args.types.now in
    let i = c.loop-at.at-index in
    let at = get_or types i 0 in
    record {
      refined = λ scopes. made-more (λ p. changed scopes (types_of scopes init) change (refined_at scopes init p)) (types_of scopes new)
          c.loop-at.made.items c.push.new.self.items types i c.in_ok-share.field-0 0
          (map-grown scopes now.rows.items new.rows.items c.loop-at.made.items c.share.ensures.grows c.loop-at.invariant.there
          ∙ c.loop-at.invariant.refined scopes)
          c.in_ok-push.ensures.items
          (c.in_ok-share.ensures.refined scopes
          ∙ ap (changed scopes (types_of scopes now) change)
          (extends-at scopes init.rows.items now.rows.items at c.loop-at.invariant.grows (c.requires.there i 0 c.loop-at-test.true))
          ∙ changed-grown scopes init.rows.items now.rows.items change (refined_at scopes init at) c.loop-at.invariant.grows c.requires.types)
          c.loop-at-test.true;
      there = subst (All (λ p. p < count_of new)) (sym c.in_ok-push.ensures.items)
          (All-push (λ p. p < count_of new) c.loop-at.made.items c.in_ok-share.field-0
          (All-weaker (λ p. p < count_of now) (λ p. p < count_of new)
          (λ p l. extends-there now.rows.items new.rows.items p c.share.ensures.grows l) c.loop-at.made.items c.loop-at.invariant.there)
          c.in_ok-share.ensures.there);
      grows = Extends-trans init.rows.items now.rows.items new.rows.items c.loop-at.invariant.grows c.share.ensures.grows;
    }
