use Rattle.std.proofs.Common.{ap, ◌∙◌}
use Rattle.lq_refined_subtyping.specs.Table.Changes.{changed}
use Rattle.lq_refined_subtyping.specs.Table.Growing.{extends-at}
use Rattle.lq_refined_subtyping.specs.Table.Whole.{refined_at, types_of}
use Rattle.lq_refined_subtyping.proofs.TableLemmas.Entries.{changed-grown}
use Rattle.lq_refined_subtyping.proofs.table.table.RefinedTypes.changed_pair.Goals as goal

pub returns-clause-a : goal.returns-clause-a
returns-clause-a c =
    λ scopes. extends-at scopes c.share.new.self.rows.items c.share-2.new.self.rows.items c.in_ok-first.first c.share-2.ensures.grows
    c.in_ok-first.ensures.there ∙ c.in_ok-first.ensures.refined scopes

pub returns-clause-b : goal.returns-clause-b
returns-clause-b c =
    let old = c.args.self.now in
    let now = c.share.new.self in
    let change = c.args.change.now.value in
    λ scopes. c.in_ok-second.ensures.refined scopes
    ∙ ap (changed scopes (types_of scopes now) change) (extends-at scopes old.rows.items now.rows.items c.args.b c.share.ensures.grows c.requires.b)
    ∙ changed-grown scopes old.rows.items now.rows.items change (refined_at scopes old c.args.b) c.share.ensures.grows c.requires.types
