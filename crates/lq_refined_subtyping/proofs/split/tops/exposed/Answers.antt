use Rattle.std.proofs.Common.{◌∙◌}
use Rattle.lq_refined_subtyping.specs.Table.Growing.{extends-at}
use Rattle.lq_refined_substitution.specs.Substitution.Views.{scopes_view}
use Rattle.lq_refined_subtyping.proofs.split.tops.exposed.Goals as goal

pub returns-clause-left : goal.returns-clause-left
returns-clause-left c =
    let now = c.expose.new.self in
    let new = c.expose-2.new.self in
    extends-at (scopes_view c.args.scopes.now) now.rows.items new.rows.items c.in_ok-left.left c.in_ok-right.ensures.grows c.in_ok-left.ensures.there
    ∙ c.in_ok-left.ensures.refined

pub returns-clause-right : goal.returns-clause-right
returns-clause-right c =
    let init = c.args.types.now in
    let now = c.expose.new.self in
    c.in_ok-right.ensures.refined
    ∙ extends-at (scopes_view c.args.scopes.now) init.rows.items now.rows.items c.args.sides.1 c.in_ok-left.ensures.grows c.requires.right
