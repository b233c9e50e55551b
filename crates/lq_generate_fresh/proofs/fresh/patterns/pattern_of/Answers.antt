use Rattle.std.proofs.Common.{◌∙◌, ap}
use Rattle.lq_generate_fresh.specs.Fresh.Views.{scope_at}
use Rattle.lq_generate_fresh.specs.declared.fresh.patterns.Pattern.{Pattern}
use Rattle.lq_generate_fresh.specs.declared.fresh.templates.Templates.{Templates}
use Rattle.lq_refined_instances.specs.Views.{scopes_view, unknowns_view}
use Rattle.lq_refined_copies.specs.Views.{shared_view, table_of}
use Rattle.lq_types_table.specs.Whole.{types_of}
use Rattle.lq_generate_fresh.proofs.FreshLemmas.Copying.{marked_scope, pattern_made}
use Rattle.lq_generate_fresh.proofs.fresh.patterns.pattern_of.Goals as goal

pub returns-clause-pattern : goal.returns-clause-pattern
returns-clause-pattern c =
    let alone : Templates = record { types = c.replace-types.result; unknowns = c.over.result } in
    let full = c.fresh.new.self in
    let new : Templates = record { types = c.into_parts-types.result.0; unknowns = c.add_pattern.new.self } in
    let p : Pattern = record { at = c.args.at; row = c.in_ok-row.row; number = c.in_ok-number.number } in
    let k = c.in_ok-marked.marked in
    pattern_made c.args.given.now.datatypes.now (types_of c.args.given.now.types.now) c.args.templates.now alone full new p (scope_at alone k)
    (unknowns_view c.in_ok-unknowns.unknowns) c.over.ensures.unknowns
    (marked_scope (table_of c.over.result) (scopes_view c.in_ok-scopes.scopes) (scopes_view c.add.new.self) k c.in_ok-scopes.ensures
    c.in_ok-marked.ensures.added c.in_ok-marked.ensures.number c.over.ensures.table)
    c.in_ok-row.ensures.refined c.in_ok-row.ensures.there c.in_ok-row.ensures.made c.into_parts-types.ensures.types
    (c.in_ok-unknowns.ensures ∙ ap shared_view c.into_parts-types.ensures.unknowns) c.in_ok-number.ensures.added c.in_ok-number.ensures.number
