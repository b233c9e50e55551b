use Rattle.std.proofs.Common.{◌∙◌}
use Rattle.lq_refined_subtyping.specs.Table.Growing.{extends-at}
use Rattle.lq_refined_substitution.specs.Substitution.Views.{scopes_view}
use Rattle.lq_generate_operations.proofs.operations.bodies.body_types.Goals as goal

pub returns-clause-parameter : goal.returns-clause-parameter
returns-clause-parameter c =
    let S = scopes_view c.args.scopes.now in
    let now = c.function_type.new.types in
    let new = c.renamed.new.self in
    extends-at S now.rows.items new.rows.items c.in_ok-function.function.argument c.renamed.ensures.grows c.in_ok-function.ensures.argument_there
    ∙ c.in_ok-function.ensures.argument
