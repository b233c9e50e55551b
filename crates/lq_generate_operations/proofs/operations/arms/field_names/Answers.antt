use Rattle.std.proofs.Common.{ap, ◌∙◌}
use Rattle.lq_refined_rules.specs.Checks.Match.{names_for}
use Rattle.lq_refined_templates.specs.Programs.BlockView.{names_view}
use Rattle.lq_refined_subtyping.specs.Table.Forms.{each}
use Rattle.lq_refined_subtyping.specs.Table.Whole.{types_of}
use Rattle.lq_generate_operations.specs.Basis.Basis.{scopes_of}
use Rattle.lq_generate_operations.proofs.operations.arms.field_names.Goals as goal

pub returns-clause-by : goal.returns-clause-by
returns-clause-by c =
    let S = scopes_of c.args.basis.now in
    λ P s.
    c.in_ok-by.ensures S
    ∙ ap (names_for 0 (names_view c.args.fields.now))
    (ap (each (types_of S c.plain_fields.new.types)) c.deref.ensures.value ∙ c.in_ok-plain.ensures.refined P s)
