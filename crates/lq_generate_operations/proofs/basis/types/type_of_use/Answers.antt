use Rattle.std.proofs.Common.{sym, ap, ap₂, ◌∙◌}
use Rattle.lq_refined_rules.specs.Checks.Pure.{instance_of}
use Rattle.lq_refined_types.specs.Types.Context.{type_in}
use Rattle.lq_refined_types.specs.Types.Operations.{instantiated, symbol_of}
use Rattle.lq_refined_subtyping.specs.Table.Forms.{each}
use Rattle.lq_refined_subtyping.specs.Table.Whole.{types_of}
use Rattle.lq_generate_operations.specs.Basis.Basis.{rows_at, scopes_of}
use Rattle.lq_generate_operations.specs.Basis.Growing.{each-grown}
use Rattle.lq_generate_operations.proofs.basis.types.type_of_use.Goals as goal

pub returns-in_ok-made-in-Some-clause-refined : goal.returns-in_ok-made-in-Some-clause-refined
returns-in_ok-made-in-Some-clause-refined c =
    let old = c.args.types.now in
    let now = c.named.new.types in
    let S = scopes_of c.args.basis.now in
    let is = rows_at c.args.basis.now.templates.now c.in-Some.point in
    λ P Γ s k.
    c.in_ok-made-in-Some.ensures.refined S
    ∙ ap₂ instantiated
    (ap (each (types_of S now)) (c.in_ok-by-in-Some.ensures.items ∙ c.rows.ensures)
    ∙ each-grown S old.rows.items now.rows.items is c.in_ok-row.ensures.grows (c.requires.there.templates c.in-Some.point)
    ∙ s.type_arguments c.in-Some.point)
    (c.in_ok-row.ensures.refined Γ k)
    ∙ sym (ap (λ o. instance_of P Γ o (type_in Γ (symbol_of c.args.used.name.0))) c.in-Some.is)
