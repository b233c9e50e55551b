use Rattle.std.proofs.Common.{suc, ◌+◌, ◌*◌, ◌<◌, length, max}
use Rattle.lq_types_table.specs.Heads.{each}
use Rattle.lq_types_table.specs.Nodes as types
use Rattle.lq_types_table.specs.Whole.{types_of}
use Rattle.lq_generate_fresh.specs.Fresh.Views.{scope_at, scopes_of, unknowns_of}
use Rattle.lq_generate_fresh.specs.Fresh.Walking.{above, arguments_wanted, components_wanted}
use Rattle.lq_generate_fresh.proofs.FreshLemmas.Rows.{arguments_rest, components_rest, RowsDone}
use Rattle.lq_generate_fresh.proofs.fresh.templates.Templates.+walk.Given as goal

abbrev pub decreases-template : goal.decreases-template
decreases-template l = 4 * l.at + 3

abbrev pub decreases-form : goal.decreases-form
decreases-form l = 4 * l.at + 2

abbrev pub decreases-function : goal.decreases-function
decreases-function l = 4 * max (suc l.argument) (suc l.value) + 1

abbrev pub decreases-data : goal.decreases-data
decreases-data l = 4 * above l.parts.now + 1

abbrev pub decreases-arguments : goal.decreases-arguments
decreases-arguments l = 4 * above l.parts.now

abbrev pub decreases-components : goal.decreases-components
decreases-components l = 4 * above l.parts.now

abbrev pub invariant-arguments-loop-at : goal.invariant-arguments-loop-at
invariant-arguments-loop-at l =
    let F = types.at (types_of l.given.types.now) in
    let Γ = scope_at l.initial.self l.scope in
    RowsDone l.given.datatypes.now l.initial.self l.self l.made.items
    (arguments_wanted (length (unknowns_of l.initial.self)) Γ (each F l.parts)) (arguments_rest l.given.datatypes.now F l.parts Γ l.at)

abbrev pub invariant-components-loop-at : goal.invariant-components-loop-at
invariant-components-loop-at l =
    let F = types.at (types_of l.given.types.now) in
    let Γ = scope_at l.initial.self l.scope in
    record {
      there : l.top < length (scopes_of l.self);
      done : RowsDone l.given.datatypes.now l.initial.self l.self l.made.items
          (components_wanted (length (unknowns_of l.initial.self)) Γ (each F l.parts))
          (components_rest l.given.datatypes.now F l.parts Γ (scope_at l.self l.top) l.at);
    }
