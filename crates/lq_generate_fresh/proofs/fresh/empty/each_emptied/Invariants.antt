use Rattle.std.proofs.Common.{length}
use Rattle.lq_generate_fresh.specs.Fresh.Views.{scope_at, unknowns_of}
use Rattle.lq_generate_fresh.proofs.FreshLemmas.Rows.{RowsDone}
use Rattle.lq_types_table.specs.Heads.{each}
use Rattle.lq_types_table.specs.Nodes as types
use Rattle.lq_types_table.specs.Whole.{types_of}
use Rattle.lq_generate_fresh.specs.Fresh.Wanted.{all_emptied_wanted}
use Rattle.lq_generate_fresh.proofs.FreshLemmas.Alone.{emptied_rest}
use Rattle.lq_generate_fresh.proofs.fresh.empty.each_emptied.Given as goal

abbrev pub invariant-loop-at : goal.invariant-loop-at
invariant-loop-at l =
    let F = types.at (types_of l.given.types.now) in
    let Γ = scope_at l.initial.templates l.scope in
    RowsDone l.given.datatypes.now l.initial.templates l.templates l.made.items
    (all_emptied_wanted (length (unknowns_of l.initial.templates)) Γ (each F l.parts)) (emptied_rest l.given.datatypes.now F l.parts Γ l.at)
