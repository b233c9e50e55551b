use Rattle.std.proofs.Common.{length}
use Rattle.lq_generate_fresh.specs.Fresh.Patterns.{ArePatterns}
use Rattle.lq_generate_fresh.specs.Fresh.Views.{scope_at, unknowns_of}
use Rattle.lq_generate_fresh.specs.Fresh.Walking.{arguments_wanted}
use Rattle.lq_generate_fresh.proofs.FreshLemmas.Rows.{arguments_rest, RowsDone}
use Rattle.lq_types_table.specs.Heads.{each}
use Rattle.lq_types_table.specs.Nodes as types
use Rattle.lq_types_table.specs.Whole.{types_of}
use Rattle.lq_generate_fresh.proofs.fresh.patterns.all_shared.Given as goal

abbrev pub invariant-loop-at : goal.invariant-loop-at
invariant-loop-at l =
    let F = types.at (types_of l.given.types.now) in
    let Γ = scope_at l.initial.templates l.scope in
    record {
      done : RowsDone l.given.datatypes.now l.initial.templates l.templates l.made.items
          (arguments_wanted (length (unknowns_of l.initial.templates)) Γ (each F l.parts)) (arguments_rest l.given.datatypes.now F l.parts Γ l.at);
      patterns : ArePatterns l.given.datatypes.now (types_of l.given.types.now) l.templates l.patterns;
    }
