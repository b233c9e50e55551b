use Rattle.std.proofs.Common.{◌+◌, ◌*◌}
use Rattle.lq_generate_fresh.specs.Fresh.Walking.{above}
use Rattle.lq_generate_fresh.specs.Fresh.Wanted.{all_plain_wanted}
use Rattle.lq_types_table.specs.Heads.{each}
use Rattle.lq_types_table.specs.Nodes as types
use Rattle.lq_types_table.specs.Whole.{types_of}
use Rattle.lq_generate_fresh.proofs.FreshLemmas.Rows.{RowsDone}
use Rattle.lq_generate_fresh.proofs.FreshLemmas.Plains.{plain_rest}
use Rattle.lq_generate_fresh.proofs.fresh.plain.+plains.Given as goal

abbrev pub decreases-plain : goal.decreases-plain
decreases-plain l = 3 * l.at + 2

abbrev pub decreases-plain_form : goal.decreases-plain_form
decreases-plain_form l = 3 * l.at + 1

abbrev pub decreases-each_plain : goal.decreases-each_plain
decreases-each_plain l = 3 * above l.parts.now

abbrev pub invariant-each_plain-loop-at : goal.invariant-each_plain-loop-at
invariant-each_plain-loop-at l =
    let F = types.at (types_of l.given.types.now) in
    RowsDone l.given.datatypes.now l.initial.templates l.templates l.made.items (all_plain_wanted (each F l.parts))
    (plain_rest l.given.datatypes.now F l.parts l.at)
