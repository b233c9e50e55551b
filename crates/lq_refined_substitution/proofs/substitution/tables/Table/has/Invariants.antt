use Rattle.std.proofs.Common.{◌≡◌}
use Rattle.lq_refined_types.specs.Parts.Substitution.{is_in}
use Rattle.lq_refined_substitution.specs.Substitution.Tables.{table_at}
use Rattle.lq_refined_substitution.proofs.substitution.tables.Table.has.Given as goal

abbrev pub invariant-loop-entry : goal.invariant-loop-entry
invariant-loop-entry l = is_in (table_at l.self l.at) l.symbol ≡ is_in (table_at l.self l.scope) l.symbol

abbrev pub decreases-loop-entry : goal.decreases-loop-entry
decreases-loop-entry l = l.at
