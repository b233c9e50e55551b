use Rattle.std.proofs.Common.{◌+◌}
use Rattle.lq_base_numbers.proofs.fractions.order.+compare_parts.Given as goal

abbrev pub decreases-compare_parts : goal.decreases-compare_parts
decreases-compare_parts l = l.b + l.d
