use Rattle.std.proofs.Common.{◌≡◌, drop, map}
use Rattle.lq_generate_fresh.specs.Fresh.Fields.{any_again}
use Rattle.lq_generate_fresh.specs.Fresh.Views.{field_view}
use Rattle.lq_generate_fresh.proofs.fresh.matrix.has_again.Given as goal

abbrev pub invariant-loop-field : goal.invariant-loop-field
invariant-loop-field l =
    any_again l.count (map field_view l.fields) ≡ any_again l.count (drop l.field-index (map field_view l.fields))
