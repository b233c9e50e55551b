use Rattle.std.specs.List.{list_any}
use Rattle.std.specs.Prelude.{slice_index_or}
use Rattle.std.proofs.Common.{◌≡◌, false, drop}
use Rattle.lq_types_infer.proofs.instantiation.opens.is_open_over.Given as goal

abbrev pub invariant-loop-part : goal.invariant-loop-part
invariant-loop-part l =
    list_any (λ p. slice_index_or l.with_variables p false) (drop l.part-index l.parts)
    ≡ list_any (λ p. slice_index_or l.with_variables p false) l.parts
