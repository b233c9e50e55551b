use Rattle.std.proofs.Common.{take}
use Rattle.lq_refined_rules.specs.Checks.Listing.{from}
use Rattle.lq_refined_rules.specs.Obligations.Obligations.{operands}
use Rattle.lq_refined_templates.specs.Programs.PureView.{pures_view}
use Rattle.lq_refined_subtyping.specs.Table.Forms.{each}
use Rattle.lq_refined_types.specs.Subtyping.Implication.{of_argument}
use Rattle.lq_generate_operations.specs.Basis.Basis.{types_in}
use Rattle.lq_generate_implications.specs.Walk.Asking.{Asks}
use Rattle.lq_generate_implications.proofs.walk.walk.Walk.build.Given as goal

abbrev pub invariant-loop-at : goal.invariant-loop-at
invariant-loop-at l =
    Asks l.basis l.initial.self l.self l.env (λ P Γ.
    operands P Γ (pures_view (take l.at l.operands)) (each (types_in l.basis l.initial.self.types) l.rows.items) (from l.place of_argument))
