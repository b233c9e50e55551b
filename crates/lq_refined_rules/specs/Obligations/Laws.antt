-- The obligations of a program are its implications, not yet split.
use Rattle.std.specs.Prelude.{◌≡◌, All}
use Rattle.lq_refined_types.specs.Types.Context.{Context}
use Rattle.lq_refined_rules.specs.Checks.Basis.{Basis}
use Rattle.lq_refined_rules.specs.Checks.Listing.{implications_of}
use Rattle.lq_refined_rules.specs.Checks.Ready.{IsReady}
use Rattle.lq_refined_rules.specs.Checks.Tree.{Program}
use Rattle.lq_refined_rules.specs.Obligations.Obligation.{IsShaped, all_implications}
use Rattle.lq_refined_rules.specs.Obligations.Obligations.{obligations_of}

-- the implications of a program are those of its obligations, in their order
abbrev pub ObligationsAreImplications : Type 0
ObligationsAreImplications =
    (P : Basis) (Γ : Context) (program : Program) → implications_of P Γ program ≡ all_implications P (obligations_of P Γ program)

-- of a program that is ready, both types of each subtyping have one simple type
abbrev pub ObligationsAreShaped : Type 0
ObligationsAreShaped =
    (P : Basis) (Γ : Context) (program : Program) → IsReady P Γ program → All IsShaped (obligations_of P Γ program)
