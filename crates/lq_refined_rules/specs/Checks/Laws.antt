-- The list of implications and the judgement say the same.
use Rattle.std.specs.Prelude.{[], ◌↔◌}
use Rattle.lq_refined_types.specs.Parts.Assignment.{Assignment}
use Rattle.lq_refined_types.specs.Subtyping.Implication.{AllHold}
use Rattle.lq_refined_rules.specs.Checks.Basis.{Basis}
use Rattle.lq_refined_rules.specs.Checks.Binders.{binders, AllDiffer}
use Rattle.lq_refined_rules.specs.Checks.Checks.{Checks}
use Rattle.lq_refined_rules.specs.Checks.Listing.{implications_of}
use Rattle.lq_refined_rules.specs.Checks.Ready.{IsReady}
use Rattle.lq_refined_rules.specs.Checks.Tree.{Program}
use Rattle.lq_refined_rules.specs.Checks.Typing.{Points, AreTemplates, HasProgram}

-- an assignment makes the implications of a program valid exactly where the program checks under it
abbrev pub ListIsChecks : Type 0
ListIsChecks = (P : Basis) (A : Assignment) (p : Program) → IsReady P [] p → (AllHold A (implications_of P [] p) ↔ Checks P A [] p)

-- a simply typed program whose binders differ, with templates of its points' simple types, is ready
abbrev pub TypedIsReady : Type 0
TypedIsReady = (P : Basis) (Q : Points) (p : Program) → AreTemplates P Q → HasProgram P Q [] p → AllDiffer (binders p) → IsReady P [] p

-- so of such a program the list and the judgement say the same
abbrev pub TypedListIsChecks : Type 0
TypedListIsChecks =
    (P : Basis) (Q : Points) (A : Assignment) (p : Program) → AreTemplates P Q → HasProgram P Q [] p → AllDiffer (binders p)
    → (AllHold A (implications_of P [] p) ↔ Checks P A [] p)
