-- What safety is promised of accepted programs, and when none is undecided by the prover.
use Rattle.std.specs.Prelude.{◌≡◌, ◌≤◌, ℕ, List, Ok, Some, length, slice_get}
use Rattle.lq_types_infer.specs.Annotation.Whole as annotated
use Rattle.lq_text_front.specs.Bytes.Stages.{Bytes}
use Rattle.lq_text_lexer.specs.declared.limits.TheConstants.{TEXT_LIMIT}
use Rattle.lq_generate_reading.specs.Notes.Noted.{annotation_of}
use Rattle.lq_generate_reading.specs.declared.notes.noted.Noted.{Noted}
use Rattle.lq_refined_types.specs.Parts.Constraint.{Constraint}
use Rattle.lq_top_pose.specs.Stages.{PosesTo, Typed, constraints_in, program_in}
use Rattle.lq_solve_fixpoint.specs.Questions.Assigned.{closed_under}
use Rattle.lq_sound_texts.specs.TypedTexts.Safety.{IsSafe}
use Rattle.lq_solve_strongest.specs.Weaken.Deciding.{IsDecidable}
use Rattle.lq_top_judge.specs.Judgement.Agreeing.{IsOfProver}
use Rattle.lq_top_judge.specs.Verdict.Judgement.{IsAccepted, IsUndecided, instances_of}

-- ---- safety

-- the texts are accepted with these types, and safe: on every input no number of steps meets a fault or gets stuck
abbrev pub IsSafelyAccepted : Bytes → List ℕ → Type 0
IsSafelyAccepted b types = (t : Typed) × PosesTo b (Ok t) × (IsAccepted t types × IsSafe (program_in t).items)

-- what is noted of a program in memory is what is known of it
pub record IsNotedOf (m : Noted) (t : Typed) : Type 0 where
  pub program : annotated.program_of m.program.annotated ≡ program_in t
  pub annotation : annotation_of m ≡ t.annotation

-- What is accepted of a program text of at most `TEXT_LIMIT` bytes is safe.
abbrev pub AcceptedAreSafe : Type 0
AcceptedAreSafe =
    (m : Noted) (b : Bytes) (t : Typed) (types : List ℕ) → length b.program ≤ TEXT_LIMIT → IsNotedOf m t → PosesTo b (Ok t) → IsAccepted t types
    → IsSafe (program_in t).items

-- ---- the prover

-- with all instances in place each implication is of differences with sizes that are small, or its sizes are so small that no number is past
-- 128 bits, and the limit on pivots is enough
abbrev pub AreDecidable : ℕ → Typed → Type 0
AreDecidable limit t =
    (at : ℕ) (k : Constraint) → slice_get (constraints_in t) at ≡ Some k → IsDecidable limit (closed_under (instances_of t) k)

-- then the prover stops on none
abbrev pub SmallAreDecided : Type 0
SmallAreDecided = (limit : ℕ) (t : Typed) (cause : List ℕ) (is : IsUndecided limit t cause) → AreDecidable limit t → IsOfProver is.stop → ⊥
