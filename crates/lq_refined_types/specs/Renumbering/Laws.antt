-- What holds of renumbered types.
use Rattle.std.specs.Prelude.{◌≡◌, ℕ, ◌+◌}
use Rattle.lq_refined_types.specs.Types.Refined.{Refined, erased, kind}
use Rattle.lq_refined_types.specs.Renumbering.Renumbered.{renumbered}

-- what stands for a value in predicates is the same
abbrev pub RenumberedKinds : Type 0
RenumberedKinds = (n : ℕ) (t : Refined) → kind (renumbered n t) ≡ kind t

-- the simple type is the same
abbrev pub RenumberedErase : Type 0
RenumberedErase = (n : ℕ) (t : Refined) → erased (renumbered n t) ≡ erased t

-- what is renumbered twice is renumbered by the sum
abbrev pub RenumberedTwice : Type 0
RenumberedTwice = (m n : ℕ) (t : Refined) → renumbered m (renumbered n t) ≡ renumbered (m + n) t

-- what is renumbered by nothing stays as it is
abbrev pub RenumberedByZero : Type 0
RenumberedByZero = (t : Refined) → renumbered 0 t ≡ t
