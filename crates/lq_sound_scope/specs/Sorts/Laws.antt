-- What holds of well sorted parts under assignments.
use Rattle.std.specs.Prelude.{ℕ}
use Rattle.lq_sound_scope.specs.Scopes.Over.{AreSorted}
use Rattle.lq_refined_types.specs.Parts.Assignment.{Assignment, parts_under}
use Rattle.lq_refined_types.specs.Parts.Part.{Parts}
use Rattle.lq_refined_templates.specs.Templates.Scopes.{Unknown}
use Rattle.lq_sound_scope.specs.Sorts.Sorts.{AreInstancesSorted, AreWellSorted, Sorts}
use Rattle.lq_sound_scope.specs.Sorts.Types.{PartsSorted}

-- Well sorted instances speak of names at their sorts.
abbrev pub InstancesSpeakAtSorts : Type 0
InstancesSpeakAtSorts = (unknowns : ℕ → Unknown) (A : Assignment) → AreInstancesSorted unknowns A → AreSorted unknowns A

-- Under well sorted instances the predicates of well sorted parts are well sorted.
abbrev pub PartsAreSorted : Type 0
PartsAreSorted =
    (unknowns : ℕ → Unknown) (A : Assignment) → AreInstancesSorted unknowns A → (N : Sorts) (ps : Parts) → PartsSorted unknowns N ps
    → AreWellSorted N (parts_under A ps)
