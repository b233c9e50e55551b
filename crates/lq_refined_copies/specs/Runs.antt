-- Unknowns that are given alone, and copies of patterns.
use Rattle.std.specs.Prelude.{ℕ, ◌+◌, ◌<◌, ◌≤◌, List, [], ◌∷◌, All, length, slice_index_or}
use Rattle.std.specs.List.{flat_map}
use Rattle.lq_refined_instances.specs.Scopes.{Scope, scope_in}
use Rattle.lq_refined_instances.specs.Views.{unknown_view}
use Rattle.lq_text_qualifiers.specs.Faults.Shapes.{Shape}
use Rattle.lq_refined_copies.specs.Completed.{all_completed}
use Rattle.lq_refined_copies.specs.declared.unknowns.Run.{Run}
use Rattle.lq_refined_copies.specs.declared.unknowns.Run.TheVariants.{One, Copies}

-- the unknowns of a run, where these are the scopes and these the patterns
abbrev pub run_view : List Scope → List (List (Scope × Shape)) → Run → List (Scope × Shape)
run_view Γs ps (One u) = unknown_view Γs u ∷ []
run_view Γs ps (Copies p s) = all_completed (scope_in Γs s) (slice_index_or ps p [])

abbrev pub runs_view : List Scope → List (List (Scope × Shape)) → List Run → List (Scope × Shape)
runs_view Γs ps rs = flat_map (run_view Γs ps) rs

-- the number of the scope that a run names
abbrev pub scope_of : Run → ℕ
scope_of (One u) = u.scope
scope_of (Copies p s) = s

-- how many patterns there have to be for it
abbrev pub patterns_for : Run → ℕ
patterns_for (One u) = 0
patterns_for (Copies p s) = p + 1

-- its scope is there, and its pattern
abbrev pub IsInside : List Scope → List (List (Scope × Shape)) → Run → Type 0
IsInside Γs ps r = (scope_of r < length Γs) × (patterns_for r ≤ length ps)

abbrev pub AreInside : List Scope → List (List (Scope × Shape)) → List Run → Type 0
AreInside Γs ps rs = All (IsInside Γs ps) rs
