use Rattle.std.proofs.Common.{◌≡◌, ℕ, drop}
use Rattle.lq_text_tree.specs.MeasureTrees.{definitions_view}
use Rattle.lq_text_qualifiers.specs.Faults.Equations.{measures_in, numbered}
use Rattle.lq_text_qualifiers.specs.Faults.Lookups.{first_in, or_else}
use Rattle.lq_text_qualifiers.specs.Sorting.Views.{measured_view, seen}
use Rattle.lq_text_qualifiers.proofs.sorting.setting.measures_of.Given as goal

abbrev pub invariant-loop-number : goal.invariant-loop-number
invariant-loop-number l =
    (x : ℕ) → or_else (seen measured_view l.known x) (first_in (numbered l.number (definitions_view (drop l.number l.measures))) x) ≡ measures_in (definitions_view l.measures) x
