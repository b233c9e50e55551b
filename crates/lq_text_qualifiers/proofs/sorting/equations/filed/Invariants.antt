use Rattle.std.proofs.Common.{◌≡◌, ℕ, map, drop}
use Rattle.lq_text_tree.specs.MeasureTrees.{equation_view}
use Rattle.lq_text_qualifiers.specs.Faults.Lookups.{first_in, or_else}
use Rattle.lq_text_qualifiers.specs.Sorting.Filing.{filed_view}
use Rattle.lq_text_qualifiers.specs.Sorting.Making.{filed}
use Rattle.lq_text_qualifiers.specs.Sorting.Views.{seen}
use Rattle.lq_text_qualifiers.proofs.sorting.equations.filed.Given as goal

abbrev pub invariant-loop-equation : goal.invariant-loop-equation
invariant-loop-equation l =
    (x : ℕ) → or_else (seen filed_view l.known x) (first_in (filed (map equation_view (drop l.equation-index l.equations))) x)
    ≡ first_in (filed (map equation_view l.equations)) x
