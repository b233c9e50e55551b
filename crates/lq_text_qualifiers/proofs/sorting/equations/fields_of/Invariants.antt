use Rattle.std.proofs.Common.{◌≡◌, ℕ, map, drop}
use Rattle.lq_base_names.specs.declared.name.Name.{Name}
use Rattle.lq_text_tree.specs.PatternView.{patterns_of, pats_view}
use Rattle.lq_text_qualifiers.specs.Faults.Lookups.{first_in, or_else}
use Rattle.lq_text_qualifiers.specs.Sorting.Making.{fields_from}
use Rattle.lq_text_qualifiers.specs.Sorting.Views.{seen, variable_view}
use Rattle.lq_text_qualifiers.proofs.SortingLemmas.Fields.{seen_pattern, row_of}
use Rattle.lq_text_qualifiers.proofs.sorting.equations.fields_of.Given as goal

abbrev pub invariant-loop-at : goal.invariant-loop-at
invariant-loop-at l =
    (x : ℕ) → or_else (seen variable_view l.fields x) (first_in (fields_from l.at (patterns_of (map seen_pattern (drop l.at (row_of l.row))))) x)
    ≡ first_in (fields_from 0 (pats_view Name (λ n. n.0) l.row)) x
