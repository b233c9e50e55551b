use Rattle.std.proofs.Common.{◌≡◌, ℕ, map, drop}
use Rattle.lq_base_names.specs.declared.name.Name.{Name}
use Rattle.lq_text_tree.specs.PatternView.{patterns_of, pats_view}
use Rattle.lq_text_qualifiers.specs.Faults.Equations.{fields_in}
use Rattle.lq_text_qualifiers.specs.Faults.Lookups.{first_in, or_else}
use Rattle.lq_text_qualifiers.specs.Faults.Views.{fields_view, seen, shape_view}
use Rattle.lq_text_qualifiers.proofs.FaultsLemmas.Fields.{seen_pattern, row_of}
use Rattle.lq_text_qualifiers.proofs.faults.equations.fields_of.Given as goal

abbrev pub invariant-loop-at : goal.invariant-loop-at
invariant-loop-at l =
    (x : ℕ) → or_else (seen shape_view l.fields x) (first_in (fields_in l.at (fields_view l.made.fields) (patterns_of (map seen_pattern (drop l.at (row_of l.row))))) x)
    ≡ first_in (fields_in 0 (fields_view l.made.fields) (pats_view Name (λ n. n.0) l.row)) x
