use Rattle.std.proofs.Common.{◌≡◌, ◌+◌, length, map, take}
use Rattle.lq_base_names.specs.declared.name.Binder.{Binder}
use Rattle.lq_text_tree.specs.Pattern.{bound_in_all}
use Rattle.lq_text_tree.specs.PatternView.{pats_items, patterns_of}
use Rattle.lq_text_resolve.specs.Binding.Binding.{numbered_all}
use Rattle.lq_text_resolve.proofs.BindingLemmas.PatternRows.{seen, row_of, seen_binders}
use Rattle.lq_text_resolve.proofs.binding.patterns.+numbered.Given as goal

abbrev pub invariant-numbered_all-loop-at : goal.invariant-numbered_all-loop-at
invariant-numbered_all-loop-at l =
    (patterns_of (map seen_binders (pats_items Binder l.patterns)) ≡ numbered_all l.fn.next (patterns_of (map seen (take l.at (row_of l.row)))))
    × (l.next ≡ l.fn.next + length (bound_in_all (patterns_of (map seen (take l.at (row_of l.row))))))
