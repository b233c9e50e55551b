use Rattle.std.proofs.Common.{◌≡◌, ◌∙◌, ap, sym, filter, refl, rules}
use Rattle.std.specs.Ordering.{nat_cmp}
use Rattle.std.specs.BTreeMap.{IsOrdered}
use Rattle.lq_logic_predicates.specs.Comparison.{entry}
use Rattle.lq_logic_predicates.proofs.RowParts.{is_nonzero, ascends_from_map, entry-filter, entry-at, row_parts}
use Rattle.lq_logic_predicates.proofs.gathering.row_of.Goals as goal

pub new-requires : goal.new-requires
new-requires c =
    let parts : c.in_ok-parts.parts.items ≡ filter is_nonzero c.args.coefficients.entries = search rules in
    let ordered : IsOrdered nat_cmp c.args.coefficients = c.into_iter.ensures.into_iter_gives.5 in
    row_parts c.args.coefficients.entries c.in_ok-parts.parts.items _ (ascends_from_map c.args.coefficients ordered) parts refl

pub returns-clause-coefficients : goal.returns-clause-coefficients
returns-clause-coefficients c = λ q.
    let parts : c.in_ok-parts.parts.items ≡ filter is_nonzero c.args.coefficients.entries = search rules in
    let ordered : IsOrdered nat_cmp c.args.coefficients = c.into_iter.ensures.into_iter_gives.5 in
    ap (λ r. entry r.parts q) c.new.ensures ∙ ap (λ l. entry l q) parts
    ∙ entry-filter 0 q c.args.coefficients.entries (ascends_from_map c.args.coefficients ordered) ∙ sym (entry-at c.args.coefficients q)
