use Rattle.std.proofs.Common.{◌∷◌, [], ◌∙◌, length, length-append, sym, ap, subst, arith}
use Rattle.lq_logic_rows.specs.Contradiction.{Tagged}
use Rattle.lq_prover_differences.specs.Table.{TakesRow, table_rows}
use Rattle.lq_cases_engines.specs.Differences.Numbered.{AreNumbered}
use Rattle.lq_cases_engines.proofs.DifferencesLemmas.Numbering.{numbered_fresh, numbered_push}
use Rattle.lq_cases_engines.proofs.differences.sequence.add.Goals as goal

pub assert_row-requires-clause-takes : goal.assert_row-requires-clause-takes
assert_row-requires-clause-takes c =
    subst (λ l. TakesRow l (table_rows c.args.table.now) c.args.row.now) (sym c.requires.kept.limits) (c.requires.taken.difference, c.requires.taken.below, c.requires.room)

pub assert_row-requires-clause-fresh : goal.assert_row-requires-clause-fresh
assert_row-requires-clause-fresh c = numbered_fresh 0 (table_rows c.args.table.now) c.mark-tag.result.0 c.requires.kept.numbered (omega (arith, c.mark-tag.ensures))

pub returns-clause-kept : goal.returns-clause-kept
returns-clause-kept c = record {
  numbered = subst (λ (l : Tagged). AreNumbered 0 l) (sym c.in_ok-assert_row.ensures.stands)
      (numbered_push 0 (table_rows c.args.table.now) c.mark-tag.result.0 c.args.row.now c.requires.kept.numbered (omega (arith, c.mark-tag.ensures)));
  limits = c.assert_row.ensures.limits ∙ c.requires.kept.limits;
  going = λ h. absurd (cc (h, c.in_ok-assert_row.ensures.last));
}

pub returns-clause-count : goal.returns-clause-count
returns-clause-count c = ap length c.in_ok-assert_row.ensures.stands ∙ length-append (table_rows c.args.table.now) ((c.mark-tag.result.0, c.args.row.now) ∷ [])
