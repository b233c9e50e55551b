use Rattle.std.proofs.Common.{◌∙◌, length, sym, ap, subst}
use Rattle.std.proofs.lemmas.List.{length-take-le}
use Rattle.lq_logic_rows.specs.Contradiction.{Tagged}
use Rattle.lq_prover_differences.specs.Table.{table_rows}
use Rattle.lq_cases_engines.specs.Differences.Numbered.{AreNumbered}
use Rattle.lq_cases_engines.proofs.DifferencesLemmas.Numbering.{numbered_take}
use Rattle.lq_cases_engines.proofs.differences.sequence.back.Goals as goal

pub returns-clause-kept : goal.returns-clause-kept
returns-clause-kept c = record {
  numbered = subst (λ (l : Tagged). AreNumbered 0 l) (sym c.back_to.ensures.stands) (numbered_take 0 c.args.left (table_rows c.args.table.now) c.requires.kept.numbered);
  limits = c.back_to.ensures.limits ∙ c.requires.kept.limits;
  going = λ h. absurd (cc (h, c.back_to.ensures.last));
}

pub returns-clause-count : goal.returns-clause-count
returns-clause-count c = ap length c.back_to.ensures.stands ∙ length-take-le c.args.left (table_rows c.args.table.now) c.requires.left
