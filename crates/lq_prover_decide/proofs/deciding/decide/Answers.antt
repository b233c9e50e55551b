use Rattle.std.proofs.Common.{◌∙◌, ap, sym}
use Rattle.lq_prover_decide.specs.CaseView.{case_of}
use Rattle.lq_prover_decide.proofs.Small.{SizesFit, if_fits}
use Rattle.lq_logic_predicates.specs.Table.{all_differ}
use Rattle.lq_prover_decide.proofs.deciding.decide.Goals as goal

pub returns-clause-fits : goal.returns-clause-fits
returns-clause-fits c =
    let case = case_of c.args.literals.now in
    let e = c.small_rows_fit.ensures in
    let laws : SizesFit = record {
      work = e.work;
      placed = e.placed;
      near = e.near;
      sums = e.sums;
      there = c.rows_are_there.ensures.there;
      agree = c.levels_agree.ensures;
      within = c.rows_say_what_comparisons_say.ensures.within;
    } in
    let distinct = ap all_differ (sym c.table.ensures) ∙ c.len-terms.ensures.distinct in
    if_fits c.args.limit case c.decide_case.result laws distinct c.requires.fits c.decide_case.ensures.stop
