use Rattle.std.proofs.Common.{true, length, subst, ◌∙◌}
use Rattle.lq_logic_predicates.specs.NnfView.{nnf_view}
use Rattle.lq_logic_predicates.specs.PredView.{formula_of}
use Rattle.lq_logic_predicates.specs.Reading.{reading_of}
use Rattle.lq_logic_predicates.specs.TableView.{terms_of}
use Rattle.lq_cases_prover.specs.Decide.Reading.{IsRowBelow}
use Rattle.lq_cases_prover.proofs.DecideLemmas.Below.{gathered_below, on_ok}
use Rattle.lq_cases_prover.proofs.decide.reading.add_literals.Goals as goal

pub returns-in-Ok-clause-below : goal.returns-in-Ok-clause-below
returns-in-Ok-clause-below c =
    let terms = terms_of c.args.table.now in
    let r = nnf_view c.in-Ok.reading in
    let below : IsRowBelow (length (terms_of c.tighten.new.table)) r =
    gathered_below c.rows_say_what_comparisons_say.ensures.within (terms_of c.tighten.new.table) (reading_of true (formula_of c.args.pred.now)) r c.in-Ok.ensures.reading in
    on_ok c.take.result
    (λ f. f (length terms) c.requires.below (subst (λ l. IsRowBelow (length l) r) (c.in-Ok.ensures.numbered ∙ c.requires.numbered) below)) c.take.ensures
