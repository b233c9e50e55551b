use Rattle.lq_logic_predicates.specs.RowMeaning.{numbers_at}
use Rattle.lq_prover_proof_tree.proofs.TreesLemmas.Opening.{opening_met, applications_agree}
use Rattle.lq_prover_proof_tree.proofs.trees.laws.proved_implications_are_valid.Goals as goal

pub returns-clause-valid : goal.returns-clause-valid
returns-clause-valid c = λ terms i path tree d o h p point hypotheses negated.
    let says = c.rows_say_what_comparisons_say.ensures in
    let v = numbers_at terms p in
    let g = says.valuation terms p in
    c.proved_paths_have_no_point.ensures.none (record { terms = terms; applications = _ }) v p path tree d g (applications_agree i p point)
    ((opening_met terms v p (λ reading rows k. says.reading terms v p reading rows d g k) i path o).1 (hypotheses, negated)) h

pub returns-clause-met : goal.returns-clause-met
returns-clause-met c = λ terms v p i path d g o. opening_met terms v p (λ reading rows k. c.rows_say_what_comparisons_say.ensures.reading terms v p reading rows d g k) i path o
