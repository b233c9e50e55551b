use Rattle.std.proofs.Common.{sym, ap, subst, ◌∙◌}
use Rattle.lq_prover_decide.specs.Case.{Case}
use Rattle.lq_prover_decide.specs.CaseView.{case_of}
use Rattle.lq_cases_prover.specs.Decide.Pairs.{AreAlone}
use Rattle.lq_cases_prover.proofs.DecideLemmas.Decided.{decided}
use Rattle.lq_cases_prover.proofs.decide.deciding.gathered.Goals as goal

pub decided-requires-clause-pairs : goal.decided-requires-clause-pairs
decided-requires-clause-pairs c =
    decided (case_of c.new-literals.result)
    (subst AreAlone (sym (ap (λ (x : Case). x.terms) c.new-literals.ensures ∙ c.in_ok-facts.ensures.same)) (c.are_alone.ensures c.if-not-are_alone.false))
