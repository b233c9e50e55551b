use Rattle.std.proofs.Common.{subst, sym}
use Rattle.std.proofs.lemmas.List.Elements.{All-drop, All-take}
use Rattle.lq_logic_predicates.specs.NnfView.{nnf_view}
use Rattle.lq_prover_search.specs.Search.Scope.{IsWithin}
use Rattle.lq_cases_prover.specs.Prover.Speaking.{AllWithin}
use Rattle.lq_cases_prover.proofs.prover.goals.gathered.Goals as goal

pub outcome_of-requires-clause-hypotheses : goal.outcome_of-requires-clause-hypotheses
outcome_of-requires-clause-hypotheses c = λ s h.
    subst (AllWithin s) (sym c.split_at.ensures.front)
    (All-take (λ r. IsWithin s (nnf_view r)) c.args.count c.as_slice.result.now (subst (AllWithin s) (sym c.as_slice.ensures) (c.in_ok-readings.ensures.speak s h)))

pub outcome_of-requires-clause-goals : goal.outcome_of-requires-clause-goals
outcome_of-requires-clause-goals c = λ s h.
    subst (AllWithin s) (sym c.split_at.ensures.back)
    (All-drop (λ r. IsWithin s (nnf_view r)) c.args.count c.as_slice.result.now (subst (AllWithin s) (sym c.as_slice.ensures) (c.in_ok-readings.ensures.speak s h)))
