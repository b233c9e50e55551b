use Rattle.std.proofs.Common.{sym, subst}
use Rattle.lq_refined_substitution.specs.Implications.Views.{environment_in}
use Rattle.lq_refined_types.specs.Parts.Refuting.{Speak}
use Rattle.lq_solve_facts.specs.Store.Kept.{AreRight}
use Rattle.lq_solve_facts.specs.Store.Places.{formula_at}
use Rattle.lq_solve_facts.proofs.StoreLemmas.Levels.{right_none}
use Rattle.lq_solve_facts.proofs.StoreLemmas.Ways.{told_nothing}
use Rattle.lq_solve_facts.proofs.store.kept.Kept.begin_anew.Goals as goal

pub returns-clause-kept : goal.returns-clause-kept
returns-clause-kept c = λ A es. subst (AreRight A es c.renew.new.known) (sym c.begin_empty.ensures.none) (right_none A es c.renew.new.known)

pub returns-clause-nothing : goal.returns-clause-nothing
returns-clause-nothing c = λ A es env e. record {
  holds = λ p m. c.renew.ensures.held c.begin_empty.ensures.held p;
  reads = told_nothing A c.renew.new.known (environment_in es env) e;
  named = λ u s. absurd (subst (Speak u) e s);
}

pub returns-clause-stored : goal.returns-clause-stored
returns-clause-stored c = λ I es cs h. c.renew.ensures.stored (formula_at I es cs) (c.begin_empty.ensures.stored I es cs h)
