use Rattle.std.proofs.Common.{sym, subst}
use Rattle.lq_refined_substitution.specs.Implications.Views.{environment_in}
use Rattle.lq_refined_types.specs.Parts.Refuting.{Speak}
use Rattle.lq_solve_facts.specs.Store.Kept.{AreRight}
use Rattle.lq_solve_facts.specs.Store.Places.{formula_at}
use Rattle.lq_solve_facts.proofs.StoreLemmas.Levels.{right_none}
use Rattle.lq_solve_facts.proofs.StoreLemmas.Readings.{stored_same}
use Rattle.lq_solve_facts.proofs.StoreLemmas.Ways.{told_nothing}
use Rattle.lq_solve_facts.proofs.store.kept.Kept.begin_empty.Goals as goal

pub returns-clause-kept : goal.returns-clause-kept
returns-clause-kept c = λ A es. subst (AreRight A es c.back_to.new.self) (sym c.clear.ensures.items) (right_none A es c.back_to.new.self)

pub returns-clause-held : goal.returns-clause-held
returns-clause-held c = λ p. c.back_to.ensures.hold p (λ v a. tt)

pub returns-clause-nothing : goal.returns-clause-nothing
returns-clause-nothing c = λ A es env e. record {
  holds = λ p m. c.back_to.ensures.hold p (λ v a. tt);
  reads = told_nothing A c.back_to.new.self (environment_in es env) e;
  named = λ u s. absurd (subst (Speak u) e s);
}

pub returns-clause-stored : goal.returns-clause-stored
returns-clause-stored c = λ I es cs h. stored_same (formula_at I es cs) c.args.self.now.known c.back_to.new.self c.args.self.now.store c.back_to.ensures.terms h
