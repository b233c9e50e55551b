use Rattle.std.proofs.Common.{◌∙◌, Some, ap, sym, subst}
use Rattle.lq_solve_facts.specs.Facts.Known.{IsReadOf}
use Rattle.lq_solve_facts.proofs.FactsLemmas.Holding.{keeps_self}
use Rattle.lq_refined_types.specs.Parts.Substitution.{formula_by}
use Rattle.lq_logic_predicates.specs.PredView.{formula_of}
use Rattle.lq_refined_substitution.specs.Substitution.Views.{subst_view}
use Rattle.lq_solve_facts.proofs.store.reading.read_instance.Goals as goal

pub returns-in-Some-clause-read : goal.returns-in-Some-clause-read
returns-in-Some-clause-read c = λ F a e.
    let f = formula_by (subst_view c.args.by.now) (formula_of c.args.instance.now) in
    subst (λ x. IsReadOf c.args.known.now x f) (sym c.in_ok-shared.ensures.cases) (a c.args.place c.args.number c.in-Some.read.now.value f c.in-Some.ensures e)

pub returns-in-Some-clause-keeps : goal.returns-in-Some-clause-keeps
returns-in-Some-clause-keeps c = keeps_self _

pub returns-in_err-shared-clause-keeps : goal.returns-in_err-shared-clause-keeps
returns-in_err-shared-clause-keeps c = keeps_self _

pub returns-in_err-made-clause-keeps : goal.returns-in_err-made-clause-keeps
returns-in_err-made-clause-keeps c = keeps_self _

pub returns-clause-read : goal.returns-clause-read
returns-clause-read c = λ F a e. subst (IsReadOf c.read_new.new.known c.in_ok-read.read.value) c.in_ok-made.ensures c.in_ok-read.ensures.read

pub returns-clause-stored : goal.returns-clause-stored
returns-clause-stored c = λ F a e. c.read_new.ensures.stored F a (e ∙ ap Some (sym c.in_ok-made.ensures))

pub returns-in_err-read-clause-stored : goal.returns-in_err-read-clause-stored
returns-in_err-read-clause-stored c = λ F a e. c.read_new.ensures.stored F a (e ∙ ap Some (sym c.in_ok-made.ensures))
