use Rattle.std.proofs.Common.{◌≡◌, ◌∙◌, Some, true, sym, ap, subst}
use Rattle.lq_prover_case.specs.Equations.Naming.{HasArgument, objects_of}
use Rattle.lq_prover_case.proofs.EquationsLemmas.Joining.{place_within}
use Rattle.lq_logic_predicates.specs.Table.{has_term}
use Rattle.lq_logic_predicates.specs.TableView.{terms_of}
use Rattle.lq_logic_predicates.specs.TermView.{sum_of}
use Rattle.lq_prover_case.proofs.equations.equating.application_at.Goals as goal

pub term-requires : goal.term-requires
term-requires c = place_within (terms_of c.args.table.now) c.args.index c.args.term c.requires.place

pub number-requires : goal.number-requires
number-requires c =
    subst (λ t. has_term (objects_of c.args.objects.now) (sum_of t) ≡ true) (sym c.deref.ensures)
    (subst (λ t. HasArgument (objects_of c.args.objects.now) (sum_of t)) c.in-Length.is (c.requires.arguments c.args.term (sum_of c.term.result.now) c.term.ensures))

pub number-requires-in-Measure : goal.number-requires-in-Measure
number-requires-in-Measure c =
    subst (λ t. has_term (objects_of c.args.objects.now) (sum_of t) ≡ true) (sym c.deref-in-Measure.ensures)
    (subst (λ t. HasArgument (objects_of c.args.objects.now) (sum_of t)) c.in-Measure.is (c.requires.arguments c.args.term (sum_of c.term.result.now) c.term.ensures))

pub returns-in-Length-clause-is : goal.returns-in-Length-clause-is
returns-in-Length-clause-is c = record {
  place = c.requires.place;
  argument = sum_of c.in-Length.object.value;
  object = c.number.ensures ∙ ap (λ t. Some (sum_of t)) c.deref.ensures;
  term = c.term.ensures ∙ ap (λ t. Some (sum_of t)) c.in-Length.is;
}

pub returns-in-Measure-clause-is : goal.returns-in-Measure-clause-is
returns-in-Measure-clause-is c = record {
  place = c.requires.place;
  argument = sum_of c.in-Measure.object.value;
  object = c.number-in-Measure.ensures ∙ ap (λ t. Some (sum_of t)) c.deref-in-Measure.ensures;
  term = c.term.ensures ∙ ap (λ t. Some (sum_of t)) c.in-Measure.is;
}
