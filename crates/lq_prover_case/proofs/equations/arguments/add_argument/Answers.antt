use Rattle.std.proofs.Common.{◌∙◌, sym, ap, subst, inl, inr}
use Rattle.lq_prover_case.specs.Equations.Naming.{HasArgument, objects_of}
use Rattle.lq_prover_case.proofs.EquationsLemmas.Sides.{keeps_either, keeps_new, on_ok}
use Rattle.lq_logic_predicates.specs.Table.{with_term}
use Rattle.lq_logic_predicates.specs.TermView.{sum_of}
use Rattle.lq_prover_case.proofs.equations.arguments.add_argument.Goals as goal

pub returns-in-Length-clause-has : goal.returns-in-Length-clause-has
returns-in-Length-clause-has c =
    on_ok c.add.result
    (λ e. let h = (keeps_new (objects_of c.args.objects.now) (objects_of c.add.new.self) (sum_of c.in-Length.object.value)
    (e ∙ ap (λ t. with_term (objects_of c.args.objects.now) (sum_of t)) c.deref.ensures)).1 in
    elim c.in-Length.is [
      | inl p ↦ subst (λ t. HasArgument (objects_of c.add.new.self) (sum_of t)) (sym p) h
      | inr p ↦ subst (λ t. HasArgument (objects_of c.add.new.self) (sum_of t)) (sym p.1) h
    ])
    c.add.ensures.added

pub returns-in-Length-clause-keeps : goal.returns-in-Length-clause-keeps
returns-in-Length-clause-keeps c =
    keeps_either c.add.result (objects_of c.args.objects.now) (objects_of c.add.new.self) (sum_of c.deref.result.now) c.add.ensures.added c.add.ensures.refused
