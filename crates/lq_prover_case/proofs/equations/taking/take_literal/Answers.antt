use Rattle.std.proofs.Common.{◌+◌, length, sym, subst}
use Rattle.lq_prover_case.specs.State.PathState.{objects_in}
use Rattle.lq_prover_case.specs.Equations.Literals.{literal_fact}
use Rattle.lq_prover_case.specs.Equations.Naming.{IsTold, objects_of}
use Rattle.lq_prover_case.proofs.EquationsLemmas.Told.{more_push, told_push}
use Rattle.lq_logic_predicates.specs.TermView.{sum_of}
use Rattle.lq_prover_case.proofs.equations.taking.take_literal.Goals as goal

pub returns-in-Ok-take_same-clause-told : goal.returns-in-Ok-take_same-clause-told
returns-in-Ok-take_same-clause-told c =
    let objects = objects_of c.args.objects.now in
    let old = objects_in c.args.state.now in
    let new = objects_in c.take_same.new.self in
    subst (λ f. IsTold objects new (literal_fact f)) (sym c.in-Same.is)
    (told_push objects old new (record { left = c.number-left.result; right = c.number-right.result; one = c.in-Same.one; number = length c.args.state.now.steps + 1 }) (sum_of c.in-Same.left.now)
    (sum_of c.in-Same.right.now) c.in-Ok-take_same.ensures.told c.number-left.ensures c.number-right.ensures)

pub returns-in-Ok-take_same-clause-more : goal.returns-in-Ok-take_same-clause-more
returns-in-Ok-take_same-clause-more c =
    more_push (objects_in c.args.state.now) (objects_in c.take_same.new.self)
    (record { left = c.number-left.result; right = c.number-right.result; one = c.in-Same.one; number = length c.args.state.now.steps + 1 }) c.in-Ok-take_same.ensures.told
