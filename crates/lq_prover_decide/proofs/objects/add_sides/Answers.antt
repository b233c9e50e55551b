use Rattle.std.proofs.Common.{sym, subst}
use Rattle.lq_prover_decide.specs.Case.{fact_of}
use Rattle.lq_prover_case.specs.Equations.Naming.{HasSides, objects_of}
use Rattle.lq_prover_case.proofs.EquationsLemmas.Sides.{keeps_new, on_ok}
use Rattle.lq_logic_predicates.specs.TermView.{sum_of}
use Rattle.lq_prover_decide.proofs.objects.add_sides.Goals as goal

pub returns-in_ok-add-in-Same-clause-has : goal.returns-in_ok-add-in-Same-clause-has
returns-in_ok-add-in-Same-clause-has c =
    let mid = objects_of c.add.new.self in
    let new = objects_of c.add-in-Same.new.self in
    on_ok c.add-in-Same.result
    (λ e. let k = keeps_new mid new (sum_of c.in-Same.right) e in
    subst (λ f. HasSides new (fact_of f)) (sym c.in-Same.is)
    (k.0 (sum_of c.in-Same.left) (keeps_new (objects_of c.args.objects.now) mid (sum_of c.in-Same.left) c.in_ok-add-in-Same.ensures.added).1, k.1))
    c.add-in-Same.ensures.added
