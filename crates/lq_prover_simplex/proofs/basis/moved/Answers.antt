use Rattle.std.proofs.Common.{◌≡◌, rules, pos, refl, sym, ap, subst, ◌∙◌, [], ◌∷◌, Err}
use Rattle.lq_base_numbers.specs.Rationals.Rational.{◌+ℚ◌, ◌*ℚ◌}
use Rattle.lq_base_numbers.specs.Rationals.Solver.{var, con, ◌⊕◌, ◌⊗◌, solve}
use Rattle.lq_base_numbers.specs.Fractions.Value.{value_of}
use Rattle.lq_prover_simplex.specs.Lines.{factor_of}
use Rattle.lq_base_numbers.specs.declared.fractions.past.NumOp.TheVariants.{Add, Mul}
use Rattle.lq_prover_simplex.specs.Operations.{IsMoved}
use Rattle.lq_prover_simplex.proofs.Operations.{past_in, past_was, past_carried}
use Rattle.lq_prover_simplex.proofs.basis.moved.Goals as goal

pub returns-in-None-clause-exact : goal.returns-in-None-clause-exact
returns-in-None-clause-exact c =
    solve (value_of c.args.value.now ∷ value_of c.args.by.now ∷ []) (var 0) (var 0 ⊕ con (pos 0) ⊗ var 1) refl
    ∙ ap (λ t. value_of c.args.value.now +ℚ t *ℚ value_of c.args.by.now) (sym c.in-None.ensures.none)

pub returns-in_err-mul-in-Some-clause-stop : goal.returns-in_err-mul-in-Some-clause-stop
returns-in_err-mul-in-Some-clause-stop c =
    let value = value_of c.args.value.now in let f = factor_of c.args.line.now c.args.variable in let by = value_of c.args.by.now in
    let Is = IsMoved value f by in
    let e = c.in_err-mul-in-Some.field-0.0 in
    let was : c.from_residual.result ≡ Err e = search rules in
    past_was Is c.from_residual.result e was
    (past_in Is e Mul c.in-Some.factor c.args.by.now c.in_err-mul-in-Some.ensures.carries c.in_err-mul-in-Some.ensures.past
    (subst (λ x. Is Mul x by) (sym c.in-Some.ensures.some.0) IsMoved.product))

pub returns-in_ok-mul-in-Some-clause-stop : goal.returns-in_ok-mul-in-Some-clause-stop
returns-in_ok-mul-in-Some-clause-stop c =
    let value = value_of c.args.value.now in let f = factor_of c.args.line.now c.args.variable in let by = value_of c.args.by.now in
    let Is = IsMoved value f by in
    past_carried Is c.add.result Add c.args.value.now c.in_ok-mul-in-Some.field-0 c.add.ensures.past c.add.ensures.carries
    (subst (λ y. Is Add value y) (sym (c.in_ok-mul-in-Some.ensures.exact ∙ ap (λ t. t *ℚ by) c.in-Some.ensures.some.0)) IsMoved.sum)
