use Rattle.std.proofs.Common.{◌≡◌, ◌∷◌, [], rules, pos, refl, subst, sym, ◌∙◌, Err}
use Rattle.lq_base_numbers.specs.Rationals.Solver.{var, con, ◌⊕◌, ◌⊗◌, solve}
use Rattle.lq_base_numbers.specs.Fractions.Value.{value_of}
use Rattle.lq_base_numbers.specs.declared.fractions.past.NumOp.TheVariants.{Add, Mul}
use Rattle.lq_prover_simplex.specs.Operations.{IsJoining}
use Rattle.lq_prover_simplex.proofs.Operations.{past_in, past_was, past_carried}
use Rattle.lq_prover_simplex.proofs.fractions.joined.Goals as goal

pub returns-in-None-left-clause-exact : goal.returns-in-None-left-clause-exact
returns-in-None-left-clause-exact c =
    rw (c.in-None.is, c.in-None-left.is) (c.whole.ensures.value ∙ solve (value_of c.args.times.now ∷ []) (con (pos 0)) (con (pos 0) ⊕ var 0 ⊗ con (pos 0)) refl)

pub returns-in-Some-left-clause-exact : goal.returns-in-Some-left-clause-exact
returns-in-Some-left-clause-exact c =
    rw (c.in-None.is, c.in-Some-left.is) (solve (value_of c.in-Some-left.factor ∷ value_of c.args.times.now ∷ []) (var 0) (var 0 ⊕ var 1 ⊗ con (pos 0)) refl)

pub returns-in-None-left-2-clause-exact : goal.returns-in-None-left-2-clause-exact
returns-in-None-left-2-clause-exact c =
    rw (c.in-Some.is, c.in-None-left-2.is)
    (c.in_ok-product-in-Some.ensures.exact ∙ solve (value_of c.args.times.now ∷ value_of c.in-Some.other ∷ []) (var 0 ⊗ var 1) (con (pos 0) ⊕ var 0 ⊗ var 1) refl)

pub returns-in_err-product-in-Some-clause-stop : goal.returns-in_err-product-in-Some-clause-stop
returns-in_err-product-in-Some-clause-stop c =
    let Is = IsJoining c.args.left (value_of c.args.times.now) c.args.right in
    let e = c.in_err-product-in-Some.field-0.0 in
    let was : c.from_residual.result ≡ Err e = search rules in
    past_was Is c.from_residual.result e was
    (past_in Is e Mul c.args.times.now c.in-Some.other c.in_err-product-in-Some.ensures.carries c.in_err-product-in-Some.ensures.past (IsJoining.product c.in-Some.other c.in-Some.is))

pub returns-in-Some-left-2-clause-stop : goal.returns-in-Some-left-2-clause-stop
returns-in-Some-left-2-clause-stop c =
    let Is = IsJoining c.args.left (value_of c.args.times.now) c.args.right in
    let d = c.in-Some-left-2.factor in let f = c.in-Some.other in let p = c.in_ok-product-in-Some.product in
    past_carried Is c.add.result Add d p c.add.ensures.past c.add.ensures.carries
    (subst (Is Add (value_of d)) (sym c.in_ok-product-in-Some.ensures.exact) (IsJoining.sum d f c.in-Some-left-2.is c.in-Some.is))
